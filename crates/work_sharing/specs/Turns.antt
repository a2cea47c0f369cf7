-- Words for lists of turns of harts that share their work by words of control: who wrote what, traps, races, waiting, rounds. Phases are
-- numbers here, by which the words of control are counted; what a phase does, and its code, is named nowhere. This project's own. Data begins
-- with two words for each phase: at 0x00200000 + 8 * k the ticket word of phase k, and four bytes on its gate word.
use Rattle.std.specs.Prelude.{◌≡◌, ◌≢◌, ◌<◌, ◌⊎◌, ℕ, zero, suc, ◌+◌, ◌*◌, ◌==◌, ◌||◌, ◌&&◌, nat_le, nat_lt, Bool, true, false, if◌then◌else◌, List, [], ◌∷◌}
use Rattle.std.specs.Prelude.{◌++◌, length, slice_get, Option, Some, None}
use Rattle.std.specs.List.{list_all, list_any}
use Rattle.rv_insn.specs.declared.outcomes.Trap.{Trap}
use Rattle.memory.specs.Access.{data_start, word_at}
use Rattle.hart_core.specs.declared.harts.Status.TheVariants.{Trapped as HasTrapped}
use Rattle.hart_core.specs.HartState.{HartState}
use Rattle.hart_core.specs.Turn.{next_of}
use Rattle.multi_hart.specs.Run.{Within, is_in, reads, writes, State, turn, run}

-- ---- the words of control: of each phase one to draw tasks and one to wait at

abbrev pub ticket_word : ℕ → ℕ
ticket_word phase = data_start + 8 * phase

abbrev pub gate_word : ℕ → ℕ
gate_word phase = data_start + 8 * phase + 4

-- those of this many phases
abbrev pub control_words : ℕ → List ℕ
control_words zero = []
control_words (suc phases) = control_words phases ++ (ticket_word phases ∷ gate_word phases ∷ [])

-- the byte is one of these words
abbrev pub is_byte_of : List ℕ → ℕ → Bool
is_byte_of words place = list_any (λ word. nat_le word place && nat_lt place (word + 4)) words

-- ---- who wrote what

-- the places that a hart's next turn writes
abbrev pub written_by_one : State → Option HartState → List ℕ
written_by_one state None = []
written_by_one state (Some one) = writes (next_of state.text (length state.memory) one) one

abbrev pub written_next : State → ℕ → List ℕ
written_next state hart = written_by_one state (slice_get state.harts hart)

-- the hart of the last of the turns that writes the byte; where none does, what was known before
abbrev pub last_writer : ℕ → Option ℕ → State → List ℕ → Option ℕ
last_writer place known state [] = known
last_writer place known state (hart ∷ turns) =
    last_writer place (if is_in place (written_next state hart) then Some hart else known) (turn state hart) turns

-- the places that the next turn of `turning` writes where it is the hart's own and writes any, else the ones known before
abbrev pub or_known : Bool → List ℕ → List ℕ → List ℕ
or_known own [] known = known
or_known own (place ∷ places) known = if own then place ∷ places else known

-- the places that the hart's last writing turn wrote
abbrev pub last_written : ℕ → List ℕ → State → List ℕ → List ℕ
last_written hart known state [] = known
last_written hart known state (turning ∷ turns) =
    last_written hart (or_known (turning == hart) (written_next state turning) known) (turn state turning) turns

-- any byte of the word is among the places
abbrev pub is_word_in : ℕ → List ℕ → Bool
is_word_in word places = is_in word places || is_in (word + 1) places || is_in (word + 2) places || is_in (word + 3) places

-- how many of the turns are the hart's and write a byte of the word
abbrev pub times_written : ℕ → ℕ → State → List ℕ → ℕ
times_written hart word state [] = 0
times_written hart word state (turning ∷ turns) =
    (if turning == hart && is_word_in word (written_next state turning) then 1 else 0) + times_written hart word (turn state turning) turns

-- ---- traps and races

-- no hart has trapped
abbrev pub NoTrap : State → Type 0
NoTrap state = (number : ℕ) (hart : HartState) (trap : Trap) → slice_get state.harts number ≡ Some hart → hart.status ≢ HasTrapped trap

-- Two harts' next turns both touch a byte that is in none of these words, and the first writes it. (A hart that doesn't run touches nothing,
-- and only bytes of data are written.)
pub record Race (control : List ℕ) (state : State) : Type 0 where
  pub first : ℕ
  pub second : ℕ
  pub apart : first ≢ second
  pub one : HartState
  pub other : HartState
  pub is_first : slice_get state.harts first ≡ Some one
  pub is_second : slice_get state.harts second ≡ Some other
  pub place : ℕ
  pub no_control : is_byte_of control place ≡ false
  pub written : is_in place (writes (next_of state.text (length state.memory) one) one) ≡ true
  pub touched : (is_in place (reads (next_of state.text (length state.memory) other) other) ≡ true)
      ⊎ (is_in place (writes (next_of state.text (length state.memory) other) other) ≡ true)

-- ---- which harts make turns

-- the turns are of harts that are there
abbrev pub Name : ℕ → List ℕ → Type 0
Name harts turns = Within (λ turning. turning < harts) turns

-- turns of one hart alone
abbrev pub OnlyBy : ℕ → List ℕ → Type 0
OnlyBy hart [] = Unit {0}
OnlyBy hart (turning ∷ turns) = (turning ≡ hart) × OnlyBy hart turns

-- each hart below `harts` has a turn among these; it may have more, and turns of harts that aren't there do nothing
abbrev pub is_round : ℕ → List ℕ → Bool
is_round zero turns = true
is_round (suc hart) turns = is_in hart turns && is_round hart turns

abbrev pub are_rounds : ℕ → List (List ℕ) → Bool
are_rounds harts rounds = list_all (is_round harts) rounds

-- ---- waiting

-- what the gate word of a phase holds: each hart that comes there adds 1
abbrev pub arrived : State → ℕ → ℕ
arrived state phase = word_at state.text state.memory (gate_word phase)

-- the hart's last writing turn wrote the gate word of a phase that isn't the last, which is below the number of harts
pub record Waits (last hart : ℕ) (begin : State) (turns : List ℕ) : Type 0 where
  pub k : ℕ
  pub within : k < last
  pub wrote : is_word_in (gate_word k) (last_written hart [] begin turns) ≡ true
  pub below : arrived (run begin turns) k < length begin.harts
