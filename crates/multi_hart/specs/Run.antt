-- The whole machine, its state at the start, one turn of a named hart, and runs of turns: one event is one
-- whole instruction of one named hart, and events come one after the other; what a turn depends on and changes, and turns that
-- don't conflict. This project's own.
use Rattle.std.specs.Prelude.{◌≡◌, ℕ, zero, suc, List, [], ◌∷◌, ◌++◌, length, slice_get, slice_set, slice_index_or, Option, Some, None, Bool, ◌≢◌, ◌==◌, true}
use Rattle.std.specs.Prelude.{false, if◌then◌else◌}
use Rattle.std.specs.List.{list_all}
use Rattle.rv_insn.specs.declared.outcomes.Outcome.{Outcome}
use Rattle.rv_insn.specs.declared.outcomes.Outcome.TheVariants.{Idle}
use Rattle.rv_insn.specs.declared.outcomes.Trap.{Trap}
use Rattle.memory.specs.Access.{Reads, fault_of, word_at, byte_at, put, NotIn, touched, read_by, written_by}
use Rattle.hart_core.specs.HartState.{HartState, opening_hart, has_finished}
use Rattle.hart_core.specs.Turn.{Step, step, Next, Rests, Traps, Does, next_of, Effect, effect}
use Rattle.hart_core.specs.Scalar.{kind_of, accesses}

-- words of text, bytes of data, and the harts from number 0 on
pub record State : Type 0 where
  pub text : List ℕ
  pub memory : List ℕ
  pub harts : List HartState

-- ---- the start: every hart at the entry

-- the harts numbered below `numbers`, of `count` in all
abbrev pub opening_harts : ℕ → ℕ → ℕ → List HartState
opening_harts entry count zero = []
opening_harts entry count (suc number) = opening_harts entry count number ++ opening_hart entry count number ∷ []

abbrev pub opened : ℕ → List ℕ → List ℕ → ℕ → State
opened entry text memory count = record { text = text; memory = memory; harts = opening_harts entry count count }

-- ---- a turn

-- the state after a hart's step is put back
abbrev pub put_back : State → ℕ → Step → State
put_back state hart after = record { text = state.text; memory = after.memory; harts = slice_set state.harts hart after.hart }

abbrev pub turned : State → ℕ → Option HartState → State
turned state hart None = state
turned state hart (Some one) = put_back state hart (step state.text state.memory one)

-- one turn of the hart of that number
abbrev pub turn : State → ℕ → State
turn state hart = turned state hart (slice_get state.harts hart)

abbrev pub told : State → Option HartState → Outcome
told state None = Idle
told state (Some one) = (step state.text state.memory one).outcome

-- what that turn comes to
abbrev pub outcome : State → ℕ → Outcome
outcome state hart = told state (slice_get state.harts hart)

-- ---- turns, one after the other

abbrev pub run : State → List ℕ → State
run state [] = state
run state (hart ∷ harts) = run (turn state hart) harts

-- what no turn changes: the text, and how much data and how many harts there are
pub record KeepsShape (old new : State) : Type 0 where
  pub text : new.text ≡ old.text
  pub bytes : length new.memory ≡ length old.memory
  pub harts : length new.harts ≡ length old.harts

-- ---- what a reader of the machine sees

-- the hart of a number below the number of harts (any other would read as a hart at the start)
abbrev pub hart_at : State → ℕ → HartState
hart_at state hart = slice_index_or state.harts hart (opening_hart 0 0 0)

abbrev pub if_no_fault : Option Trap → ℕ → Option ℕ
if_no_fault None n = Some n
if_no_fault (Some trap) n = None

-- the aligned word of text or data at an address, where one is
abbrev pub word_in : State → ℕ → Option ℕ
word_in state address =
    if_no_fault (fault_of (length state.text) (length state.memory) Reads address 4) (word_at state.text state.memory address)

-- ---- A machine has finished where all its harts have executed ECALL. This project's own.

abbrev pub all_finished : State → Bool
all_finished state = list_all (λ hart. has_finished hart.status) state.harts

-- ---- Which bytes a turn depends on and which it changes, and the two laws that follow: over one text and one size
-- of data, a turn depends on its hart and on the bytes that it reads alone, and turns that do not conflict may be made in either order.

-- the addresses of the bytes that a hart's next turn reads, and of those that it writes
abbrev pub reads : Next → HartState → List ℕ
reads Rests hart = []
reads (Traps trap) hart = []
reads (Does insn) hart = touched (read_by (kind_of insn) (accesses insn hart))

abbrev pub writes : Next → HartState → List ℕ
writes Rests hart = []
writes (Traps trap) hart = []
writes (Does insn) hart = touched (written_by (kind_of insn) (accesses insn hart))

-- the place is one of these
abbrev pub is_in : ℕ → List ℕ → Bool
is_in place [] = false
is_in place (other ∷ others) = if place == other then true else is_in place others

-- two memories hold the same bytes at these places
abbrev pub Agree : (ℕ → ℕ) → (ℕ → ℕ) → List ℕ → Type 0
Agree f g [] = Unit {0}
Agree f g (place ∷ places) = (f place ≡ g place) × Agree f g places

-- every place of the list keeps a rule
abbrev pub Within : (ℕ → Type 0) → List ℕ → Type 0
Within rule [] = Unit {0}
Within rule (place ∷ places) = rule place × Within rule places

-- no place of the first list is in the second
abbrev pub Apart : List ℕ → List ℕ → Type 0
Apart [] others = Unit {0}
Apart (place ∷ places) others = NotIn place others × Apart places others

-- the next turns of two harts touch no byte in common that either writes
pub record NoConflict (text : List ℕ) (bytes : ℕ) (g h : HartState) : Type 0 where
  pub first_reads : Apart (reads (next_of text bytes g) g) (writes (next_of text bytes h) h)
  pub second_reads : Apart (reads (next_of text bytes h) h) (writes (next_of text bytes g) g)
  pub both_write : Apart (writes (next_of text bytes g) g) (writes (next_of text bytes h) h)

-- Over two data of one size that agree on the bytes that the hart's next turn reads, the turn has one effect.
abbrev pub Frame : Type 0
Frame =
    (text memory memory' : List ℕ) (hart : HartState) → length memory ≡ length memory'
    → Agree (byte_at text memory) (byte_at text memory') (reads (next_of text (length memory) hart) hart)
    → effect text memory hart ≡ effect text memory' hart

-- The same where what is read keeps a rule, and the two data agree on every byte that keeps it.
abbrev pub FrameWithin : Type 0
FrameWithin =
    (rule : ℕ → Bool) (text memory memory' : List ℕ) (hart : HartState) → length memory ≡ length memory'
    → ((place : ℕ) → rule place ≡ true → byte_at text memory place ≡ byte_at text memory' place)
    → Within (λ place. rule place ≡ true) (reads (next_of text (length memory) hart) hart)
    → effect text memory hart ≡ effect text memory' hart

-- A turn of a hart that is there puts its effect back: the bytes that it writes, and the hart.
abbrev pub TurnIs : Type 0
TurnIs =
    (state : State) (hart : ℕ) (one : HartState) (e : Effect) → slice_get state.harts hart ≡ Some one
    → effect state.text state.memory one ≡ e
    → turn state hart ≡ record { text = state.text; memory = put state.memory e.places e.bytes; harts = slice_set state.harts hart e.hart }

-- What a turn writes are the places that `writes` lists.
abbrev pub PlacesAre : Type 0
PlacesAre =
    (text memory : List ℕ) (hart : HartState)
    → (effect text memory hart).places ≡ writes (next_of text (length memory) hart) hart

-- A turn leaves every other hart.
abbrev pub OthersStay : Type 0
OthersStay = (state : State) (hart other : ℕ) → hart ≢ other → slice_get (turn state hart).harts other ≡ slice_get state.harts other

-- The turns of two harts with no conflict may be made in either order.
abbrev pub Commute : Type 0
Commute =
    (state : State) (a b : ℕ) (g h : HartState) → a ≢ b → slice_get state.harts a ≡ Some g → slice_get state.harts b ≡ Some h
    → NoConflict state.text (length state.memory) g h
    → turn (turn state a) b ≡ turn (turn state b) a
