-- The last of a list of turns that writes a word, beside the last writer of a byte that the theorem on assignments names.
-- This project's own.
use Rattle.std.specs.Prelude.{◌≡◌, ℕ, ◌+◌, Bool, if◌then◌else◌, option_and_then, slice_get, take, unwrap_or, List, [], ◌∷◌, Option, Some, None}
use Rattle.multi_hart.specs.Run.{State, hart_at, run, turn, word_in, is_in}
use Rattle.work_sharing.specs.Turns.{is_word_in, last_writer, written_next}
use Rattle.debugger_blame.specs.declared.writes.Write.{Write}

-- the number of the last of the turns whose places pass the test, where this many turns came before the first; where
-- none do, what was known before
abbrev pub last_turn : (List ℕ → Bool) → ℕ → Option ℕ → State → List ℕ → Option ℕ
last_turn test count known state [] = known
last_turn test count known state (hart ∷ turns) =
    last_turn test (count + 1) (if test (written_next state hart) then Some count else known) (turn state hart) turns

-- the last turn that writes a byte, and the last that writes a byte of a word
abbrev pub last_turn_of_byte : ℕ → State → List ℕ → Option ℕ
last_turn_of_byte place state turns = last_turn (is_in place) 0 None state turns

abbrev pub last_turn_of_word : ℕ → State → List ℕ → Option ℕ
last_turn_of_word word state turns = last_turn (is_word_in word) 0 None state turns

-- The hart of the last turn that writes a byte is the byte's last writer.
abbrev pub HartsAreLastWriters : Type 0
HartsAreLastWriters =
    (place : ℕ) (state : State) (turns : List ℕ) → last_writer place None state turns ≡ option_and_then (slice_get turns) (last_turn_of_byte place state turns)

-- what a word holds, and 0 where there is none
abbrev pub held : State → ℕ → ℕ
held state word = unwrap_or (word_in state word) 0

-- what is left in a word by the turn of a number; where there is none, what the word held before
abbrev pub left_by : State → List ℕ → ℕ → Option ℕ → ℕ
left_by begin turns word None = held begin word
left_by begin turns word (Some number) = held (turn (run begin (take number turns)) (unwrap_or (slice_get turns number) 0)) word

-- After turns a word holds what the last of them that wrote it left there.
abbrev pub LastWritesStay : Type 0
LastWritesStay = (begin : State) (turns : List ℕ) (word : ℕ) → held (run begin turns) word ≡ left_by begin turns word (last_turn_of_word word begin turns)

-- The turn is the last of the turns that writes a byte of the word; its hart, where that was, and what the word held before it and
-- after it.
pub record IsLastWrite (begin : State) (turns : List ℕ) (word : ℕ) (w : Write) : Type 0 where
  pub is_last : last_turn_of_word word begin turns ≡ Some w.turn
  pub hart_is : slice_get turns w.turn ≡ Some w.hart
  pub pc_is : w.pc ≡ (hart_at (run begin (take w.turn turns)) w.hart).pc
  pub before_is : w.before ≡ held (run begin (take w.turn turns)) word
  pub after_is : w.after ≡ held (turn (run begin (take w.turn turns)) w.hart) word

-- the last turn that writes the word, or that none does
abbrev pub Blames : State → List ℕ → ℕ → Option Write → Type 0
Blames begin turns word None = last_turn_of_word word begin turns ≡ None
Blames begin turns word (Some w) = IsLastWrite begin turns word w
