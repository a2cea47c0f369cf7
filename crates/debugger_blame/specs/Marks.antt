-- What words of data are marked with: the hart of the last turn that writes the word, or the number of that turn.
-- This project's own.
use Rattle.std.specs.Prelude.{◌≡◌, ℕ, ◌+◌, ◌*◌, ◌%◌, ◌<◌, unwrap_or, slice_get, slice_index, List, length, Option, Some, None}
use Rattle.multi_hart.specs.Run.{State}
use Rattle.debugger_blame.specs.LastWrites.{last_turn_of_word}
use Rattle.debugger_blame.specs.declared.marks.Marking.{Marking}
use Rattle.debugger_blame.specs.declared.marks.Marking.TheVariants.{Harts, Turns}

-- the mark of a word by the number of the last turn that writes it: that turn's hart, or the number modulo 2^31; the word of -1 where
-- none does
abbrev pub mark_of : Marking → List ℕ → Option ℕ → ℕ
mark_of marking turns None = 4294967295
mark_of Harts turns (Some number) = unwrap_or (slice_get turns number) 0
mark_of Turns turns (Some number) = number % 2147483648

-- the mark of the word at an address after turns
abbrev pub mark_at : Marking → State → List ℕ → ℕ → ℕ
mark_at marking begin turns word = mark_of marking turns (last_turn_of_word word begin turns)

-- these are the marks of words that stand in a row, from the first one on
pub record AreMarks (marking : Marking) (first : ℕ) (begin : State) (turns marks : List ℕ) : Type 0 where
  pub each : (k : ℕ) → k < length marks → slice_index marks k ≡ mark_at marking begin turns (first + 4 * k)
