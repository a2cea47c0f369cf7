-- A profile as a text: a line for each hart, and one for each word of text, in order of their addresses. This project's own.
use Rattle.std.specs.Prelude.{ℕ, zero, suc, ◌+◌, ◌*◌, List, [], ◌∷◌, ◌++◌, length, codes, slice_index}
use Rattle.std.specs.Fmt.{decimal}
use Rattle.memory.specs.Access.{text_start}
use Rattle.multi_hart.specs.Run.{State}
use Rattle.disassembler.specs.Listing.{hexadecimal_text, listed}
use Rattle.run_reports.specs.Profile.{idle_turns, turns_at, turns_made}

-- What is counted: by hart, the turns that it made while it ran and those when it didn't; and by hart and place of a word, those made there.
pub record Counts : Type 0 where
  pub made : ℕ → ℕ
  pub idle : ℕ → ℕ
  pub there : ℕ → ℕ → ℕ

-- what is counted of turns from a state on
abbrev pub counts_of : State → List ℕ → Counts
counts_of begin turns = record {
  made = λ hart. turns_made hart begin turns;
  idle = λ hart. idle_turns hart begin turns;
  there = λ hart place. turns_at hart (text_start + 4 * place) begin turns;
}

-- `hart H turns T idle I`
unfoldable pub hart_line : ℕ → ℕ → ℕ → List ℕ
hart_line hart made idle =
    codes "hart " ++ decimal hart ++ codes " turns " ++ decimal made ++ codes " idle " ++ decimal idle ++ 10 ∷ []

-- the lines of the first this many harts
unfoldable pub hart_lines : Counts → ℕ → List ℕ
hart_lines counts zero = []
hart_lines counts (suc hart) = hart_lines counts hart ++ hart_line hart (counts.made hart) (counts.idle hart)

-- the turns that the first this many harts made at a word, all together
unfoldable pub total : Counts → ℕ → ℕ → ℕ
total counts place zero = 0
total counts place (suc hart) = total counts place hart + counts.there hart place

-- and of each, a space before
unfoldable pub columns : Counts → ℕ → ℕ → List ℕ
columns counts place zero = []
columns counts place (suc hart) = columns counts place hart ++ 32 ∷ decimal (counts.there hart place)

-- `TOTAL C0 C1 .. 0xAAAAAAAA `
unfoldable pub place_text : Counts → ℕ → ℕ → List ℕ
place_text counts harts place =
    decimal (total counts place harts) ++ columns counts place harts ++ codes " " ++ hexadecimal_text 8 (text_start + 4 * place) ++ codes " "

-- and the instruction
unfoldable pub word_line : Counts → ℕ → ℕ → ℕ → List ℕ
word_line counts harts place word = place_text counts harts place ++ listed word

-- the lines of the first this many words
unfoldable pub word_lines : Counts → ℕ → List ℕ → ℕ → List ℕ
word_lines counts harts words zero = []
word_lines counts harts words (suc place) =
    word_lines counts harts words place ++ word_line counts harts place (slice_index words place)

-- all lines, over these words
abbrev pub lines_of : Counts → ℕ → List ℕ → List ℕ
lines_of counts harts words = hart_lines counts harts ++ word_lines counts harts words (length words)

-- the profile of turns from a state on
abbrev pub profile_text : State → List ℕ → List ℕ
profile_text begin turns = lines_of (counts_of begin turns) (length begin.harts) begin.text
