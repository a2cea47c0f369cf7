-- The first race of a log as a text. This project's own.
use Rattle.std.specs.Prelude.{ℕ, ◌*◌, ◌/◌, List, [], ◌∷◌, ◌++◌, codes, take, unwrap_or, Option, Some, None}
use Rattle.std.specs.Fmt.{decimal}
use Rattle.memory.specs.Access.{fetched}
use Rattle.multi_hart.specs.Run.{State, hart_at, run}
use Rattle.disassembler.specs.Listing.{hexadecimal_text, listed}
use Rattle.race_reports.specs.Races.{first_race}
use Rattle.race_reports.specs.declared.found.FirstRace.{FirstRace}

-- `hart H pc 0xPPPPPPPP `
unfoldable pub standing_text : ℕ → ℕ → List ℕ
standing_text hart pc = codes "hart " ++ decimal hart ++ codes " pc " ++ hexadecimal_text 8 pc ++ codes " "

-- and the instruction that is due
unfoldable pub hart_line : State → ℕ → List ℕ
hart_line state hart = standing_text hart (hart_at state hart).pc ++ listed (unwrap_or (fetched state.text (hart_at state hart).pc) 0)

-- `place K`
unfoldable pub place_line : ℕ → List ℕ
place_line place = codes "place " ++ decimal place ++ 10 ∷ []

-- `word 0xAAAAAAAA`, the word that has the byte
unfoldable pub word_line : ℕ → List ℕ
word_line byte = codes "word " ++ hexadecimal_text 8 (byte / 4 * 4) ++ 10 ∷ []

-- the lines of a race, in the state at its place
unfoldable pub race_text : State → FirstRace → List ℕ
race_text state found =
    place_line found.place ++ hart_line state found.turns.writer ++ hart_line state found.turns.other ++ word_line found.turns.byte

abbrev pub text_of : State → List ℕ → Option FirstRace → List ℕ
text_of begin turns None = codes "none" ++ 10 ∷ []
text_of begin turns (Some found) = race_text (run begin (take found.place turns)) found

-- the first race of turns from a state on, outside these words
abbrev pub races_text : List ℕ → State → List ℕ → List ℕ
races_text words begin turns = text_of begin turns (first_race words 0 begin turns)
