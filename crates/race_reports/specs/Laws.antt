-- What is told are races, as the theorem on programs means them, and none is left out. This project's own.
use Rattle.std.specs.Prelude.{◌≡◌, ℕ, ◌≤◌, ◌<◌, List, length, take, Some, None}
use Rattle.multi_hart.specs.Run.{State, run}
use Rattle.work_sharing.specs.Turns.{Race}
use Rattle.race_reports.specs.Races.{first_race}
use Rattle.race_reports.specs.declared.found.FirstRace.{FirstRace}

-- Where none is told, there is a race at no place.
abbrev pub NoneIsLeftOut : Type 0
NoneIsLeftOut =
    (words : List ℕ) (begin : State) (turns : List ℕ) → first_race words 0 begin turns ≡ None
    → (place : ℕ) → place ≤ length turns → Race words (run begin (take place turns)) → ⊥

-- What is told of a race: there is one of these harts over this byte at the place, and none at a place before.
pub record IsFirstRace (words : List ℕ) (begin : State) (turns : List ℕ) (found : FirstRace) : Type 0 where
  pub within : found.place ≤ length turns
  pub race : Race words (run begin (take found.place turns))
  pub writer_is : race.first ≡ found.turns.writer
  pub other_is : race.second ≡ found.turns.other
  pub byte_is : race.place ≡ found.turns.byte
  pub none_before : (place : ℕ) → place < found.place → Race words (run begin (take place turns)) → ⊥

abbrev pub ToldAreRaces : Type 0
ToldAreRaces =
    (words : List ℕ) (begin : State) (turns : List ℕ) (found : FirstRace) → first_race words 0 begin turns ≡ Some found
    → IsFirstRace words begin turns found
