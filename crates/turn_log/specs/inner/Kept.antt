-- How a log keeps its turns: as runs, each with the number of turns up to its end.
-- This project's own.
use Rattle.std.specs.Prelude.{◌≡◌, ℕ, ◌-◌, ◌<◌, ◌==◌, Bool, false, Option, Some, None, if◌then◌else◌, List, [], ◌∷◌, length, slice_index}
use Rattle.turn_log.specs.TurnLog.{LogState, IsLog, count_of}
use Rattle.turn_log.specs.LogSpelling.{begins_with, expanded}
use Rattle.turn_log.specs.declared.runs.Run.{Run}
use Rattle.turn_log.specs.inner.RunEnds.{RunEnd}

-- the runs of the kept runs after this many turns
abbrev pub runs_from : ℕ → List RunEnd → List Run
runs_from start [] = []
runs_from start (run_end ∷ run_ends) = record { hart = run_end.hart; length = run_end.end - start } ∷ runs_from run_end.end run_ends

-- the turns that the kept runs stand for
abbrev pub turns_of : List RunEnd → List ℕ
turns_of run_ends = expanded (runs_from 0 run_ends)

-- whether a kept run is there and is of the hart
abbrev pub is_of : Option RunEnd → ℕ → Bool
is_of None hart = false
is_of (Some run_end) hart = run_end.hart == hart

-- the kept runs with one more at the end, which takes the place of the last one if that is of the same hart
abbrev pub with_run : List RunEnd → RunEnd → List RunEnd
with_run [] run = run ∷ []
with_run (last ∷ []) run = if last.hart == run.hart then run ∷ [] else last ∷ run ∷ []
with_run (first ∷ (second ∷ others)) run = first ∷ with_run (second ∷ others) run

-- a run in front of others that is none of them
pub record IsRun (harts : ℕ) (run : Run) (runs : List Run) : Type 0 where
  pub below : run.hart < harts
  pub some : 0 < run.length
  pub other : begins_with runs run.hart ≡ false

-- none of the runs is empty, and no two neighbours are of one hart
abbrev pub AreRuns : ℕ → List Run → Type 0
AreRuns harts [] = Unit {0}
AreRuns harts (run ∷ runs) = IsRun harts run runs × AreRuns harts runs

-- what is true of the fields of each log
pub record IsKept (harts : ℕ) (totals : List ℕ) (run_ends : List RunEnd) : Type 0 where
  pub log : IsLog (record { harts = harts; turns = turns_of run_ends })
  pub runs : AreRuns harts (runs_from 0 run_ends)
  pub places : length totals ≡ 8
  pub counted : (hart : ℕ) → hart < 8 → slice_index totals hart ≡ count_of (turns_of run_ends) hart
