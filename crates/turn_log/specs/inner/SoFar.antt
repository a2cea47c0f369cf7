-- What a log is after some of the runs of its bytes are read.
-- This project's own.
use Rattle.std.specs.Prelude.{◌≡◌, ℕ, ◌<◌, List, [], ◌∷◌, ◌++◌, replicate}
use Rattle.std.specs.List.{AllByRecursion}
use Rattle.turn_log.specs.TurnLog.{LogState}
use Rattle.turn_log.specs.declared.runs.Run.{Run}

-- the turns of runs of which the last one is the first of the list
abbrev pub turns_before : List Run → List ℕ
turns_before [] = []
turns_before (run ∷ before) = turns_before before ++ replicate run.length run.hart

-- The log's turns are those of these runs, the nearest first.
pub record IsOf (log : LogState) (before : List Run) : Type 0 where
  pub turns : log.turns ≡ turns_before before
  pub some : AllByRecursion (λ run. 0 < run.length) before
