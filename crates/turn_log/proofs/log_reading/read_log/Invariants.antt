use Rattle.std.proofs.Common.{◌≡◌, ◌-◌, List, [], drop}
use Rattle.turn_log.specs.LogSpelling.{front_runs}
use Rattle.turn_log.specs.inner.SoFar.{IsOf}
use Rattle.turn_log.specs.declared.runs.Run.{Run}
use Rattle.turn_log.proofs.Judging.{with_front}
use Rattle.turn_log.proofs.log_reading.read_log.Given as goal

-- the log is of the runs so far, and these and those that are left are all the runs
abbrev pub invariant-loop : goal.invariant-loop
invariant-loop l =
    (before : List Run) × IsOf l.log before × (l.log.harts ≡ l.harts)
    × (with_front before (front_runs l.harts (l.count - l.counter) before l.rest) ≡ front_runs l.harts l.count [] (drop 16 l.bytes))
