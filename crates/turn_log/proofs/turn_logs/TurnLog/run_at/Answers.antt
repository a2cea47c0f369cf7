use Rattle.std.proofs.Common.{subst, sym}
use Rattle.turn_log.specs.inner.Kept.{AreRuns, runs_from}
use Rattle.turn_log.proofs.turn_logs.TurnLog.run_at.Goals as goal

pub find_run-requires : goal.find_run-requires
find_run-requires c = (c.self.inside.harts, rw c.deref.ensures.value c.self.invariant.runs)
