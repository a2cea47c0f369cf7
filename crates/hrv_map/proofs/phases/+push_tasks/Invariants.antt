use Rattle.std.proofs.Common.{length}
use Rattle.hrv_map.proofs.phases.+push_tasks.Given as goal

abbrev pub decreases-push_tasks : goal.decreases-push_tasks
decreases-push_tasks l = length l.stages.now
