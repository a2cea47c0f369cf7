use Rattle.std.proofs.Common.{length}
use Rattle.hrv_map.proofs.phases.+push_phases.Given as goal

abbrev pub decreases-push_phases : goal.decreases-push_phases
decreases-push_phases l = length l.stages.now
