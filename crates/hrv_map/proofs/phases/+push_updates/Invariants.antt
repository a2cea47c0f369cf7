use Rattle.std.proofs.Common.{length}
use Rattle.hrv_map.proofs.phases.+push_updates.Given as goal

abbrev pub decreases-push_updates : goal.decreases-push_updates
decreases-push_updates l = length l.updates.now
