use Rattle.std.proofs.Common.{length}
use Rattle.bounds_weights.proofs.stage_needs.+updates_needs.Given as goal

abbrev pub decreases-updates_needs : goal.decreases-updates_needs
decreases-updates_needs l = length l.updates.now
