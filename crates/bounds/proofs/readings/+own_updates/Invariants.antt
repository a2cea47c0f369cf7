use Rattle.std.proofs.Common.{length}
use Rattle.bounds.proofs.readings.+own_updates.Given as goal

abbrev pub decreases-own_updates : goal.decreases-own_updates
decreases-own_updates l = length l.updates.now
