use Rattle.std.proofs.Common.{length}
use Rattle.turn_traces.proofs.ranges.+touches_any.Given as goal

abbrev pub decreases-touches_any : goal.decreases-touches_any
decreases-touches_any l = length l.addresses.now
