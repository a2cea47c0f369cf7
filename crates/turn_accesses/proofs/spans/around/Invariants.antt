use Rattle.std.proofs.Common.{◌<◌, ◌^◌, length}
use Rattle.turn_accesses.proofs.Spanning.{Around}
use Rattle.turn_accesses.proofs.spans.around.Given as goal

abbrev pub invariant-numbers : goal.invariant-numbers
invariant-numbers l = (l.last < 2 ^ 32) × Around l.addresses l.rest l.width l.first l.last

abbrev pub decreases-numbers : goal.decreases-numbers
decreases-numbers l = length l.rest
