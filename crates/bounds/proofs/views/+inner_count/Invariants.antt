use Rattle.std.proofs.Common.{length}
use Rattle.bounds.proofs.views.+inner_count.Given as goal

abbrev pub decreases-inner_count : goal.decreases-inner_count
decreases-inner_count l = length l.loops.now
