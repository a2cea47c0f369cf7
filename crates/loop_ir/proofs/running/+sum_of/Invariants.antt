use Rattle.std.proofs.Common.{length}
use Rattle.loop_ir.proofs.running.+sum_of.Given as goal

abbrev pub decreases-sum_of : goal.decreases-sum_of
decreases-sum_of l = length l.terms.now
