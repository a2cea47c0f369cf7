use Rattle.std.proofs.Common.{length}
use Rattle.loop_ir.proofs.linear.+take_away.Given as goal

abbrev pub decreases-take_away : goal.decreases-take_away
decreases-take_away l = length l.others.now
