use Rattle.std.proofs.Common.{length}
use Rattle.bounds.proofs.inference.+boxes_from.Given as goal

abbrev pub decreases-boxes_from : goal.decreases-boxes_from
decreases-boxes_from l = length l.funcs.now
