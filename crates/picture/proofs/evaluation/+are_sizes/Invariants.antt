use Rattle.std.proofs.Common.{length}
use Rattle.picture.proofs.evaluation.+are_sizes.Given as goal

abbrev pub decreases-are_sizes : goal.decreases-are_sizes
decreases-are_sizes l = length l.inputs.now
