use Rattle.std.proofs.Common.{length}
use Rattle.bounds.proofs.layout.+input_sizes.Given as goal

abbrev pub decreases-input_sizes : goal.decreases-input_sizes
decreases-input_sizes l = length l.inputs.now
