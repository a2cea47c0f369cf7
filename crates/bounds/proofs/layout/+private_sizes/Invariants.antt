use Rattle.std.proofs.Common.{length}
use Rattle.bounds.proofs.layout.+private_sizes.Given as goal

abbrev pub decreases-private_sizes : goal.decreases-private_sizes
decreases-private_sizes l = length l.boxes.now
