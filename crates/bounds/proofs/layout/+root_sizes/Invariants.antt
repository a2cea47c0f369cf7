use Rattle.std.proofs.Common.{length}
use Rattle.bounds.proofs.layout.+root_sizes.Given as goal

abbrev pub decreases-root_sizes : goal.decreases-root_sizes
decreases-root_sizes l = length l.boxes.now
