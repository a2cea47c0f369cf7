use Rattle.std.proofs.Common.{length}
use Rattle.bounds.proofs.layout.+phases.Given as goal

abbrev pub decreases-phases : goal.decreases-phases
decreases-phases l = length l.boxes.now
