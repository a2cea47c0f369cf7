use Rattle.std.proofs.Common.{length}
use Rattle.bounds.proofs.inference.+box_at.Given as goal

abbrev pub decreases-box_at : goal.decreases-box_at
decreases-box_at l = length l.boxes.now
