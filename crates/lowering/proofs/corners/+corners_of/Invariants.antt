use Rattle.std.proofs.Common.{length}
use Rattle.lowering.proofs.corners.+corners_of.Given as goal

-- proposed from what the function passes where it calls itself
abbrev pub decreases-corners_of : goal.decreases-corners_of
decreases-corners_of l = length l.boxes.now
