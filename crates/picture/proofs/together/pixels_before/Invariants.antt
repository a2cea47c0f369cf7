use Rattle.picture.specs.inner.Evaluation.{ArePixels}
use Rattle.picture.specs.inner.Together.{after_points}
use Rattle.picture.proofs.together.pixels_before.Given as goal

abbrev pub invariant-loop-row : goal.invariant-loop-row
invariant-loop-row l = ArePixels (after_points l.scene l.pass 0) l.left l.top l.width l.pitch l.row l.pixels.items
