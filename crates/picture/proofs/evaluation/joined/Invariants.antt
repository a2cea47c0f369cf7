use Rattle.std.proofs.Common.{ℕ}
use Rattle.halide_pipeline.specs.Pixel.{Plane}
use Rattle.picture.specs.inner.Evaluation.{AreNumberedRows, AreNumbered}
use Rattle.picture.proofs.evaluation.joined.Given as goal

abbrev pub invariant-loop-row : goal.invariant-loop-row
invariant-loop-row l =
    (plane : Plane) (left top width : ℕ) → AreNumberedRows plane left top width l.fn.rows → AreNumbered plane left top width l.row-index l.pixels.items
