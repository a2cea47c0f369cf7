use Rattle.std.proofs.Common.{◌≡◌, length}
use Rattle.halide_pipeline.specs.Pixel.{Plane, after}
use Rattle.picture.specs.inner.Evaluation.{inputs_of, earlier_of}
use Rattle.picture.specs.inner.PixelRows.{IsRowOf}
use Rattle.picture.proofs.in_place.over_pixels.Given as goal

-- the pixels are those after this many points
abbrev pub invariant-loop-number : goal.invariant-loop-number
invariant-loop-number l = record {
  long : length l.pixels.items ≡ l.fn.stretch.width;
  run : (plane : Plane) → IsRowOf plane l.fn.stretch l.fn.before.items
      → IsRowOf (after l.fn.func_index l.fn.update (inputs_of l.fn.scene) (earlier_of l.fn.scene l.fn.func_index) plane l.number) l.fn.stretch l.pixels.items;
}
