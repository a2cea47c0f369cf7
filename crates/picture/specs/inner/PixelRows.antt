-- Updates, run along rows of pixels. Nothing here is to be believed: the contract of `evaluate` doesn't speak of it.
-- This project's own.
use Rattle.std.specs.Prelude.{◌≡◌, ℕ, true, List}
use Rattle.halide_pipeline.specs.Words as word
use Rattle.halide_pipeline.specs.declared.definitions.Update.{Update}
use Rattle.halide_pipeline.specs.Pixel.{Plane, Reads, at_reduction, is_hit, value}
use Rattle.picture.specs.declared.in_place.PixelSpan.{PixelSpan}
use Rattle.picture.specs.declared.scenes.Scene.{Scene}
use Rattle.picture.specs.inner.Lines.{reads_with}
use Rattle.picture_rows.specs.Rows.{AreValues}

-- the pixels of a plane
abbrev pub IsRowOf : Plane → PixelSpan → List ℕ → Type 0
IsRowOf plane stretch pixels = AreValues stretch.width (λ at. plane (word.add stretch.left at) stretch.y) pixels

-- what the right side of an update is at a point of its reduction box, where the own Func answers by this plane
abbrev pub one_more : Scene → ℕ → Update → ℕ → Plane → Plane
one_more scene func_index update number plane x y = value (reads_with scene func_index plane) (at_reduction update number x y) update.right

-- an update stores at each pixel of a row
pub record StoresEverywhere (update : Update) (y : ℕ) : Type 0 where
  pub each : (reads : Reads) (number x : ℕ) → is_hit reads update (at_reduction update number x y) ≡ true
