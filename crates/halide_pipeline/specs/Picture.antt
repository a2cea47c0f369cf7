-- The limits that a picture keeps.
-- This project's own.
use Rattle.std.specs.Prelude.{◌*◌, ◌^◌, ◌<◌, ◌==◌, ◌&&◌, Bool, if◌then◌else◌, IsTrue, length, Option, Some, None}
use Rattle.std.specs.List.{All}
use Rattle.halide_pipeline.specs.Contents.{PictureContents}
use Rattle.halide_pipeline.specs.WellFormed.{is_width, is_height}

-- extents within the limits, and a pixel for each place
abbrev pub is_picture : PictureContents → Bool
is_picture picture =
    is_width picture.width && is_height picture.width picture.height && length picture.pixels == picture.width * picture.height

-- the parts are a picture, or not
abbrev pub picture_if : PictureContents → Option PictureContents
picture_if picture = if is_picture picture then Some picture else None

-- what every picture keeps
pub record IsPicture (picture : PictureContents) : Type 0 where
  pub limits : IsTrue (is_picture picture)
  pub words : All (λ pixel. pixel < 2 ^ 32) picture.pixels
