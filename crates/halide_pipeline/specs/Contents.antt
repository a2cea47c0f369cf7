-- What a picture holds: its extents, and pixels by rows. This project's own.
use Rattle.std.specs.Prelude.{ℕ, ◌+◌, ◌*◌, List, slice_index}

-- Pixels by rows, from the top, each row from the left. A pixel is a number below 2^32, which is
-- for the signed number of 32 bits that it is congruent to.
pub record PictureContents : Type 0 where
  pub width : ℕ
  pub height : ℕ
  pub pixels : List ℕ

-- the pixel in a column and a row
abbrev pub pixel_at : PictureContents → ℕ → ℕ → ℕ
pixel_at picture x y = slice_index picture.pixels (y * picture.width + x)
