-- A box that holds a picture from point 0, 0 on, and that begins at an address of data.
-- This project's own.
use Rattle.std.specs.Prelude.{◌<◌, ◌≤◌, ℕ, ◌+◌, ◌*◌, ◌^◌}
use Rattle.bounds.specs.declared.boxes.SourceBox.{SourceBox}
use Rattle.bounds.specs.Boxes.{IsBox}
use Rattle.bounds.specs.Extents.{points}
use Rattle.bounds_ranges.specs.Numbers.{origin}

pub record Holds (at : ℕ) (source_box : SourceBox) (width height : ℕ) : Type 0 where
  pub rules : IsBox source_box
  pub few : points source_box ≤ 2 ^ 20
  pub low : at + 4 * points source_box < 2 ^ 32
  pub left : source_box.x.low ≤ origin
  pub right : origin + width ≤ source_box.x.high + 1
  pub top : source_box.y.low ≤ origin
  pub bottom : origin + height ≤ source_box.y.high + 1
  pub wide : 0 < width
  pub high : 0 < height
