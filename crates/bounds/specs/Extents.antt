-- How wide and how high boxes are, where they begin, and how many values loops over their points take.
-- This project's own.
use Rattle.std.specs.Prelude.{ℕ, ◌+◌, ◌-◌, ◌*◌, Option, Some, None, ◌%◌, ◌^◌, slice_get, slice_index}
use Rattle.bounds_ranges.specs.declared.ranges.Range.{Range}
use Rattle.bounds_ranges.specs.Numbers.{least}
use Rattle.bounds.specs.declared.boxes.SourceBox.{SourceBox}
use Rattle.bounds.specs.declared.verdict.Boxes.{Boxes}
use Rattle.schedule_loops.specs.declared.extents.Extents.{Extents}
use Rattle.halide_pipeline.specs.declared.definitions.Update.{Update}
use Rattle.halide_pipeline.specs.Pixel.{second_extent}

-- how many numbers a range has, in one iteration
abbrev pub extent : Range → ℕ
extent range = range.high + 1 - range.low

-- how many points a box has, in one iteration
abbrev pub points : SourceBox → ℕ
points source_box = extent source_box.x * extent source_box.y

abbrev pub box_in : Option (Option SourceBox) → Option SourceBox
box_in None = None
box_in (Some own) = own

-- how many values the arguments take in a box
abbrev pub extents_of : SourceBox → Extents
extents_of source_box = record { first_argument = extent source_box.x; second_argument = extent source_box.y; first_reduction = 0; second_reduction = 0 }

-- how many values each variable of an update takes, over a box
abbrev pub update_extents : SourceBox → Update → Extents
update_extents source_box update = record {
  first_argument = extent source_box.x;
  second_argument = extent source_box.y;
  first_reduction = update.first.extent;
  second_reduction = second_extent update.second;
}

-- the word that is at an end of a range: ends are numbers counted from the least one
abbrev pub word_at : ℕ → ℕ
word_at end = (end - least + 2 ^ 31) % 2 ^ 32

-- the first point of a box
pub record BoxCorner : Type 0 where
  pub x : ℕ
  pub y : ℕ

-- 0, 0 where there is no box
abbrev pub corner_of : Option SourceBox → BoxCorner
corner_of None = record { x = 0; y = 0 }
corner_of (Some own) = record { x = word_at own.x.low; y = word_at own.y.low }

-- ---- where points lie in the data

-- where a point of a box lies, counted from its corner: its points lie row by row from an address on, 4 bytes each
abbrev pub point_in : ℕ → Option SourceBox → ℕ → ℕ → ℕ
point_in start None x y = start
point_in start (Some own) x y = start + 4 * (y * extent own.x + x)

-- and one of a Func computed at root, from where the layout has the Func
abbrev pub point_address : Boxes → ℕ → ℕ → ℕ → ℕ
point_address boxes func x y = point_in (slice_index boxes.layout.roots func) (box_in (slice_get boxes.funcs func)) x y
