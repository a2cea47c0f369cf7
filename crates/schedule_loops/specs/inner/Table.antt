-- A table of the sizes of the loops of each split, made from the first split on. Words of private functions.
-- This project's own.
use Rattle.std.specs.Prelude.{◌≡◌, ◌≤◌, ℕ, zero, suc, ◌*◌, nat_le, Bool, false, not, ◌||◌, List, [], ◌∷◌, ◌++◌, length, map, slice_get, Option, Some, None}
use Rattle.halide_pipeline.specs.declared.expressions.Variable.{Variable}
use Rattle.schedule_lines.specs.declared.stages.LoopId.{LoopId}
use Rattle.schedule_lines.specs.declared.stages.LoopId.TheVariants as ids
use Rattle.schedule_lines.specs.declared.stages.Split.{Split}
use Rattle.schedule_lines.specs.Directives.{is_shift}
use Rattle.schedule_loops.specs.declared.extents.Extents.{Extents}
use Rattle.schedule_loops.specs.declared.sizes.LoopSize.{LoopSize}
use Rattle.schedule_loops.specs.declared.sizes.SizedSplit.{SizedSplit}
use Rattle.schedule_loops.specs.Visits.{extent_of, outer_extent, AreSplits}

abbrev pub whole_size : Extents → Variable → LoopSize
whole_size extents variable = record { count = extent_of extents variable; stride = 1; is_uneven = false }

-- of a loop that isn't there
abbrev pub no_size : LoopSize
no_size = record { count = 0; stride = 0; is_uneven = false }

abbrev pub outer_of : Option SizedSplit → LoopSize
outer_of None = no_size
outer_of (Some part) = part.outer

abbrev pub inner_of : Option SizedSplit → LoopSize
inner_of None = no_size
inner_of (Some part) = part.inner

-- the size of a loop, in a table
abbrev pub looked_up : Extents → List SizedSplit → LoopId → LoopSize
looked_up extents parts (ids.Whole variable) = whole_size extents variable
looked_up extents parts (ids.Outer place) = outer_of (slice_get parts place)
looked_up extents parts (ids.Inner place) = inner_of (slice_get parts place)

-- the row of a split, from the size of the loop that is split
abbrev pub row_of : LoopSize → Split → SizedSplit
row_of whole split = record {
  split = split;
  extent = whole.count;
  outer = record { count = outer_extent whole.count split.factor; stride = whole.stride * split.factor; is_uneven = whole.is_uneven || is_shift split.tail };
  inner = record { count = split.factor; stride = whole.stride; is_uneven = whole.is_uneven };
}

-- after the rows that are there, those of more splits
abbrev pub rows_from : Extents → List SizedSplit → List Split → List SizedSplit
rows_from extents rows [] = rows
rows_from extents rows (split ∷ others) = rows_from extents (rows ++ row_of (looked_up extents rows split.of) split ∷ []) others

abbrev pub split_of : SizedSplit → Split
split_of row = row.split

abbrev pub splits_of : List SizedSplit → List Split
splits_of rows = map split_of rows

-- The table is the one of its splits.
abbrev pub IsTable : Extents → List SizedSplit → Type 0
IsTable extents rows = rows_from extents [] (splits_of rows) ≡ rows

-- what every table keeps
pub record IsKept (extents : Extents) (rows : List SizedSplit) : Type 0 where
  pub table : IsTable extents rows
  pub splits : AreSplits (splits_of rows)

-- the most that a stride is after this many splits
abbrev pub stride_limit : ℕ → ℕ
stride_limit zero = 1
stride_limit (suc n) = stride_limit n * 64

abbrev pub AreBounded : Extents → List SizedSplit → Type 0
AreBounded extents rows = (id : LoopId) → (looked_up extents rows id).stride ≤ stride_limit (length rows)

abbrev pub row_fits : SizedSplit → Bool
row_fits row = not (is_shift row.split.tail) || nat_le row.split.factor row.extent
