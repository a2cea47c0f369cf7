-- Expressions along lines. Nothing here is to be believed: the contract of `evaluate` doesn't speak of it.
-- This project's own.
use Rattle.std.specs.Prelude.{◌≡◌, ℕ, ◌<◌, Bool, false, ◌==◌, length}
use Rattle.halide_pipeline.specs.declared.expressions.Expr.{Expr}
use Rattle.halide_pipeline.specs.declared.expressions.Source.{Source}
use Rattle.halide_pipeline.specs.declared.expressions.Source.TheVariants as sources
use Rattle.halide_pipeline.specs.declared.environments.Environment.{Environment}
use Rattle.halide_pipeline.specs.Words as word
use Rattle.halide_pipeline.specs.Pixel.{Plane, Reads, reads_of, value, with_plane}
use Rattle.picture.specs.declared.lines.Along.{Along}
use Rattle.picture.specs.declared.lines.Along.TheVariants as alongs
use Rattle.picture.specs.declared.lines.PointLine.{PointLine}
use Rattle.picture.specs.declared.lines.KnownPixels.{KnownPixels}
use Rattle.picture.specs.declared.lines.KnownPixels.TheVariants as owns
use Rattle.picture.specs.declared.scenes.Scene.{Scene}
use Rattle.picture.specs.inner.Evaluation.{inputs_of, earlier_of, IsTable}
use Rattle.picture_rows.specs.declared.rows.Row.{Row}
use Rattle.picture_rows.specs.Rows.{AreValues, HasLength, value_at}

-- a point of a row of the reduction box, which begins at this one
abbrev pub row_point : Environment → ℕ → Environment
row_point start at = record {
  first_argument = start.first_argument;
  second_argument = start.second_argument;
  first_reduction = word.add start.first_reduction at;
  second_reduction = start.second_reduction;
}

-- a point beside this one
abbrev pub pixel_point : Environment → ℕ → Environment
pixel_point start at = record {
  first_argument = word.add start.first_argument at;
  second_argument = start.second_argument;
  first_reduction = start.first_reduction;
  second_reduction = start.second_reduction;
}

-- a point below this one
abbrev pub lower_point : Environment → ℕ → Environment
lower_point start at = record {
  first_argument = start.first_argument;
  second_argument = word.add start.second_argument at;
  first_reduction = start.first_reduction;
  second_reduction = start.second_reduction;
}

-- a point of a line
abbrev pub line_point : Along → Environment → ℕ → Environment
line_point alongs.Reduction start at = row_point start at
line_point alongs.Columns start at = pixel_point start at
line_point alongs.Rows start at = lower_point start at

-- a line is so long, where its pixels are known, and a box has some plane's
abbrev pub IsLong : ℕ → KnownPixels → Type 0
IsLong width owns.Nothing = Unit {0}
IsLong width (owns.Pixels before) = length before.now ≡ width
IsLong width (owns.Box own) = (plane : Plane) × IsTable plane own.now

abbrev pub IsLine : PointLine → Type 0
IsLine line = IsLong line.width line.own

-- the own Func answers as is known
abbrev pub Knows : ℕ → Environment → KnownPixels → Plane → Type 0
Knows width start owns.Nothing plane = Unit {0}
Knows width start (owns.Pixels before) plane = AreValues width (λ at. plane (word.add start.first_argument at) start.second_argument) before.now
Knows width start (owns.Box own) plane = IsTable plane own.now

abbrev pub Fits : PointLine → Plane → Type 0
Fits line plane = Knows line.width line.start line.own plane

-- reads, where the own Func answers by this plane
abbrev pub reads_with : Scene → ℕ → Plane → Reads
reads_with scene func_index plane = reads_of (inputs_of scene)
    (with_plane func_index plane (earlier_of scene func_index))

-- the value of an expression at a point of a line, where the own Func answers by this plane
abbrev pub value_along : Scene → ℕ → PointLine → Expr → Plane → ℕ → ℕ
value_along scene func_index line expr plane at = value (reads_with scene func_index plane)
    (line_point line.along line.start at) expr

abbrev pub is_own : ℕ → Source → Bool
is_own func_index (sources.Input place) = false
is_own func_index (sources.Func place) = place == func_index

-- what a row has at its places, whatever the own Func answers where it isn't known
pub record IsShared (line : PointLine) (says : Plane → ℕ → ℕ) (row : Row) : Type 0 where
  pub len : HasLength line.width row
  pub each : (plane : Plane) → Fits line plane → (at : ℕ) → at < line.width → value_at row at ≡ says plane at

-- a row of the reduction box
abbrev pub reduction_line : ℕ → Environment → PointLine
reduction_line width start = record { start = start; along = alongs.Reduction; width = width; own = owns.Nothing }
