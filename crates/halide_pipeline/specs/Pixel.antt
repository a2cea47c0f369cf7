-- What the pixels of a pipeline are.
--
-- Coordinates and pixels are words. A Func has a pixel at each point of an unbounded plane. A source of
-- one dimension lies in the first row of its plane: reads of it look there alone, and what is in its other
-- rows is never read.
-- This project's own.
use Rattle.std.specs.Prelude.{ℕ, zero, suc, ◌*◌, ◌/◌, ◌%◌, ◌==◌, ◌&&◌, Bool, nat_lt, if◌then◌else◌, List, length, Option, Some, None, slice_get}
use Rattle.halide_pipeline.specs.declared.expressions.Expr.{Expr, fold-Expr}
use Rattle.halide_pipeline.specs.declared.expressions.Expr.TheOpen.{Expr-F}
use Rattle.halide_pipeline.specs.declared.expressions.Expr.TheOpen as layer
use Rattle.halide_pipeline.specs.declared.expressions.Variable.{Variable}
use Rattle.halide_pipeline.specs.declared.expressions.Variable.TheVariants as variables
use Rattle.halide_pipeline.specs.declared.expressions.Source.{Source}
use Rattle.halide_pipeline.specs.declared.expressions.Source.TheVariants as sources
use Rattle.halide_pipeline.specs.declared.definitions.Reduction.{Reduction}
use Rattle.halide_pipeline.specs.declared.definitions.Update.{Update}
use Rattle.halide_pipeline.specs.declared.definitions.Func.{Func}
use Rattle.halide_pipeline.specs.Pipelines.{Pipeline}
use Rattle.halide_pipeline.specs.Words as word
use Rattle.halide_pipeline.specs.declared.environments.Environment.{Environment}
use Rattle.halide_pipeline.specs.Contents.{PictureContents, pixel_at}

-- ---- the value of an expression, whoever answers its reads

-- a word for each point, x before y
abbrev pub Plane : Type 0
Plane = ℕ → ℕ → ℕ

-- a plane for each place of a list
abbrev pub Planes : Type 0
Planes = ℕ → Plane

-- what the reads of a source answer
abbrev pub Reads : Type 0
Reads = Source → Plane

abbrev pub variable : Environment → Variable → ℕ
variable environment variables.FirstArgument = environment.first_argument
variable environment variables.SecondArgument = environment.second_argument
variable environment variables.FirstReduction = environment.first_reduction
variable environment variables.SecondReduction = environment.second_reduction

abbrev pub value_at : Reads → Environment → Expr-F ℕ → ℕ
value_at reads environment (layer.Number n) = n
value_at reads environment (layer.Variable v) = variable environment v
value_at reads environment (layer.Binary operation a b) = word.applied operation a b
value_at reads environment (layer.Divide a c) = word.divide a c
value_at reads environment (layer.Remainder a c) = word.remainder a c
value_at reads environment (layer.Select c a b) = if c == 0 then b else a
value_at reads environment (layer.Call1 source x) = reads source x 0
value_at reads environment (layer.Call2 source x y) = reads source x y

-- the value under reads that answer so, and variables that have these values
unfoldable pub value : Reads → Environment → Expr → ℕ
value reads environment e = fold-Expr ℕ (value_at reads environment) e

-- inputs and Funcs answer by their planes
abbrev pub reads_of : Planes → Planes → Reads
reads_of inputs funcs (sources.Input place) = inputs place
reads_of inputs funcs (sources.Func place) = funcs place

-- ---- inputs

-- an input's pixel, 0 outside its extents
abbrev pub input_plane : Option PictureContents → Plane
input_plane None x y = 0
input_plane (Some picture) x y = if nat_lt x picture.width && nat_lt y picture.height then pixel_at picture x y else 0

abbrev pub input_planes : List PictureContents → Planes
input_planes pictures place = input_plane (slice_get pictures place)

-- ---- a Func

-- the Func at this place answers by this plane, all others as before
abbrev pub with_plane : ℕ → Plane → Planes → Planes
with_plane func_index plane funcs place = if place == func_index then plane else funcs place

-- a point, with no reduction
abbrev pub at_point : ℕ → ℕ → Environment
at_point x y = record { first_argument = x; second_argument = y; first_reduction = 0; second_reduction = 0 }

-- what the pure definition gives, where earlier Funcs answer so
abbrev pub pure_plane : Expr → Planes → Planes → Plane
pure_plane pure inputs earlier x y = value (reads_of inputs earlier) (at_point x y) pure

-- how many values a second reduction variable has, if there is one
abbrev pub second_extent : Option Reduction → ℕ
second_extent None = 1
second_extent (Some reduction) = reduction.extent

-- how many points a reduction box has
abbrev pub points : Update → ℕ
points update = update.first.extent * second_extent update.second

abbrev pub second_value : Option Reduction → ℕ → ℕ
second_value None step = 0
second_value (Some reduction) step = word.add reduction.minimum step

-- a point of the reduction box, by its number in the order of the run, the first variable innermost; and
-- the arguments that stand for the wanted point
abbrev pub at_reduction : Update → ℕ → ℕ → ℕ → Environment
at_reduction update number x y = record {
  first_argument = x;
  second_argument = y;
  first_reduction = word.add update.first.minimum (number % update.first.extent);
  second_reduction = second_value update.second (number / update.first.extent);
}

-- an index that isn't written is 0
abbrev pub index_value : Reads → Environment → Option Expr → ℕ
index_value reads environment None = 0
index_value reads environment (Some index) = value reads environment index

-- whether the left side at a point of the reduction box is the wanted point, which the arguments stand for
abbrev pub is_hit : Reads → Update → Environment → Bool
is_hit reads update point =
    value reads point update.left_x == point.first_argument && index_value reads point update.left_y == point.second_argument

-- what is after this many points of an update, over what was before it: where the last point is no
-- hit, what was after the points before it; else the right side, whose reads of the own Func find what
-- was then
unfoldable pub after : ℕ → Update → Planes → Planes → Plane → ℕ → Plane
after func_index update inputs earlier before zero x y = before x y
after func_index update inputs earlier before (suc number) x y =
    if is_hit (reads_of inputs earlier) update (at_reduction update number x y)
    then value (reads_of inputs (with_plane func_index (after func_index update inputs earlier before number) earlier)) (at_reduction update number x y) update.right
    else after func_index update inputs earlier before number x y

-- the same of an update that may be missing, after all its points
abbrev pub after_all : ℕ → Option Update → Planes → Planes → Plane → Plane
after_all func_index None inputs earlier before = before
after_all func_index (Some update) inputs earlier before = after func_index update inputs earlier before (points update)

-- what is after this many whole updates
unfoldable pub stage : ℕ → Func → Planes → Planes → ℕ → Plane
stage func_index func inputs earlier zero = pure_plane func.pure inputs earlier
stage func_index func inputs earlier (suc updates) = after_all func_index (slice_get func.updates updates) inputs earlier (stage func_index func inputs earlier updates)

-- what is after all updates; 0 where there is no Func
abbrev pub func_plane : ℕ → Option Func → Planes → Planes → Plane
func_plane func_index None inputs earlier x y = 0
func_plane func_index (Some func) inputs earlier x y = stage func_index func inputs earlier (length func.updates) x y

-- the first this many Funcs; 0 for all others
unfoldable pub pixels : List Func → Planes → ℕ → Planes
pixels funcs inputs zero = λ place x y. 0
pixels funcs inputs (suc count) =
    with_plane count (func_plane count (slice_get funcs count) inputs (pixels funcs inputs count)) (pixels funcs inputs count)

-- ---- a pipeline

-- the output's pixel
abbrev pub output_pixel : Pipeline → List PictureContents → Plane
output_pixel pipeline pictures = pixels pipeline.funcs (input_planes pictures) (length pipeline.funcs) pipeline.output.func
