-- Updates, run on many slices together. Nothing here is to be believed: the contract of `evaluate` doesn't speak of it.
-- This project's own.
use Rattle.std.specs.Prelude.{◌≡◌, ℕ, zero, suc, false, true, ◌==◌, ◌&&◌, if◌then◌else◌}
use Rattle.halide_pipeline.specs.declared.definitions.Update.{Update}
use Rattle.halide_pipeline.specs.declared.environments.Environment.{Environment}
use Rattle.halide_pipeline.specs.WellFormed.{is_first_in_place, is_second_in_place}
use Rattle.halide_pipeline.specs.Pixel.{Plane, Reads, after, index_value, stage, value}
use Rattle.picture.specs.Slices.{is_forward}
use Rattle.picture.specs.declared.lines.Along.{Along}
use Rattle.picture.specs.declared.lines.Along.TheVariants as alongs
use Rattle.picture.specs.declared.lines.PointLine.{PointLine}
use Rattle.picture.specs.declared.lines.KnownPixels.TheVariants as owns
use Rattle.picture.specs.declared.scenes.Pass.{Pass}
use Rattle.picture.specs.declared.scenes.Scene.{Scene}
use Rattle.picture.specs.declared.scenes.Table.{Table}
use Rattle.picture.specs.declared.together.StoreRow.{StoreRow}
use Rattle.picture.specs.inner.Evaluation.{inputs_of, earlier_of}
use Rattle.picture.specs.inner.Lines.{line_point, reads_with, IsShared}
use Rattle.picture_rows.specs.Rows.{value_at}

-- the Func after this many points of a pass
abbrev pub after_points : Scene → Pass → ℕ → Plane
after_points scene pass number =
    after pass.own pass.update.now (inputs_of scene) (earlier_of scene pass.own) (stage pass.own pass.func.now (inputs_of scene) (earlier_of scene pass.own)
    pass.updates) number

-- an update that can be run forward holds for each value of the one argument that goes up along such lines
abbrev pub IsSide : Update → Along → Type 0
IsSide update alongs.Reduction = ⊥
IsSide update alongs.Columns =
    ((reads : Reads) (point : Environment) → value reads point update.left_x ≡ point.first_argument) × (is_second_in_place update ≡ false)
    × (is_forward update ≡ true)
IsSide update alongs.Rows =
    ((reads : Reads) (point : Environment) → index_value reads point update.left_y ≡ point.second_argument) × (is_first_in_place update ≡ false)
    × (is_forward update ≡ true)

-- how many slices a box has
abbrev pub side_length : Along → Table → ℕ
side_length alongs.Reduction table = table.width
side_length alongs.Columns table = table.width
side_length alongs.Rows table = table.height

-- a line on which nothing of the own Func is known
abbrev pub free : PointLine → PointLine
free line = record { start = line.start; along = line.along; width = line.width; own = owns.Nothing }

-- what the points of a line store
pub record IsStoreRow (scene : Scene) (pass : Pass) (line : PointLine) (row : StoreRow) : Type 0 where
  pub x : IsShared (free line) (λ plane at. value (reads_with scene pass.own plane) (line_point line.along line.start at) pass.update.now.left_x) row.x
  pub y : IsShared (free line) (λ plane at. index_value (reads_with scene pass.own plane) (line_point line.along line.start at) pass.update.now.left_y) row.y
  pub value : IsShared line (λ plane at. value (reads_with scene pass.own plane) (line_point line.along line.start at) pass.update.now.right) row.value

-- a plane with the first this many stores
unfoldable pub with_stores : StoreRow → ℕ → Plane → Plane
with_stores row zero plane i j = plane i j
with_stores row (suc at) plane i j = if i == value_at row.x at && j == value_at row.y at then value_at row.value at else with_stores row at plane i j
