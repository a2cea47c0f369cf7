-- Updates, run row by row. Nothing here is to be believed: the contract of `evaluate` doesn't speak of it.
-- This project's own.
use Rattle.std.specs.Prelude.{◌≡◌, ℕ, ◌<◌}
use Rattle.halide_pipeline.specs.declared.definitions.Update.{Update}
use Rattle.halide_pipeline.specs.declared.environments.Environment.{Environment}
use Rattle.halide_pipeline.specs.WellFormed.{is_first_in_place, is_second_in_place}
use Rattle.halide_pipeline.specs.Words as word
use Rattle.halide_pipeline.specs.Pixel.{Plane, value, index_value, at_reduction}
use Rattle.picture.specs.declared.scenes.Scene.{Scene}
use Rattle.picture.specs.declared.scenes.Slice.{Slice}
use Rattle.picture.specs.declared.scenes.FuncState.TheVariants as states
use Rattle.picture.specs.declared.update_rows.Indices.{Indices}
use Rattle.picture.specs.declared.update_rows.Right.{Right}
use Rattle.picture.specs.declared.update_rows.Right.TheVariants as rights
use Rattle.picture.specs.declared.update_rows.UpdateRow.{UpdateRow}
use Rattle.picture.specs.declared.update_runs.UpdateStore.{UpdateStore}
use Rattle.picture.specs.Writes.{Sets}
use Rattle.picture.specs.inner.Evaluation.{reads_in}
use Rattle.picture.specs.inner.Lines.{reads_with, reduction_line, row_point, IsShared}
use Rattle.picture_rows.specs.Rows.{HasLength, value_at}

-- reads of the own Func at these points
pub record AreIndices (width : ℕ) (says : Plane → ℕ → ℕ) (indices : Indices) : Type 0 where
  pub x_len : HasLength width indices.x
  pub y_len : HasLength width indices.y
  pub each : (plane : Plane) (at : ℕ) → at < width → plane (value_at indices.x at) (value_at indices.y at) ≡ says plane at

abbrev pub right_says : Right → Plane → ℕ → ℕ
right_says (rights.Alone row) plane at = value_at row at
right_says (rights.First operation indices row) plane at = word.applied operation (plane (value_at indices.x at) (value_at indices.y at)) (value_at row at)
right_says (rights.Second operation row indices) plane at = word.applied operation (value_at row at) (plane (value_at indices.x at) (value_at indices.y at))

abbrev pub right_long : ℕ → Right → Type 0
right_long width (rights.Alone row) = HasLength width row
right_long width (rights.First operation indices row) = HasLength width indices.x × (HasLength width indices.y × HasLength width row)
right_long width (rights.Second operation row indices) = HasLength width indices.x × (HasLength width indices.y × HasLength width row)

-- a right side, whatever the own Func answers
pub record IsRight (width : ℕ) (says : Plane → ℕ → ℕ) (right : Right) : Type 0 where
  pub len : right_long width right
  pub each : (plane : Plane) (at : ℕ) → at < width → right_says right plane at ≡ says plane at

-- the sides of an update along a row of the reduction box, whatever the own Func answers
pub record IsUpdateRow (scene : Scene) (func_index width : ℕ) (start : Environment) (update : Update) (row : UpdateRow) : Type 0 where
  pub left_x : IsShared (reduction_line width start) (λ plane at. value (reads_with scene func_index plane) (row_point start at) update.left_x) row.left_x
  pub left_y : IsShared (reduction_line width start) (λ plane at. index_value (reads_with scene func_index plane) (row_point start at) update.left_y) row.left_y
  pub right : IsRight width (λ plane at. value (reads_with scene func_index plane) (row_point start at) update.right)
      row.right

-- what a point of an update stores
pub record IsStore (scene : Scene) (func_index updates number : ℕ) (update : Update) (slice : Slice) (store : UpdateStore) : Type 0 where
  pub left_x : store.x ≡ value (reads_in scene func_index states.Earlier) (at_reduction update number slice.x slice.y) update.left_x
  pub left_y : store.y ≡ index_value (reads_in scene func_index states.Earlier) (at_reduction update number slice.x slice.y) update.left_y
  pub right : store.value ≡ value (reads_in scene func_index (states.After updates number)) (at_reduction update number slice.x slice.y) update.right

-- a slice's place is kept
pub record KeepsPlace (old new : Slice) : Type 0 where
  pub x : new.x ≡ old.x
  pub y : new.y ≡ old.y
  pub first : new.is_first_in_place ≡ old.is_first_in_place
  pub second : new.is_second_in_place ≡ old.is_second_in_place

-- a slice with one store more
pub record Puts (old new : Slice) (store : UpdateStore) : Type 0 where
  pub sets : Sets old.writes new.writes store.x store.y store.value
  pub place : KeepsPlace old new

-- a slice of this update
pub record IsOfUpdate (update : Update) (slice : Slice) : Type 0 where
  pub first : slice.is_first_in_place ≡ is_first_in_place update
  pub second : slice.is_second_in_place ≡ is_second_in_place update
