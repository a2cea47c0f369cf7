-- What the parts of the evaluator answer, in the words of `Pixel`. Nothing here is to be believed: the
-- contract of `evaluate` doesn't speak of it.
-- This project's own.
use Rattle.std.specs.Prelude.{◌≡◌, ℕ, ◌+◌, ◌*◌, ◌/◌, ◌%◌, ◌^◌, ◌<◌, ◌≤◌, true, List, [], ◌∷◌, length, Option, Some, None, slice_get, slice_index, Vec}
use Rattle.halide_pipeline.specs.declared.expressions.Expr.{Expr}
use Rattle.halide_pipeline.specs.declared.definitions.Update.{Update}
use Rattle.halide_pipeline.specs.declared.definitions.Func.{Func}
use Rattle.halide_pipeline.specs.WellFormed.{is_first_in_place, is_second_in_place}
use Rattle.halide_pipeline.specs.Expressions.{nodes}
use Rattle.halide_pipeline.specs.Words as word
use Rattle.picture.specs.declared.scenes.Scene.{Scene}
use Rattle.picture.specs.declared.memos.Memo.{Memo}
use Rattle.picture.specs.declared.scenes.UpdatedPixels.{UpdatedPixels}
use Rattle.picture.specs.declared.scenes.Pass.{Pass}
use Rattle.picture.specs.declared.scenes.Slice.{Slice}
use Rattle.picture.specs.declared.scenes.Table.{Table}
use Rattle.picture.specs.declared.scenes.FuncState.{FuncState}
use Rattle.picture.specs.declared.scenes.FuncState.TheVariants as states
use Rattle.halide_pipeline.specs.Contents.{PictureContents}
use Rattle.picture.specs.Slices.{is_on}
use Rattle.picture.specs.Writes.{written}
use Rattle.picture.specs.inner.Memos.{remembered}
use Rattle.picture_rows.specs.Rows.{AreValues}
use Rattle.std.specs.declared.alloc.Global.{Global}
use Rattle.halide_pipeline.specs.Pixel.{Plane, Planes, Reads, input_planes, reads_of, with_plane, after, stage, func_plane, pixels}

-- ---- planes of a scene

abbrev pub inputs_of : Scene → Planes
inputs_of scene = input_planes scene.pictures.now

-- the Funcs before this place
abbrev pub earlier_of : Scene → ℕ → Planes
earlier_of scene func_index = pixels scene.funcs.now (inputs_of scene) func_index

-- the Func at this place, after all its updates
abbrev pub plane_in : List Func → List PictureContents → ℕ → Plane
plane_in funcs pictures func_index = func_plane func_index (slice_get funcs func_index) (input_planes pictures) (pixels funcs (input_planes pictures) func_index)

abbrev pub plane_of : Scene → ℕ → Plane
plane_of scene func_index = plane_in scene.funcs.now scene.pictures.now func_index

-- after this many points of an update, if there is one
abbrev pub after_some : ℕ → Option Update → Planes → Planes → Plane → ℕ → Plane
after_some func_index None inputs earlier before number = before
after_some func_index (Some update) inputs earlier before number = after func_index update inputs earlier before number

abbrev pub after_of : ℕ → Option Func → Planes → Planes → ℕ → ℕ → Plane
after_of func_index None inputs earlier updates number x y = 0
after_of func_index (Some func) inputs earlier updates number x y =
    after_some func_index (slice_get func.updates updates) inputs earlier (stage func_index func inputs earlier updates)
    number x y

-- what the Funcs answer in a definition of the one at this place
abbrev pub funcs_in : Scene → ℕ → FuncState → Planes
funcs_in scene func_index states.Earlier = earlier_of scene func_index
funcs_in scene func_index (states.After updates number) =
    with_plane func_index (after_of func_index (slice_get scene.funcs.now func_index) (inputs_of scene) (earlier_of scene func_index) updates number) (earlier_of scene func_index)
funcs_in scene func_index (states.Forward updates number slice) =
    with_plane func_index (after_of func_index (slice_get scene.funcs.now func_index) (inputs_of scene) (earlier_of scene func_index) updates number) (earlier_of scene func_index)

-- and all sources
abbrev pub reads_in : Scene → ℕ → FuncState → Reads
reads_in scene func_index state = reads_of (inputs_of scene) (funcs_in scene func_index state)

-- ---- updates, run forward

-- a pass is over a Func of the scene, by an update of that
pub record IsPass (scene : Scene) (pass : Pass) : Type 0 where
  pub is : slice_get scene.funcs.now pass.own ≡ Some pass.func.now
  pub next : slice_get pass.func.now.updates pass.updates ≡ Some pass.update.now

-- after this many whole updates
abbrev pub stage_some : ℕ → Option Func → Planes → Planes → ℕ → Plane
stage_some func_index None inputs earlier updates x y = 0
stage_some func_index (Some func) inputs earlier updates x y = stage func_index func inputs earlier updates x y

abbrev pub stage_of : Scene → ℕ → ℕ → Plane
stage_of scene func_index updates = stage_some func_index (slice_get scene.funcs.now func_index) (inputs_of scene) (earlier_of scene func_index) updates

-- what was written is what is there now, and where nothing was there is what was before
abbrev pub Holds : Option ℕ → ℕ → ℕ → Type 0
Holds (Some value) now before = value ≡ now
Holds None now before = before ≡ now

-- what a slice has written after this many points of an update
pub record IsForward (scene : Scene) (func_index updates number : ℕ) (slice : Slice) : Type 0 where
  pub each : (x y : ℕ) → x < 2 ^ 32 → y < 2 ^ 32 → is_on slice x y ≡ true
      → Holds (written slice.writes x y) (after_of func_index (slice_get scene.funcs.now func_index) (inputs_of scene) (earlier_of scene func_index) updates number x y)
      (stage_of scene func_index updates x y)

-- the slice of this point for an update
pub record IsBegun (update : Update) (x y : ℕ) (slice : Slice) : Type 0 where
  pub x_is : slice.x ≡ x
  pub y_is : slice.y ≡ y
  pub first : slice.is_first_in_place ≡ is_first_in_place update
  pub second : slice.is_second_in_place ≡ is_second_in_place update

-- what a state says is so
abbrev pub IsState : Scene → ℕ → FuncState → Type 0
IsState scene func_index states.Earlier = Unit {0}
IsState scene func_index (states.After updates number) = Unit {0}
IsState scene func_index (states.Forward updates number slice) = IsForward scene func_index updates number slice.now

-- ---- tables

-- the pixel with this number in a box, by rows
unfoldable pub numbered_pixel : Plane → ℕ → ℕ → ℕ → ℕ → ℕ
numbered_pixel plane left top width at = plane (word.add left (at % width)) (word.add top (at / width))

-- a row of a box, by its number
abbrev pub IsNumberedRow : Plane → ℕ → ℕ → ℕ → ℕ → List ℕ → Type 0
IsNumberedRow plane left top width number row = AreValues width (λ at. plane (word.add left at) (word.add top number)) row

-- rows one below the other
pub record AreNumberedRows (plane : Plane) (left top width : ℕ) (rows : List (Vec ℕ Global)) : Type 0 where
  pub each : (number : ℕ) (row : Vec ℕ Global) → slice_get rows number ≡ Some row → IsNumberedRow plane left top width number row.items

-- the pixels of this many rows
pub record AreNumbered (plane : Plane) (left top width height : ℕ) (pixels : List ℕ) : Type 0 where
  pub len : length pixels ≡ width * height
  pub each : (at : ℕ) → at < length pixels → slice_index pixels at ≡ numbered_pixel plane left top width at

-- the pixels of this plane in a box, by rows that begin so far one after the other
pub record ArePixels (plane : Plane) (left top width pitch height : ℕ) (pixels : List ℕ) : Type 0 where
  pub len : length pixels ≡ pitch * height
  pub wide : width ≤ pitch
  pub each : (column row : ℕ) → column < width → row < height → slice_index pixels (row * pitch + column) ≡ plane (word.add left column) (word.add top row)

-- a table has the pixels of this plane in its box
pub record IsTable (plane : Plane) (table : Table) : Type 0 where
  pub are : ArePixels plane table.left table.top table.width table.pitch table.height table.pixels.items

-- a table's box
pub record IsAt (left top width height : ℕ) (table : Table) : Type 0 where
  pub left_is : table.left ≡ left
  pub top_is : table.top ≡ top
  pub width_is : table.width ≡ width
  pub height_is : table.height ≡ height

-- each of the first Funcs' tables has the Func's pixels
pub record AreTablesOf (funcs : List Func) (pictures : List PictureContents) (tables : List Table) : Type 0 where
  pub each : (func_index : ℕ) (table : Table) → slice_get tables func_index ≡ Some table → IsTable (plane_in funcs pictures func_index) table

-- after this many whole updates
abbrev pub stage_in : List Func → List PictureContents → ℕ → ℕ → Plane
stage_in funcs pictures func_index updates = stage_some func_index (slice_get funcs func_index) (input_planes pictures) (pixels funcs (input_planes pictures) func_index) updates

-- what a slice has written after all points of an update
pub record IsSliceOf (funcs : List Func) (pictures : List PictureContents) (func_index updates : ℕ) (slice : Slice) : Type 0 where
  pub each : (x y : ℕ) → x < 2 ^ 32 → y < 2 ^ 32 → is_on slice x y ≡ true
      → Holds (written slice.writes x y) (stage_in funcs pictures func_index (updates + 1) x y) (stage_in funcs pictures func_index updates x y)

pub record AreSlicesOf (funcs : List Func) (pictures : List PictureContents) (func_index updates : ℕ) (slices : List Slice) : Type 0 where
  pub each : (at : ℕ) (slice : Slice) → slice_get slices at ≡ Some slice
      → IsSliceOf funcs pictures func_index updates slice

-- boxes of this plane
pub record AreBoxes (plane : Plane) (boxes : List Table) : Type 0 where
  pub each : (at : ℕ) (box : Table) → slice_get boxes at ≡ Some box → IsTable plane box

-- what is known of this update of this Func
pub record IsKnown (funcs : List Func) (pictures : List PictureContents) (func_index updates : ℕ) (known : UpdatedPixels) : Type 0 where
  pub slices : AreSlicesOf funcs pictures func_index updates known.slices.items
  pub boxes : AreBoxes (stage_in funcs pictures func_index (updates + 1)) known.boxes.items

pub record AreKnownOf (funcs : List Func) (pictures : List PictureContents) (known : List UpdatedPixels) : Type 0 where
  pub each : (at : ℕ) (k : UpdatedPixels) → slice_get known at ≡ Some k → IsKnown funcs pictures k.own k.updates k

-- each pixel that is kept is the Func's
pub record IsMemo (funcs : List Func) (pictures : List PictureContents) (memo : Memo) : Type 0 where
  pub each : (func_index x y pixel : ℕ) → x < 2 ^ 32 → y < 2 ^ 32 → remembered memo func_index x y ≡ Some pixel → pixel ≡ plane_in funcs pictures func_index x y

-- tables, slices and pixels are what they should be
pub record AreTables (scene : Scene) : Type 0 where
  pub tables : AreTablesOf scene.funcs.now scene.pictures.now scene.tables.now
  pub known : AreKnownOf scene.funcs.now scene.pictures.now scene.known.now
  pub memo : IsMemo scene.funcs.now scene.pictures.now scene.memo.now

-- ---- sizes, by which the recursion ends

abbrev pub index_nodes : Option Expr → ℕ
index_nodes None = 0
index_nodes (Some index) = nodes index

abbrev pub update_nodes : Update → ℕ
update_nodes update = nodes update.left_x + index_nodes update.left_y + nodes update.right

abbrev pub updates_nodes : List Update → ℕ
updates_nodes [] = 0
updates_nodes (update ∷ updates) = update_nodes update + updates_nodes updates

-- how many nodes all expressions have
unfoldable pub all_nodes : List Func → ℕ
all_nodes [] = 0
all_nodes (func ∷ funcs) = nodes func.pure + updates_nodes func.updates + all_nodes funcs

-- how many updates there are
unfoldable pub all_updates : List Func → ℕ
all_updates [] = 0
all_updates (func ∷ funcs) = length func.updates + all_updates funcs
