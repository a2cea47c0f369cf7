-- What the laws of phases are used with: an order, buffers, pictures.
-- This project's own.
use Rattle.std.specs.Prelude.{◌≡◌, ℕ, zero, suc, ◌<◌, Bool, true, List, [], ◌∷◌, ◌++◌, Option, Some, None, slice_get}
use Rattle.std.specs.List.{All}
use Rattle.halide_pipeline.specs.declared.definitions.Func.{Func}
use Rattle.halide_pipeline.specs.declared.definitions.Input.{Input}
use Rattle.halide_pipeline.specs.Picture.{IsPicture}
use Rattle.halide_pipeline.specs.Contents.{PictureContents}
use Rattle.halide_pipeline.specs.Pixel.{Planes, input_planes, reads_of, pixels}
use Rattle.schedule_loops.specs.Visits.{IsOrder}
use Rattle.bounds_ranges.specs.Laws.{AnswerWords}
use Rattle.bounds.specs.declared.boxes.SourceBox.{SourceBox}
use Rattle.bounds.specs.Extents.{extent}
use Rattle.loop_ir.specs.Buffers.{BufferContents, points_of}
use Rattle.loop_ir.specs.Running.{iterated}
use Rattle.lowering.specs.Phases.{Done}
use Rattle.lowering.specs.Planes.{box_points}

-- ---- an order

-- the numbers below this one, in rising order
abbrev pub numbers_below : ℕ → List ℕ
numbers_below zero = []
numbers_below (suc n) = numbers_below n ++ (n ∷ [])

-- They are an order of this many tasks.
abbrev pub RisingIsAnOrder : Type 0
RisingIsAnOrder = (count : ℕ) → IsOrder count (numbers_below count)

-- The iterations of a loop over tasks do them in that order.
abbrev pub IterationsAreDone : Type 0
IterationsAreDone = (is_private : ℕ → Bool) (tasks : ℕ → Planes → Planes) (count : ℕ) (funcs : Planes)
    → Done is_private tasks (numbers_below count) funcs (iterated count tasks funcs)

-- ---- buffers

-- The buffer has the extents of the Func's box; it has no points where there is no box.
abbrev pub IsOfBox : Option SourceBox → BufferContents → Type 0
IsOfBox None buffer = buffer.width ≡ 0
IsOfBox (Some own) buffer = (buffer.width ≡ extent own.x) × (buffer.height ≡ extent own.y)

-- There is one for each box.
abbrev pub AreOfBoxes : List (Option SourceBox) → List BufferContents → Type 0
AreOfBoxes [] [] = Unit {0}
AreOfBoxes [] (buffer ∷ buffers) = ⊥
AreOfBoxes (own ∷ boxes) [] = ⊥
AreOfBoxes (own ∷ boxes) (buffer ∷ buffers) = IsOfBox own buffer × AreOfBoxes boxes buffers

-- Such buffers have the points of the boxes.
abbrev pub BuffersHaveBoxPoints : Type 0
BuffersHaveBoxPoints = (boxes : List (Option SourceBox)) (buffers : List BufferContents) → AreOfBoxes boxes buffers
    → (func_index x y : ℕ) → points_of buffers func_index x y ≡ box_points boxes func_index x y

-- ---- pictures

-- They are pictures, and those of inputs of bytes hold bytes.
pub record AreInputs (inputs : List Input) (pictures : List PictureContents) : Type 0 where
  pub each : (func_index : ℕ) (picture : PictureContents) → slice_get pictures func_index ≡ Some picture
      → IsPicture picture
  pub bytes : (func_index : ℕ) (input : Input) (picture : PictureContents) → slice_get inputs func_index ≡ Some input → slice_get pictures func_index ≡ Some picture
      → input.is_bytes ≡ true → All (λ pixel. pixel < 256) picture.pixels

-- Then the inputs answer words, and those of bytes bytes.
abbrev pub PicturesAnswerWords : Type 0
PicturesAnswerWords = (inputs : List Input) (funcs : List Func) (pictures : List PictureContents) → AreInputs inputs pictures
    → AnswerWords inputs (reads_of (input_planes pictures) (pixels funcs (input_planes pictures) 0))
