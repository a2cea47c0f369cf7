-- What `evaluate` answers: a pipeline's output, or why the pictures aren't those that the pipeline asks for.
-- This project's own.
use Rattle.std.specs.Prelude.{◌≡◌, ℕ, ◌<◌, ◌==◌, ◌&&◌, ◌||◌, nat_lt, not, Bool, true, if◌then◌else◌, List, [], ◌∷◌, length, Option, Some, None, Result, Ok, Err}
use Rattle.std.specs.List.{list_all}
use Rattle.halide_pipeline.specs.declared.definitions.Input.{Input}
use Rattle.halide_pipeline.specs.Pipelines.{Pipeline}
use Rattle.picture.specs.declared.faults.EvalError.{EvalError}
use Rattle.picture.specs.declared.faults.EvalError.TheVariants as errors
use Rattle.halide_pipeline.specs.Picture.{IsPicture}
use Rattle.halide_pipeline.specs.Contents.{PictureContents, pixel_at}
use Rattle.halide_pipeline.specs.Pixel.{output_pixel}

abbrev pub error_number : EvalError → Option ℕ
error_number errors.InputCount = Some 1
error_number errors.InputSize = Some 2
error_number errors.InputByte = Some 3
error_number errors.OutOfMemory = None

-- the picture has the size that the input asks for
abbrev pub is_size : Input → PictureContents → Bool
is_size input picture = picture.width == input.width && picture.height == input.height

-- each picture has
abbrev pub are_sizes : List Input → List PictureContents → Bool
are_sizes [] pictures = true
are_sizes (input ∷ inputs) [] = true
are_sizes (input ∷ inputs) (picture ∷ pictures) = is_size input picture && are_sizes inputs pictures

-- where the input is one of bytes, each pixel is one
abbrev pub holds_bytes : Input → PictureContents → Bool
holds_bytes input picture = not input.is_bytes || list_all (λ pixel. nat_lt pixel 256) picture.pixels

-- each picture holds what its input asks for
abbrev pub hold_bytes : List Input → List PictureContents → Bool
hold_bytes [] pictures = true
hold_bytes (input ∷ inputs) [] = true
hold_bytes (input ∷ inputs) (picture ∷ pictures) = holds_bytes input picture && hold_bytes inputs pictures

-- the pictures are as many as are asked for, have the sizes and hold bytes where they should, or not: the count is judged first, the
-- pixels last
abbrev pub judged : List Input → List PictureContents → Option EvalError
judged inputs pictures =
    if not (length pictures == length inputs) then Some errors.InputCount
    else if not (are_sizes inputs pictures) then Some errors.InputSize
    else if not (hold_bytes inputs pictures) then Some errors.InputByte
    else None

-- the picture has the output's size, and at each point the output's pixel
pub record IsOutput (pipeline : Pipeline) (pictures : List PictureContents) (picture : PictureContents) : Type 0 where
  pub width : picture.width ≡ pipeline.output.width
  pub height : picture.height ≡ pipeline.output.height
  pub pixels : (x y : ℕ) → x < picture.width → y < picture.height → pixel_at picture x y ≡ output_pixel pipeline pictures x y
  pub rules : IsPicture picture

-- what is answered: the output of pictures that are not refused, or why they are; where memory ran out, they
-- are not refused either
abbrev pub Evaluates : Pipeline → List PictureContents → Result PictureContents EvalError → Type 0
Evaluates pipeline pictures (Ok picture) = (judged pipeline.inputs pictures ≡ None) × IsOutput pipeline pictures picture
Evaluates pipeline pictures (Err errors.OutOfMemory) = judged pipeline.inputs pictures ≡ None
Evaluates pipeline pictures (Err errors.InputCount) = judged pipeline.inputs pictures ≡ Some errors.InputCount
Evaluates pipeline pictures (Err errors.InputSize) = judged pipeline.inputs pictures ≡ Some errors.InputSize
Evaluates pipeline pictures (Err errors.InputByte) = judged pipeline.inputs pictures ≡ Some errors.InputByte
