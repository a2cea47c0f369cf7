-- The images of a compiled program, one for all input pictures that it asks for.
-- This project's own.
use Rattle.std.specs.Prelude.{◌≡◌, ◌⊎◌, List, Option, Some, ℕ, ◌+◌, ◌*◌, ◌/◌, [], ◌∷◌, ◌++◌, length, replicate, if◌then◌else◌}
use Rattle.std.specs.List.{AllByRecursion, flat_map}
use Rattle.std.specs.Int.{w32, to_le_bytes}
use Rattle.memory.specs.Access.{text_start}
use Rattle.halide_pipeline.specs.Picture.{IsPicture}
use Rattle.halide_pipeline.specs.Contents.{PictureContents}
use Rattle.halide_pipeline.specs.declared.definitions.Input.{Input}
use Rattle.loader.specs.Image.{ImageContents}
use Rattle.loader.specs.Spelling.{padded}
use Rattle.picture.specs.declared.faults.EvalError.{EvalError}
use Rattle.picture.specs.declared.faults.EvalError.TheVariants as errors
use Rattle.hrv_compiler.specs.Compiled.{CompiledContents, output_of}
use Rattle.bounds.specs.declared.layout.Layout.{Layout}

-- ---- The data of a compiled image: zeros in the words by which harts share their work, the inputs' pixels where the layout has them, and
-- zeros in all else.

-- up to a multiple of 4
abbrev pub whole : ℕ → ℕ
whole bytes = (bytes + 3) / 4 * 4

-- a pixel's bytes, the lowest first
abbrev pub word_bytes : List ℕ → List ℕ
word_bytes pixels = flat_map (to_le_bytes w32) pixels

-- one byte a pixel, up to a whole number of words; or four
abbrev pub input_data : Input → PictureContents → List ℕ
input_data input picture = if input.is_bytes then padded (whole (length picture.pixels)) picture.pixels else word_bytes picture.pixels

abbrev pub inputs_data : List Input → List PictureContents → List ℕ
inputs_data [] pictures = []
inputs_data (input ∷ inputs) [] = []
inputs_data (input ∷ inputs) (picture ∷ pictures) = input_data input picture ++ inputs_data inputs pictures

-- the words by which harts share their work, and the inputs; all after them are zeros
abbrev pub data_front : Layout → List Input → List PictureContents → List ℕ
data_front layout inputs pictures = replicate (8 * layout.phases) 0 ++ inputs_data inputs pictures

abbrev pub image_data : Layout → List Input → List PictureContents → List ℕ
image_data layout inputs pictures = padded layout.size (data_front layout inputs pictures)

-- ---- images

-- Text and entry depend on the program alone.
abbrev pub image_of : CompiledContents → List PictureContents → ImageContents
image_of compiled_contents pictures = record {
  entry = text_start;
  words = compiled_contents.words;
  bytes = image_data compiled_contents.boxes.layout compiled_contents.pipeline.inputs pictures;
  output = output_of compiled_contents.pipeline compiled_contents.boxes;
}

-- They keep the limits of pictures.
abbrev pub ArePictures : List PictureContents → Type 0
ArePictures pictures = AllByRecursion IsPicture pictures

-- why there is no image: the pictures aren't those that are asked for, or memory ran out
abbrev pub IsRefusedInput : Option EvalError → EvalError → Type 0
IsRefusedInput wanted error = (wanted ≡ Some error) ⊎ (error ≡ errors.OutOfMemory)
