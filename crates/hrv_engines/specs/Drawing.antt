-- What an algorithm and input pictures mean when they are drawn: the text of the reference picture, or the first refusal.
-- This project's own.
use Rattle.std.specs.Prelude.{◌≡◌, ℕ, List, [], ◌∷◌, Option, Some, None, option_map, Result, Ok, Err}
use Rattle.std.specs.declared.alloc.Global.{Global}
use Rattle.line_text.specs.Lines.{◌>>=◌}
use Rattle.halide_pipeline.specs.Pipelines.{Pipeline}
use Rattle.halide_parser_syntax.specs.declared.faults.ParseFault.{ParseFault}
use Rattle.halide_parser.specs.Parsing.{parsed}
use Rattle.picture.specs.declared.faults.PictureFault.{PictureFault}
use Rattle.halide_pipeline.specs.Contents.{PictureContents}
use Rattle.picture.specs.Reading.{picture_of, spelled}
use Rattle.picture.specs.Evaluated.{IsOutput, judged}
use Rattle.hrv_engines.specs.declared.faults.Refusal.{Refusal}
use Rattle.hrv_engines.specs.declared.faults.Refusal.TheVariants.{Parse, Picture, Input}

-- the pictures that texts spell, or the fault of the first that spells none
abbrev pub pictures_of : List (List ℕ) → Result (List PictureContents) PictureFault
pictures_of [] = Ok []
pictures_of (text ∷ texts) = picture_of text >>= λ picture. pictures_of texts >>= λ pictures. Ok (picture ∷ pictures)

-- why texts are refused as pictures
abbrev pub RefusesPictures : List (List ℕ) → Refusal → Type 0
RefusesPictures texts refusal = (fault : PictureFault) × (refusal ≡ Picture fault) × (pictures_of texts ≡ Err fault)

-- ---- what is drawn

-- The algorithm's pipeline asks for these pictures, and the text spells its output, pixel by pixel as the pipeline's definition has
-- it. The texts are the algorithm's and those of the inputs.
pub record IsDrawing (alloc : Global) (texts : List ℕ × List (List ℕ)) (text : List ℕ) : Type 0 where
  pub pipeline : Pipeline
  pub pictures : List PictureContents
  pub picture : PictureContents
  pub is_algorithm : parsed alloc texts.0 ≡ Ok pipeline
  pub are_inputs : pictures_of texts.1 ≡ Ok pictures
  pub are_asked_for : judged pipeline.inputs pictures ≡ None
  pub is_output : IsOutput pipeline pictures picture
  pub is_spelled : text ≡ spelled picture

-- ---- what is refused

abbrev pub with_pictures : Pipeline → Result (List PictureContents) PictureFault → Option Refusal
with_pictures pipeline (Ok pictures) = option_map Input (judged pipeline.inputs pictures)
with_pictures pipeline (Err fault) = Some (Picture fault)

abbrev pub with_pipeline : Result Pipeline (ℕ × ParseFault) → List (List ℕ) → Option Refusal
with_pipeline (Ok pipeline) inputs = with_pictures pipeline (pictures_of inputs)
with_pipeline (Err fault) inputs = Some (Parse fault.0 fault.1)

-- why an algorithm and inputs are refused: the algorithm is judged first, then each input as a picture, then whether they are what is
-- asked for
unfoldable pub refusal_of : Global → List ℕ × List (List ℕ) → Option Refusal
refusal_of alloc texts = with_pipeline (parsed alloc texts.0) texts.1

abbrev pub IsRefusedDrawing : Global → List ℕ × List (List ℕ) → Refusal → Type 0
IsRefusedDrawing alloc texts refusal = refusal_of alloc texts ≡ Some refusal
