-- What an algorithm, a schedule and input pictures mean when they are compiled: the bytes of an image, or the first refusal.
-- This project's own.
use Rattle.std.specs.Prelude.{◌≡◌, ◌⊎◌, ℕ, List, Option, Some, None, Ok}
use Rattle.std.specs.declared.alloc.Global.{Global}
use Rattle.halide_pipeline.specs.Pipelines.{Pipeline}
use Rattle.halide_parser.specs.Parsing.{parsed}
use Rattle.halide_pipeline.specs.Contents.{PictureContents}
use Rattle.picture.specs.Evaluated.{judged}
use Rattle.loader.specs.Image.{IsImage}
use Rattle.loader.specs.Spelling.{spelled}
use Rattle.loader.specs.declared.formats.Format.TheVariants.{Hrv2}
use Rattle.hrv_compiler.specs.declared.faults.CompileFault.{CompileFault}
use Rattle.hrv_compiler.specs.Assigned.{IsAssigned}
use Rattle.hrv_compiler.specs.Compiled.{CompiledContents}
use Rattle.hrv_compiler.specs.Verdict.{IsCompiled, Means, refusal_of}
use Rattle.hrv_compiler.specs.Correct.{Correct}
use Rattle.hrv_compiler.specs.Images.{image_of}
use Rattle.hrv_compiler.specs.Runs.{WritesWholeRuns}
use Rattle.hrv_engines.specs.declared.faults.Refusal.{Refusal}
use Rattle.hrv_engines.specs.declared.faults.Refusal.TheVariants.{Compile}
use Rattle.hrv_engines.specs.Drawing.{pictures_of, with_pictures}

-- the texts of an algorithm, of a schedule and of input pictures
abbrev pub Texts : Type 0
Texts = (List ℕ × List ℕ) × List (List ℕ)

-- the first fault of an algorithm and a schedule
abbrev pub first_fault : Global → Texts → Option CompileFault
first_fault alloc texts = refusal_of alloc texts.0.0 texts.0.1

-- ---- what is compiled

-- The texts mean a program, in which no fault is, and pictures that it asks for; the bytes spell its image of them in the second
-- format. On every list of turns that image leaves the algorithm's pixels, its work can be shared in each way, and vectorized loops write
-- whole runs.
pub record IsCompilation (alloc : Global) (texts : Texts) (bytes : List ℕ) : Type 0 where
  pub program : CompiledContents
  pub pictures : List PictureContents
  pub is_faultless : first_fault alloc texts ≡ None
  pub is_program : Means alloc texts.0.0 texts.0.1 program
  pub is_compiled : IsCompiled program
  pub are_inputs : pictures_of texts.1 ≡ Ok pictures
  pub are_asked_for : judged program.pipeline.inputs pictures ≡ None
  pub is_image : IsImage (image_of program pictures)
  pub is_correct : Correct program.pipeline pictures program.boxes.layout.phases (image_of program pictures)
  pub is_assigned : IsAssigned program.pipeline program.schedule program.boxes pictures (image_of program pictures)
  pub writes_runs : WritesWholeRuns program (image_of program pictures)
  pub is_spelled : bytes ≡ spelled Hrv2 (image_of program pictures)

-- ---- what is refused

-- The fault of an algorithm and a schedule is the first that is.
abbrev pub IsFault : Global → Texts → CompileFault → Type 0
IsFault alloc texts fault = first_fault alloc texts ≡ Some fault

-- No fault is in an algorithm and a schedule, and the inputs are refused: one is no picture, or they aren't what is asked for.
pub record RefusesInputs (alloc : Global) (texts : Texts) (refusal : Refusal) : Type 0 where
  pub pipeline : Pipeline
  pub is_faultless : first_fault alloc texts ≡ None
  pub is_algorithm : parsed alloc texts.0.0 ≡ Ok pipeline
  pub are_refused : with_pictures pipeline (pictures_of texts.1) ≡ Some refusal

-- Both texts are judged first, then each input as a picture, then whether the inputs are what is asked for.
abbrev pub IsRefusedCompilation : Global → Texts → Refusal → Type 0
IsRefusedCompilation alloc texts refusal =
    ((fault : CompileFault) × (refusal ≡ Compile fault) × IsFault alloc texts fault) ⊎ RefusesInputs alloc texts refusal
