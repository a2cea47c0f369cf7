-- Which words are the code of which phase, in a compiled program's text: the part after the end of the phase before it, up to its own; and what
-- all images of the program do. This project's own.
use Rattle.std.specs.Prelude.{◌≡◌, List, [], length, None}
use Rattle.task_code_scalar.specs.Words.{Emits}
use Rattle.vector_codegen_laws.specs.PhaseCode.{Part, ends_from, program}
use Rattle.halide_pipeline.specs.Contents.{PictureContents}
use Rattle.picture.specs.Evaluated.{judged}
use Rattle.hrv_compiler.specs.Assigned.{IsAssigned}
use Rattle.hrv_compiler.specs.Compiled.{CompiledContents}
use Rattle.hrv_compiler.specs.Correct.{Correct}
use Rattle.hrv_compiler.specs.Images.{ArePictures, image_of}
use Rattle.hrv_compiler.specs.Runs.{WritesWholeRuns}
pub use Rattle.hrv_map.specs.Maps.{map_text}

-- The text has as many parts as there are phases, one after the other. Each draws tasks at the ticket word of its phase and waits at its gate
-- (`phase_code`), and the ends are theirs.
pub record ArePhases (compiled_contents : CompiledContents) : Type 0 where
  pub parts : List Part
  pub as_many : length parts ≡ compiled_contents.boxes.layout.phases
  pub are_words : Emits [] compiled_contents.words (program 0 parts)
  pub ends_are : compiled_contents.ends ≡ ends_from 0 0 parts

-- What an image of these words and of any pictures that are asked for does is what is promised of each image that is made: so the words are of a
-- right program, whose code draws the tasks of its phases and uses the layout.
pub record AreImagesRight (compiled_contents : CompiledContents) (pictures : List PictureContents) : Type 0 where
  pub correct : Correct compiled_contents.pipeline pictures compiled_contents.boxes.layout.phases
      (image_of compiled_contents pictures)
  pub assigned : IsAssigned compiled_contents.pipeline compiled_contents.schedule compiled_contents.boxes pictures
      (image_of compiled_contents pictures)
  pub runs : WritesWholeRuns compiled_contents (image_of compiled_contents pictures)

abbrev pub AreAllRight : CompiledContents → Type 0
AreAllRight compiled_contents = (pictures : List PictureContents) → judged compiled_contents.pipeline.inputs pictures ≡ None → ArePictures pictures → AreImagesRight compiled_contents pictures
