-- What a compiled program keeps beside what is promised of it: its words are those of its phases. This project's own.
use Rattle.std.specs.Prelude.{◌≡◌, ℕ, List, length}
use Rattle.halide_pipeline.specs.Pipelines.{Pipeline}
use Rattle.schedule.specs.declared.schedules.Schedule.{Schedule}
use Rattle.bounds.specs.declared.verdict.Boxes.{Boxes}
use Rattle.loop_ir.specs.declared.statements.Phase.{Phase}
use Rattle.lowering.specs.Lowered.{AreLowered}
use Rattle.vector_codegen_laws.specs.Places.{places_of}
use Rattle.vector_codegen_laws.specs.PhaseCode.{ends_from}
use Rattle.vector_codegen_laws.specs.Programs.{IsProgram}
use Rattle.hrv_compiler.specs.Compiled.{CompiledContents}
use Rattle.hrv_compiler.specs.Verdict.{IsCompiled}

-- The words are of a program that does the phases of a pipeline under a schedule, where the layout has the buffers, and the code of each ends here.
pub record AreWordsOf (pipeline : Pipeline) (schedule : Schedule) (boxes : Boxes) (words ends : List ℕ) : Type 0 where
  pub phases : List Phase
  pub are_lowered : AreLowered pipeline schedule boxes (length pipeline.funcs) phases
  pub is_program : IsProgram (places_of pipeline schedule boxes.funcs boxes.layout) phases words
  pub ends_are : ends ≡ ends_from 0 0 is_program.parts

pub record IsHeld (compiled_contents : CompiledContents) : Type 0 where
  pub compiled : IsCompiled compiled_contents
  pub words_are : AreWordsOf compiled_contents.pipeline compiled_contents.schedule compiled_contents.boxes
      compiled_contents.words compiled_contents.ends
