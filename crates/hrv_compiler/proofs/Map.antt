-- The words of a compiled program are the code of its phases.
use Rattle.std.proofs.Common.{◌≡◌, sym, ap, ◌∙◌}
use Rattle.std.specs.Prelude.{Ok}
use Rattle.halide_pipeline.specs.Pipelines.{Pipeline}
use Rattle.schedule.specs.declared.schedules.Schedule.{Schedule}
use Rattle.bounds.specs.declared.layout.Layout.{Layout}
use Rattle.bounds.specs.declared.verdict.Boxes.{Boxes}
use Rattle.bounds.specs.Layout.{laid_in, phases}
use Rattle.bounds.specs.Verdict.{inferred}
use Rattle.vector_codegen_laws.proofs.ProgramStanding.{parts-length}
use Rattle.vector_codegen_laws.specs.Places.{places_of}
use Rattle.hrv_compiler.specs.Compiled.{CompiledContents}
use Rattle.hrv_compiler.specs.Map.{AreAllRight, ArePhases}
use Rattle.hrv_compiler.specs.inner.Held.{IsHeld}
use Rattle.hrv_compiler.proofs.Correct.{correct, is-assigned}
use Rattle.hrv_compiler.proofs.Counted.{phases-counted}
use Rattle.hrv_compiler.proofs.Low.{layout_is}
use Rattle.hrv_compiler.proofs.Runs.{writes-whole-runs}

phases_are : (pipeline : Pipeline) (schedule : Schedule) (boxes : Boxes) → inferred pipeline schedule ≡ Ok boxes
    → boxes.layout.phases ≡ phases schedule.standings pipeline.funcs boxes.funcs
unfolding laid_in
phases_are pipeline schedule boxes is = ap (λ (l : Layout). l.phases) (layout_is pipeline schedule boxes is)

pub are-phases : (compiled_contents : CompiledContents) → IsHeld compiled_contents → ArePhases compiled_contents
are-phases compiled_contents rules =
    let made = rules.words_are.is_program in
    record {
      parts = made.parts;
      as_many =
          parts-length (places_of compiled_contents.pipeline compiled_contents.schedule compiled_contents.boxes.funcs compiled_contents.boxes.layout) 0 rules.words_are.phases made.parts made.are_parts
          ∙ sym (phases_are compiled_contents.pipeline compiled_contents.schedule compiled_contents.boxes
          rules.compiled.inferred_is
          ∙ phases-counted compiled_contents.pipeline compiled_contents.schedule compiled_contents.boxes rules.compiled.accepted rules.compiled.inferred_is rules.words_are.phases
          rules.words_are.are_lowered);
      are_words = made.emits;
      ends_are = rules.words_are.ends_are;
    }

-- all images of the words do what is promised of each that is made
pub all-right : (compiled_contents : CompiledContents) → IsHeld compiled_contents → AreAllRight compiled_contents
all-right compiled_contents rules pictures none are = record {
  correct = correct compiled_contents rules pictures none are;
  assigned = is-assigned compiled_contents rules pictures none are;
  runs = writes-whole-runs compiled_contents rules pictures none are;
}
