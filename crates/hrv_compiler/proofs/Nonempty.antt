-- A program has words.
use Rattle.std.proofs.Common.{◌≡◌, ℕ, suc, ◌<◌, ◌≤◌, List, [], ◌∷◌, length, subst, arith, inl, inr}
use Rattle.std.proofs.lemmas.Bool.{cases_lt}
use Rattle.std.proofs.lemmas.List.{length-append}
use Rattle.std.proofs.lemmas.Option.{slice_get_within}
use Rattle.halide_pipeline.specs.declared.definitions.Func.{Func}
use Rattle.halide_pipeline.specs.Pipelines.{Pipeline}
use Rattle.schedule.specs.declared.plans.FuncPlan.{FuncPlan}
use Rattle.schedule.specs.declared.schedules.Schedule.{Schedule}
use Rattle.bounds.specs.declared.boxes.SourceBox.{SourceBox}
use Rattle.bounds.specs.declared.verdict.Boxes.{Boxes}
use Rattle.loop_ir.specs.declared.statements.Phase.{Phase}
use Rattle.lowering.specs.Lowered.{ArePhasesOf, One_more, AreLowered, No_func, Passed, Computed}
use Rattle.bounds.specs.Stages.{IsAtRoot}
use Rattle.task_code_scalar.proofs.Spelling.{emits-length}
use Rattle.vector_codegen_laws.specs.PhaseCode.{Part, program}
use Rattle.vector_codegen_laws.proofs.ProgramStanding.{parts-length}
use Rattle.vector_codegen_laws.specs.Places.{places_of}
use Rattle.hrv_compiler.specs.Compiled.{CompiledContents}
use Rattle.hrv_compiler.specs.inner.Held.{IsHeld}
use Rattle.hrv_compiler.proofs.OutputBox.{root_output}

module _ (pipeline : Pipeline) (schedule : Schedule) (boxes : Boxes) where
  one_phase : (func_index : ℕ) (func : Func) (plan : FuncPlan) (source_box : SourceBox) (others : List Phase) (number : ℕ) (phases : List Phase)
      → ArePhasesOf pipeline schedule boxes func_index func plan source_box others (suc number) phases
      → 1 ≤ length phases
  one_phase func_index func plan source_box others number _ (One_more _ phases phase before made) =
      let l = length-append phases (phase ∷ []) in
      omega (arith, l)

  pub some_phases : (count : ℕ) (phases : List Phase) → AreLowered pipeline schedule boxes count phases
      → (func_index : ℕ) (func : Func) (plan : FuncPlan) (source_box : SourceBox) → func_index < count → IsAtRoot pipeline schedule boxes func_index func plan source_box → 1 ≤ length phases
  some_phases _ _ No_func func_index func plan source_box l at = absurd (omega (arith, l))
  some_phases _ phases (Passed last _ before none) func_index func plan source_box l at = elim
      (cases_lt func_index last) [
        | inl b ↦ some_phases last phases before func_index func plan source_box b at
        | inr b ↦
            let e : func_index ≡ last = omega (arith, l, b) in
            absurd (none func plan source_box (subst (λ (n : ℕ). IsAtRoot pipeline schedule boxes n func plan source_box) e
            at))
      ]
  some_phases _ phases (Computed last before _ first second third rest there made) func_index func plan source_box l at = one_phase last first second third before
      (length first.updates) phases made

some_code : (number : ℕ) (parts : List Part) → 1 ≤ length parts → 1 ≤ length (program number parts)
some_code number [] l = absurd (omega (arith, l))
some_code number (part ∷ []) l = omega arith
some_code number (part ∷ other ∷ others) l = omega arith

pub some_words : (compiled_contents : CompiledContents) → IsHeld compiled_contents → 1 ≤ length compiled_contents.words
some_words compiled_contents rules =
    let root = root_output compiled_contents.pipeline compiled_contents.schedule compiled_contents.boxes rules.compiled.well_formed rules.compiled.accepted rules.compiled.inferred_is in
    let words = rules.words_are in
    let phases = some_phases compiled_contents.pipeline compiled_contents.schedule compiled_contents.boxes (length compiled_contents.pipeline.funcs) words.phases words.are_lowered compiled_contents.pipeline.output.func root.func
    root.plan root.own inside root.at_root in
    let made = words.is_program in
    let same = parts-length (places_of compiled_contents.pipeline compiled_contents.schedule compiled_contents.boxes.funcs compiled_contents.boxes.layout) 0 words.phases made.parts made.are_parts in
    let code = some_code 0 made.parts (omega (arith, phases, same)) in
    let long = emits-length compiled_contents.words (program 0 made.parts) made.emits in
    omega (arith, code, long)
  where
    inside : compiled_contents.pipeline.output.func < length compiled_contents.pipeline.funcs
    inside =
        let root = root_output compiled_contents.pipeline compiled_contents.schedule compiled_contents.boxes rules.compiled.well_formed rules.compiled.accepted rules.compiled.inferred_is in
        slice_get_within compiled_contents.pipeline.funcs compiled_contents.pipeline.output.func root.func
        root.at_root.func_is
