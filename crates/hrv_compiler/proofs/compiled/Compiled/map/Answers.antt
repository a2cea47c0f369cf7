use Rattle.std.proofs.Common.{◌≡◌, ◌∙◌, ℕ, List, ap, arith, subst}
use Rattle.bounds.specs.Plans.{PlanContents}
use Rattle.hrv_map.specs.Maps.{map_text}
use Rattle.vector_codegen_laws.specs.Programs.{CodeStage}
use Rattle.hrv_compiler.specs.Compiled.{CompiledContents}
use Rattle.hrv_compiler.specs.inner.Held.{IsHeld}
use Rattle.hrv_compiler.proofs.Low.{few_phases}
use Rattle.hrv_compiler.proofs.Map.{all-right, are-phases}
use Rattle.hrv_compiler.proofs.compiled.Compiled.map.Goals as goal

pub new-requires-clause-accepted : goal.new-requires-clause-accepted
new-requires-clause-accepted c = c.self.invariant.compiled.accepted

pub new-requires-clause-boxes : goal.new-requires-clause-boxes
new-requires-clause-boxes c = c.self.invariant.compiled.inferred_is

pub map_text-requires : goal.map_text-requires
map_text-requires c =
    let l = few_phases c.self.inside.pipeline c.self.inside.schedule c.self.inside.boxes c.self.invariant.compiled.inferred_is in
    omega (arith, l, ap (λ (p : PlanContents). p.boxes.layout.phases) c.new.ensures)

pub returns-clause-is : goal.returns-clause-is
returns-clause-is c =
    let own = c.self.inside in
    subst (λ (own : CompiledContents). c.in_ok-text.text.items ≡ map_text c.args.algorithm.now own.pipeline own.schedule own.boxes own.ends own.stages)
    c.self.view_is
    (c.in_ok-text.ensures
    ∙ ap (λ (p : PlanContents). map_text c.args.algorithm.now p.pipeline p.schedule p.boxes c.as_slice.result.now c.as_slice-2.result.now) c.new.ensures
    ∙ ap (λ (ends : List ℕ). map_text c.args.algorithm.now own.pipeline own.schedule own.boxes ends c.as_slice-2.result.now) c.as_slice.ensures.value
    ∙ ap (λ (stages : List CodeStage). map_text c.args.algorithm.now own.pipeline own.schedule own.boxes own.ends.items stages) c.as_slice-2.ensures.value)

pub returns-clause-phases : goal.returns-clause-phases
returns-clause-phases c = are-phases c.args.self.now (subst IsHeld c.self.view_is c.self.invariant)

pub returns-clause-images : goal.returns-clause-images
returns-clause-images c = all-right c.args.self.now (subst IsHeld c.self.view_is c.self.invariant)
