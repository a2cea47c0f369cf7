use Rattle.std.proofs.Common.{ℕ, suc, List, length, Option, refl, sym, ap, ◌∙◌}
use Rattle.std.specs.Prelude.{slice_get}
use Rattle.halide_pipeline.specs.Pipelines.{Pipeline}
use Rattle.schedule.specs.declared.schedules.Schedule.{Schedule}
use Rattle.bounds.specs.declared.boxes.SourceBox.{SourceBox}
use Rattle.bounds.specs.declared.verdict.Boxes.{Boxes}
use Rattle.bounds.specs.Extents.{box_in}
use Rattle.lowering.specs.Lowered.{Passed, Computed}
use Rattle.lowering.proofs.Lowered.{not_standing, not_root, no_func, no_plan, no_box, stages_so}
use Rattle.lowering.proofs.Parts.{at_root}
use Rattle.lowering.proofs.phases.with_func.Goals as goal

pub returns-in_default : goal.returns-in_default
returns-in_default c =
    Passed c.args.func_index c.args.others.items c.requires.others (not_standing c.args.plan.now.pipeline c.args.plan.now.schedule c.args.plan.now.boxes c.args.func_index
    (sym (c.in_default.ensures ∙ ap (λ (s : Schedule). slice_get s.standings c.args.func_index) c.schedule-schedule.ensures.value)))

pub returns-then-not-is_at_root : goal.returns-then-not-is_at_root
returns-then-not-is_at_root c =
    Passed c.args.func_index c.args.others.items c.requires.others
    (not_root c.args.plan.now.pipeline c.args.plan.now.schedule c.args.plan.now.boxes c.args.func_index c.in-Some.standing.now (sym (c.in-Some.ensures
    ∙ ap (λ (s : Schedule). slice_get s.standings c.args.func_index) c.schedule-schedule.ensures.value)) (sym c.if-not-is_at_root.ensures))

pub returns-in_default-func : goal.returns-in_default-func
returns-in_default-func c =
    Passed c.args.func_index c.args.others.items c.requires.others (no_func c.args.plan.now.pipeline c.args.plan.now.schedule c.args.plan.now.boxes c.args.func_index
    (sym (c.in_default-func.ensures ∙ ap (λ (p : Pipeline). slice_get p.funcs c.args.func_index)
    c.pipeline.ensures.value)))

pub returns-in_default-get : goal.returns-in_default-get
returns-in_default-get c =
    Passed c.args.func_index c.args.others.items c.requires.others (no_plan c.args.plan.now.pipeline c.args.plan.now.schedule c.args.plan.now.boxes c.args.func_index
    (sym (c.in_default-get.ensures.value ∙ ap (λ (s : Schedule). slice_get s.funcs c.args.func_index) c.schedule-schedule.ensures.value)))

pub returns-in_default-box_at : goal.returns-in_default-box_at
returns-in_default-box_at c =
    Passed c.args.func_index c.args.others.items c.requires.others
    (no_box c.args.plan.now.pipeline c.args.plan.now.schedule c.args.plan.now.boxes c.args.func_index
    (ap (λ (l : List (Option SourceBox)). box_in (slice_get l c.args.func_index)) (sym (c.as_slice.ensures.value
    ∙ ap (λ (b : Boxes). b.funcs) c.boxes.ensures.value)) ∙ sym c.in_default-box_at.ensures))

pub returns : goal.returns
returns c =
    Computed c.args.func_index c.args.others.items c.in_ok-phases.phases.items c.in-Some-func.func.now c.in-Some-get.func_plan.now c.in-Some-box_at.own.now
    c.requires.others
    (at_root c.args.plan.now.pipeline c.args.plan.now.schedule c.args.plan.now.boxes c.args.func_index c.in-Some.standing.now c.in-Some-func.func.now
    c.in-Some-get.func_plan.now c.in-Some-box_at.own.now
    (sym (c.in-Some.ensures ∙ ap (λ (s : Schedule). slice_get s.standings c.args.func_index) c.schedule-schedule.ensures.value)) (sym c.if-not-is_at_root.ensures)
    (sym (c.in-Some-func.ensures ∙ ap (λ (p : Pipeline). slice_get p.funcs c.args.func_index) c.pipeline.ensures.value)) (sym (c.in-Some-get.ensures.value
    ∙ ap (λ (s : Schedule). slice_get s.funcs c.args.func_index) c.schedule-schedule.ensures.value))
    (ap (λ (l : List (Option SourceBox)). box_in (slice_get l c.args.func_index)) (sym (c.as_slice.ensures.value
    ∙ ap (λ (b : Boxes). b.funcs) c.boxes.ensures.value)) ∙ sym c.in-Some-box_at.ensures))
    (stages_so c.args.plan.now.pipeline c.args.plan.now.schedule c.args.plan.now.boxes c.args.func_index c.in-Some-func.func.now c.in-Some-get.func_plan.now
    c.in-Some-box_at.own.now c.args.others.items c.in_ok-phases.phases.items c.in_ok-phases.phases.items
    (suc c.len-last.result) (suc (length c.in-Some-func.func.now.updates)) c.in_ok-phases.ensures (ap (λ (n : ℕ). suc n) c.len-last.ensures) refl)
