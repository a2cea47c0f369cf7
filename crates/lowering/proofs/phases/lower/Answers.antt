use Rattle.std.proofs.Common.{◌≡◌, ℕ, List, length, subst}
use Rattle.halide_pipeline.specs.Pipelines.{Pipeline}
use Rattle.schedule.specs.declared.schedules.Schedule.{Schedule}
use Rattle.bounds.specs.declared.verdict.Boxes.{Boxes}
use Rattle.bounds.specs.Plans.{PlanContents}
use Rattle.loop_ir.specs.declared.statements.Phase.{Phase}
use Rattle.halide_pipeline.specs.declared.definitions.Func.{Func}
use Rattle.lowering.specs.Lowered.{AreLowered}
use Rattle.lowering.proofs.Depths.{phases_few}
use Rattle.lowering.proofs.Lowered.{phases_do_pixels, phases_leave_output}
use Rattle.lowering.proofs.Weighing.{all-light}
use Rattle.lowering.proofs.phases.lower.Goals as goal

-- the phases of a plan that is made of these are theirs
are_lowered : (pipeline : Pipeline) (schedule : Schedule) (boxes : Boxes) (plan : PlanContents)
    → plan ≡ record { pipeline = pipeline; schedule = schedule; boxes = boxes }
    → (count : ℕ) (phases : List Phase) → AreLowered plan.pipeline plan.schedule plan.boxes count phases → AreLowered pipeline schedule boxes count phases
are_lowered pipeline schedule boxes plan is count phases lowered = subst (λ (p : PlanContents). AreLowered p.pipeline p.schedule p.boxes count phases) is
    lowered

pub returns-clause-few : goal.returns-clause-few
returns-clause-few c =
    phases_few c.args.pipeline.now c.args.schedule.now c.args.boxes.now _ c.in_ok-phases.phases.items (are_lowered c.args.pipeline.now c.args.schedule.now
    c.args.boxes.now c.new-plan.result c.new-plan.ensures _ c.in_ok-phases.phases.items c.in_ok-phases.ensures)

pub returns-clause-pixels : goal.returns-clause-pixels
returns-clause-pixels c =
    phases_do_pixels c.args.pipeline.now c.args.schedule.now c.args.boxes.now c.requires.accepted c.requires.boxes c.in_ok-phases.phases.items
    (subst (λ (l : List Func). AreLowered c.args.pipeline.now c.args.schedule.now c.args.boxes.now (length l) c.in_ok-phases.phases.items)
    c.funcs-count.ensures.value (are_lowered c.args.pipeline.now c.args.schedule.now c.args.boxes.now c.new-plan.result c.new-plan.ensures
    _ c.in_ok-phases.phases.items c.in_ok-phases.ensures))

pub returns-clause-output : goal.returns-clause-output
returns-clause-output c =
    phases_leave_output c.args.pipeline.now c.args.schedule.now c.args.boxes.now c.funcs-count.ensures.rules c.requires.accepted c.requires.boxes
    c.in_ok-phases.phases.items
    (subst (λ (l : List Func). AreLowered c.args.pipeline.now c.args.schedule.now c.args.boxes.now (length l) c.in_ok-phases.phases.items)
    c.funcs-count.ensures.value (are_lowered c.args.pipeline.now c.args.schedule.now c.args.boxes.now c.new-plan.result c.new-plan.ensures
    _ c.in_ok-phases.phases.items c.in_ok-phases.ensures))

pub returns-clause-light : goal.returns-clause-light
returns-clause-light c = all-light c.args.pipeline.now c.args.schedule.now c.args.boxes.now c.requires.accepted _ c.in_ok-phases.phases.items
    (are_lowered c.args.pipeline.now c.args.schedule.now c.args.boxes.now c.new-plan.result c.new-plan.ensures _ c.in_ok-phases.phases.items
    c.in_ok-phases.ensures)
