use Rattle.std.proofs.Common.{ℕ, subst, sym, arith}
use Rattle.lowering.specs.Lowered.{IsStagePhase, Pure, Updating}
use Rattle.lowering.proofs.Lowered.{pure_is, past_end, no_stage}
use Rattle.lowering.proofs.Shares.{update-light}
use Rattle.lowering.proofs.phases.stage_phase.Goals as goal

pub returns-in_default : goal.returns-in_default
returns-in_default c =
    pure_is c.args.plan.now.pipeline c.args.plan.now.schedule c.args.plan.now.boxes c.args.computed.now.place c.args.computed.now.func.now
    c.args.computed.now.plan.now c.args.computed.now.own.now c.args.number c.in_ok-phase.phase (omega (arith, c.in_default.ensures))
    (Pure c.in_ok-phase.phase c.in_ok-phase.ensures.tasks c.in_ok-phase.ensures.private c.in_ok-phase.ensures.bytes c.in_ok-phase.ensures.stage
    c.in_ok-phase.ensures.touches ((c.in_ok-phase.ensures.few, (c.in_ok-phase.ensures.needs, c.in_ok-phase.ensures.few_tasks)), c.in_ok-phase.ensures.light)
    c.in_ok-phase.ensures.stores c.in_ok-phase.ensures.loop_lanes c.in_ok-phase.ensures.in_runs)

pub returns-in_default-get : goal.returns-in_default-get
returns-in_default-get c = let past = past_end c.args.computed.now.func.now.updates c.in-Some.at (sym c.in_default-get.ensures.value) in
    omega (arith, past, c.in-Some.ensures)

pub returns-in_default-get-2 : goal.returns-in_default-get-2
returns-in_default-get-2 c =
    absurd (no_stage c.args.plan.now.pipeline c.args.plan.now.schedule c.args.plan.now.boxes c.schedule-schedule.ensures.plan.accepted c.args.computed.now.place
    c.args.computed.now.func.now c.args.computed.now.plan.now c.args.computed.now.own.now c.requires.at c.in-Some.at c.in-Some-get.update.now
    (sym c.in-Some-get.ensures.value)
    (sym c.in_default-get-2.ensures.value))

pub returns : goal.returns
returns c =
    subst (λ (n : ℕ). IsStagePhase c.args.plan.now.pipeline c.args.plan.now.schedule c.args.plan.now.boxes c.args.computed.now.place
    c.args.computed.now.func.now c.args.computed.now.plan.now c.args.computed.now.own.now n c.in_ok-phase-2.phase) (omega (arith, c.in-Some.ensures))
    (Updating c.in-Some.at c.in-Some-get.update.now c.in-Some-get-2.stage.now c.in_ok-phase-2.phase
    (record { plan_is = c.requires.at.plan_is; update_is = sym c.in-Some-get.ensures.value; stage_is = sym c.in-Some-get-2.ensures.value })
    c.in_ok-phase-2.ensures.tasks c.in_ok-phase-2.ensures.private c.in_ok-phase-2.ensures.bytes c.in_ok-phase-2.ensures.does c.in_ok-phase-2.ensures.touches (
      (c.in_ok-phase-2.ensures.few, (c.in_ok-phase-2.ensures.needs, c.in_ok-phase-2.ensures.few_tasks)),
      update-light c.args.plan.now.pipeline c.args.plan.now.schedule c.args.plan.now.boxes c.args.computed.now.place c.args.computed.now.func.now
          c.args.computed.now.plan.now c.in-Some.at c.in-Some-get.update.now c.in-Some-get-2.stage.now c.in_ok-phase-2.phase (sym c.in-Some-get.ensures.value)
          (sym c.in-Some-get-2.ensures.value) c.in_ok-phase-2.ensures.sizes,
    ) c.in_ok-phase-2.ensures.stores c.in_ok-phase-2.ensures.loop_lanes)
