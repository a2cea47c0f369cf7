use Rattle.std.proofs.Common.{Option, subst}
use Rattle.loop_ir.specs.declared.statements.Phase.{Phase}
use Rattle.lowering.specs.Lowered.{IsStagePhaseIfThere}
use Rattle.lowering.proofs.Lowered.{one_stage}
use Rattle.lowering.proofs.phases.with_stage.Goals as goal

pub returns : goal.returns
returns c = λ others before.
    one_stage c.args.plan.now.pipeline c.args.plan.now.schedule c.args.plan.now.boxes c.args.computed.now.place c.args.computed.now.func.now
    c.args.computed.now.plan.now c.args.computed.now.own.now others c.args.before.items c.push.new.self.items c.args.number c.in-Some.phase before
    (subst (λ (o : Option Phase). IsStagePhaseIfThere c.args.plan.now.pipeline c.args.plan.now.schedule c.args.plan.now.boxes c.args.computed.now.place
    c.args.computed.now.func.now c.args.computed.now.plan.now c.args.computed.now.own.now c.args.number o) c.in-Some.is c.in_ok-found.ensures)
    c.in_ok-push.ensures.items
