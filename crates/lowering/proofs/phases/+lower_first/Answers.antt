use Rattle.lowering.proofs.Lowered.{nothing_lowered}
use Rattle.lowering.proofs.phases.+lower_first.Goals as goal

pub returns-then-count-eq0 : goal.returns-then-count-eq0
returns-then-count-eq0 t c =
    nothing_lowered c.args.plan.now.pipeline c.args.plan.now.schedule c.args.plan.now.boxes c.args.count c.new.result.items
    c.if-count-eq0.true c.new.ensures.items
