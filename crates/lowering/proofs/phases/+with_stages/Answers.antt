use Rattle.std.proofs.Common.{suc, ap, arith}
use Rattle.lowering.proofs.Lowered.{nothing_yet, stages_so}
use Rattle.lowering.proofs.phases.+with_stages.Goals as goal
use Rattle.lowering.proofs.phases.+with_stages.Goals.{in-None, in-Some+in_ok-before-in-Some}

pub returns : goal.returns
returns t c =
    c.in_ok-phases.ensures c.args.others.items
    (elim c.match-checked_sub.branch [
      | in-None w ↦
          nothing_yet c.args.plan.now.pipeline c.args.plan.now.schedule c.args.plan.now.boxes c.args.computed.now.place c.args.computed.now.func.now
          c.args.computed.now.plan.now c.args.computed.now.own.now c.args.others.items c.match-checked_sub.before.items c.args.last
          (omega (arith, w.in-None.ensures)) (ap (λ v. v.items) w.before-is)
      | in-Some+in_ok-before-in-Some w ↦
          stages_so c.args.plan.now.pipeline c.args.plan.now.schedule c.args.plan.now.boxes c.args.computed.now.place c.args.computed.now.func.now
          c.args.computed.now.plan.now c.args.computed.now.own.now c.args.others.items w.in_ok-before-in-Some.before.items c.match-checked_sub.before.items
          (suc w.in-Some.before) c.args.last w.in_ok-before-in-Some.ensures (omega (arith, w.in-Some.ensures)) (ap (λ v. v.items) w.before-is)
    ])
