use Rattle.std.proofs.Common.{◌≡◌, refl, ap, ◌∙◌, arith}
use Rattle.loop_ir.specs.Buffers.{planes, points_of}
use Rattle.loop_ir.specs.Counters.{values_of}
use Rattle.loop_ir.specs.Running.{run}
use Rattle.loop_ir.proofs.Bound.{one_bound}
use Rattle.loop_ir.proofs.Iterations.{iterations_none, iteration_made, both_made, loop_left, test_passed}
use Rattle.loop_ir.proofs.running.+execute.Goals as goal

pub loop-iteration-init : goal.loop-iteration-init
loop-iteration-init t c = record { points = refl; after = iterations_none _ _ }

pub loop-iteration-preserved : goal.loop-iteration-preserved
loop-iteration-preserved t c = record {
  points = c.execute-in-loop-iteration.ensures.points ∙ c.loop-iteration.invariant.points;
  after = iteration_made _ _ _ c.in-For.body _ _ c.loop-iteration.iteration _ _ _ (planes c.loop-iteration.funcs) _
      c.loop-iteration.invariant.points c.get-in-loop-iteration.ensures (one_bound _ _ _) c.loop-iteration.invariant.after c.execute-in-loop-iteration.ensures.after;
}

pub returns-in-Sequence-clause-after : goal.returns-in-Sequence-clause-after
returns-in-Sequence-clause-after t c =
    both_made c.args.stmt.now c.in-Sequence.first c.in-Sequence.second (points_of c.args.funcs.now) (points_of c.execute.new.funcs) (planes c.args.inputs.now)
    (values_of c.args.bindings.now) (planes c.args.funcs.now) (planes c.execute.new.funcs) _ c.in-Sequence.is c.execute.ensures.points
    (c.execute.ensures.after ∙ ap (λ own. run (points_of c.args.funcs.now) (planes c.args.inputs.now) own (values_of c.args.bindings.now)
    (planes c.args.funcs.now)) c.get.ensures)
    (c.execute-in-Sequence.ensures.after
    ∙ ap (λ own. run (points_of c.execute.new.funcs) (planes c.args.inputs.now) own (values_of c.args.bindings.now) (planes c.execute.new.funcs))
    c.get-in-Sequence.ensures)

pub returns-after-loop-iteration-clause-points : goal.returns-after-loop-iteration-clause-points
returns-after-loop-iteration-clause-points t c = c.loop-iteration.invariant.points

pub returns-after-loop-iteration-clause-after : goal.returns-after-loop-iteration-clause-after
returns-after-loop-iteration-clause-after t c =
    let all : c.loop-iteration.iteration ≡ c.in-For.count = omega arith in
    loop_left c.args.stmt.now _ _ _ _ _ _ _ c.loop-iteration.iteration _ _ c.in-For.is all c.loop-iteration.invariant.after

pub returns-then-value-extent-clause-after : goal.returns-then-value-extent-clause-after
returns-then-value-extent-clause-after t c =
    test_passed c.args.stmt.now c.in-Bind.body _ c.in-Bind.counter c.in-Bind.whole c.in-Bind.extent c.whole_value-value.result _ _ _ _ _ _
    c.in-Bind.is c.get-then-value-extent.ensures c.whole_value-value.ensures c.if-value-extent.true (one_bound _ _ _) c.execute-then-value-extent.ensures.after
