use Rattle.task_code_lane_values.proofs.Moving.{steps-one-as, steps-more-as}
use Rattle.task_code_lane_values.proofs.sums.emit_steps.Goals as goal

pub returns-then-stride-eq1 : goal.returns-then-stride-eq1
returns-then-stride-eq1 c =
    λ places. steps-one-as places c.args.scope.now c.args.lanes c.args.k c.requires c.args.stride _ _ _ c.if-stride-eq1.true c.slot.ensures.0
    c.in_ok-lane_numbers.ensures

pub returns : goal.returns
returns c =
    λ places. steps-more-as places c.args.scope.now c.args.lanes c.args.k c.requires c.args.stride c.in_ok-s.s _ _ _ _ _ c.slot.ensures.0
    c.in_ok-lane_numbers.ensures
    c.in_ok-s.ensures c.in_ok-emit_by.ensures
