use Rattle.std.proofs.Common.{subst}
use Rattle.std.specs.Prelude.{IfSome}
use Rattle.task_code_values.specs.Operands.{IsSum}
use Rattle.task_code_lane_values.proofs.Arms.{loop_invariant-as, two-next, second-arm, first-arm, divide-arm, shift-arm, point-arm, remainder-arm}
use Rattle.task_code_lane_values.proofs.Arms.{swapped-next, condition-next, one-next, other-next}
use Rattle.task_code_lane_values.proofs.values.+values.Goals as goal

pub emit_at-returns-then-is_invariant_scalar : goal.emit_at-returns-then-is_invariant_scalar
emit_at-returns-then-is_invariant_scalar t c =
    loop_invariant-as c.args.site.now.places.now c.args.site.now.scope.now c.args.site.now.lanes c.args.spot.k c.requires c.args.e.now c.in_ok-s.s _ _ _ _
    (c.is_invariant_scalar.ensures c.if-is_invariant_scalar.true) c.slot.ensures.0
    c.in_ok-s.ensures c.in_ok-spread.ensures

pub emit_results-returns-then-is_invariant_scalar : goal.emit_results-returns-then-is_invariant_scalar
emit_results-returns-then-is_invariant_scalar t c =
    second-arm c.args.site.now.places.now c.args.site.now.scope.now c.args.site.now.lanes c.args.spot.k c.requires c.args.e.now c.in-Binary.a c.in-Binary.b _ _
    c.in-Binary.operation
    c.in_ok-s.s _ _ _ _
    c.in-Binary.is c.get-first.ensures c.get-second.ensures (c.is_invariant_scalar.ensures
    c.if-is_invariant_scalar.true)
    c.in_ok-emit_at.ensures c.in_ok-s.ensures c.in_ok-emit_by.ensures

pub emit_results-returns-then-first_stays : goal.emit_results-returns-then-first_stays
emit_results-returns-then-first_stays t c =
    first-arm c.args.site.now.places.now c.args.site.now.scope.now c.args.site.now.lanes c.args.spot.k c.requires c.args.e.now c.in-Binary.a c.in-Binary.b _ _
    c.in-Binary.operation
    c.in_ok-s-2.s _ _ _ _
    c.in-Binary.is c.get-first.ensures c.get-second.ensures (c.is_invariant_scalar-first_stays.ensures c.if-first_stays.true) c.in_ok-emit_at-2.ensures
    c.in_ok-s-2.ensures c.in_ok-emit_swapped.ensures

pub emit_both-returns-then-is_swapped : goal.emit_both-returns-then-is_swapped
emit_both-returns-then-is_swapped t c =
    swapped-next c.args.site.now.places.now c.args.site.now.scope.now c.args.site.now.lanes c.args.spot.k c.requires c.args.e.now c.in-Binary.a c.in-Binary.b _ _
    c.in-Binary.operation
    c.in_ok-next.next.k _ _ _ _
    c.in-Binary.is c.get-first.ensures c.get-second.ensures c.in_ok-next.ensures.0 c.in_ok-emit_at.ensures
    c.in_ok-emit_at-2.ensures
    c.in_ok-emit_two_swapped.ensures

pub emit_both-returns : goal.emit_both-returns
emit_both-returns t c =
    two-next c.args.site.now.places.now c.args.site.now.scope.now c.args.site.now.lanes c.args.spot.k c.requires c.args.e.now c.in-Binary.a c.in-Binary.b _ _
    c.in-Binary.operation
    c.in_ok-next.next.k _ _ _ _
    c.in-Binary.is c.get-first.ensures c.get-second.ensures c.in_ok-next.ensures.0 c.in_ok-emit_at-3.ensures
    c.in_ok-emit_at-4.ensures
    c.in_ok-emit_two.ensures

pub emit_quotients-returns-in-Some : goal.emit_quotients-returns-in-Some
emit_quotients-returns-in-Some t c =
    shift-arm c.args.site.now.places.now c.args.site.now.scope.now c.args.site.now.lanes c.args.spot.k c.requires c.args.e.now c.in-Divide.a _
    c.in-Divide.divisor _ _ _ c.in-Divide.is
    c.get.ensures
    c.in_ok-emit_at.ensures c.in_ok-emit_shifted.ensures

pub emit_quotients-returns : goal.emit_quotients-returns
emit_quotients-returns t c =
    divide-arm c.args.site.now.places.now c.args.site.now.scope.now c.args.site.now.lanes c.args.spot.k c.requires c.args.e.now c.in-Divide.a _
    c.in-Divide.divisor c.in_ok-s.s _ _
    _ _ c.in-Divide.is
    c.get.ensures c.in_ok-emit_at.ensures c.in_ok-s.ensures c.in_ok-emit_quotient.ensures

pub emit_remainders-returns-in-Some : goal.emit_remainders-returns-in-Some
emit_remainders-returns-in-Some t c =
    remainder-arm c.args.site.now.places.now c.args.site.now.scope.now c.args.site.now.lanes c.args.spot.k c.requires c.args.e.now c.in-Remainder.a _
    c.in-Remainder.divisor _
    c.in_ok-s.s _ _ _ _
    c.in-Remainder.is c.get.ensures c.in_ok-emit_at.ensures c.in_ok-s.ensures c.in_ok-emit_masked.ensures

pub emit_remainders-returns : goal.emit_remainders-returns
emit_remainders-returns t c =
    remainder-arm c.args.site.now.places.now c.args.site.now.scope.now c.args.site.now.lanes c.args.spot.k c.requires c.args.e.now c.in-Remainder.a _
    c.in-Remainder.divisor
    c.in-Remainder.divisor
    c.in_ok-s-2.s _ _ _ _ c.in-Remainder.is c.get.ensures c.in_ok-emit_at.ensures c.in_ok-s-2.ensures
    c.in_ok-emit_remainder.ensures

pub emit_condition_first-returns : goal.emit_condition_first-returns
emit_condition_first-returns t c =
    condition-next c.args.site.now.places.now c.args.site.now.scope.now c.args.site.now.lanes c.args.spot.k c.requires c.args.e.now c.in-Select.condition
    c.in-Select.a c.in-Select.b _ _ _
    c.in_ok-next.next.k
    c.in_ok-last.last.k _ _ _ _ _ c.in-Select.is c.get.ensures c.get-2.ensures c.get-3.ensures
    c.in_ok-next.ensures.0
    c.in_ok-last.ensures.0 c.in_ok-last.ensures.1 c.in_ok-emit_at.ensures c.in_ok-emit_at-2.ensures
    c.in_ok-emit_at-3.ensures c.in_ok-emit_choice.ensures

pub emit_one_first-returns : goal.emit_one_first-returns
emit_one_first-returns t c =
    one-next c.args.site.now.places.now c.args.site.now.scope.now c.args.site.now.lanes c.args.spot.k c.requires c.args.e.now c.in-Select.condition
    c.in-Select.a c.in-Select.b _ _ _
    c.in_ok-next.next.k
    c.in_ok-last.last.k _ _ _ _ _ c.in-Select.is c.get-2.ensures c.get.ensures c.get-3.ensures
    c.in_ok-next.ensures.0
    c.in_ok-last.ensures.0 c.in_ok-last.ensures.1 c.in_ok-emit_at.ensures c.in_ok-emit_at-2.ensures
    c.in_ok-emit_at-3.ensures c.in_ok-emit_choice.ensures

pub emit_other_first-returns : goal.emit_other_first-returns
emit_other_first-returns t c =
    other-next c.args.site.now.places.now c.args.site.now.scope.now c.args.site.now.lanes c.args.spot.k c.requires c.args.e.now c.in-Select.condition
    c.in-Select.a c.in-Select.b _ _ _
    c.in_ok-next.next.k
    c.in_ok-last.last.k _ _ _ _ _ c.in-Select.is c.get-2.ensures c.get-3.ensures c.get.ensures
    c.in_ok-next.ensures.0
    c.in_ok-last.ensures.0 c.in_ok-last.ensures.1 c.in_ok-emit_at.ensures c.in_ok-emit_at-2.ensures
    c.in_ok-emit_at-3.ensures c.in_ok-emit_choice.ensures

pub emit_pixels-returns-in-Some : goal.emit_pixels-returns-in-Some
emit_pixels-returns-in-Some t c =
    let sums = subst (λ o. IfSome o (λ s. IsSum c.get.result.now s.x × IsSum c.get-2.result.now s.y)) c.in-Some.is
    c.in_ok-sums.ensures in
    point-arm c.args.site.now.places.now c.args.site.now.scope.now c.args.site.now.lanes c.args.spot.k c.requires c.args.e.now c.in-Load.x c.in-Load.y _ _
    c.in-Load.source
    c.in-Some.sums.x c.in-Some.sums.y _ _
    c.in-Load.is c.get.ensures c.get-2.ensures sums.0 sums.1 c.in_ok-emit_point.ensures
