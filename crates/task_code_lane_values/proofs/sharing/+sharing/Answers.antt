use Rattle.std.proofs.Common.{false, true, refl, ◌∙◌, subst, arith}
use Rattle.std.specs.Prelude.{IfSome}
use Rattle.task_code_values.proofs.Parts.{binary-second}
use Rattle.task_code_lane_values.specs.inner.Parts.{IsComparedBy, IsVectorComparison}
use Rattle.task_code_lane_values.specs.inner.Sharing.{IsKeptAt, IsSmallerPart}
use Rattle.task_code_lane_values.proofs.Keeping.{below-up}
use Rattle.task_code_lane_values.proofs.Masks.{choice, lanes-mask, nonzero-mask, scalar-mask}
use Rattle.task_code_lane_values.proofs.Operands.{copied, divide-operand, first-operand, kept-first, kept-operand, lanes-operand, operand-at}
use Rattle.task_code_lane_values.proofs.Operands.{remainder-operand, second-operand, shift-operand, two-operand}
use Rattle.task_code_lane_values.proofs.sharing.+sharing.Goals as goal

pub emit_operand-returns-in-Some : goal.emit_operand-returns-in-Some
emit_operand-returns-in-Some t c =
    kept-operand c.args.sharing.now.site c.args.sharing.now.kept.now c.args.k c.in-Some.slot c.args.e.now c.args.code.now.items c.requires.0
    (subst (λ o. IfSome o (IsKeptAt c.args.sharing.now.kept.now c.args.e.now)) c.in-Some.is c.slot_of.ensures)

pub emit_operand-returns-then-is_invariant_scalar : goal.emit_operand-returns-then-is_invariant_scalar
emit_operand-returns-then-is_invariant_scalar t c =
    lanes-operand c.args.sharing.now.site c.args.sharing.now.kept.now c.args.k c.args.e.now _ _
    c.in_ok-emit_lanes.ensures

pub emit_operand-returns-in_ok-emit_lanes-in_default-e : goal.emit_operand-returns-in_ok-emit_lanes-in_default-e
emit_operand-returns-in_ok-emit_lanes-in_default-e t c =
    lanes-operand c.args.sharing.now.site c.args.sharing.now.kept.now c.args.k c.args.e.now _ _ c.in_ok-emit_lanes-in_default-e.ensures

pub emit_into-returns : goal.emit_into-returns
emit_into-returns t c =
    copied c.args.sharing.now.site c.args.sharing.now.kept.now c.args.k c.in_ok-s.s _ _ c.args.e.now _ _ _ c.requires.1 c.slot.ensures.0 c.slot-2.ensures.0
    c.in_ok-s.ensures c.in_ok-copy_lanes.ensures

pub emit_quotients-returns-in-Some : goal.emit_quotients-returns-in-Some
emit_quotients-returns-in-Some t c =
    shift-operand c.args.sharing.now.site c.args.sharing.now.kept.now c.args.k c.args.e.now c.in-Divide.a _ c.in-Divide.divisor _ _ _ c.in-Divide.is c.get.ensures
    c.in_ok-emit_into.ensures c.in_ok-emit_shifted.ensures

pub emit_quotients-returns : goal.emit_quotients-returns
emit_quotients-returns t c =
    divide-operand c.args.sharing.now.site c.args.sharing.now.kept.now c.args.k c.in_ok-s.s c.args.e.now c.in-Divide.a _ c.in-Divide.divisor _ _ _ _ c.in-Divide.is
    c.get.ensures c.in_ok-emit_into.ensures c.in_ok-s.ensures c.in_ok-emit_quotient.ensures

pub emit_remainders-returns-in-Some : goal.emit_remainders-returns-in-Some
emit_remainders-returns-in-Some t c =
    remainder-operand c.args.sharing.now.site c.args.sharing.now.kept.now c.args.k c.in_ok-s.s c.args.e.now c.in-Remainder.a _ c.in-Remainder.divisor _ _ _ _ _
    c.in-Remainder.is c.get.ensures c.in_ok-emit_into.ensures c.in_ok-s.ensures c.in_ok-emit_masked.ensures

pub emit_remainders-returns : goal.emit_remainders-returns
emit_remainders-returns t c =
    remainder-operand c.args.sharing.now.site c.args.sharing.now.kept.now c.args.k c.in_ok-s-2.s c.args.e.now c.in-Remainder.a _ c.in-Remainder.divisor
    c.in-Remainder.divisor _ _ _ _ c.in-Remainder.is c.get.ensures c.in_ok-emit_into.ensures c.in_ok-s-2.ensures c.in_ok-emit_remainder.ensures

pub emit_combined-returns-in_ok-emit_combined-in-Some : goal.emit_combined-returns-in_ok-emit_combined-in-Some
emit_combined-returns-in_ok-emit_combined-in-Some t c =
    kept-first c.args.sharing.now.site c.args.sharing.now.kept.now c.as_slice.result.now _ _ c.args.room.target c.args.room.free _ c.args.e.now c.in-Some.part.now _ _ _
    c.requires.0 c.requires.1 refl refl refl (c.as_slice.ensures.value ∙ c.in_ok-kept-in-Some.ensures) refl
    (subst (λ o. IfSome o (λ part. IsSmallerPart c.args.e.now part.now)) c.in-Some.is c.common_part.ensures) c.in_ok-emit_into-in-Some.ensures
    c.in_ok-emit_combined-in-Some.ensures

pub emit_operation_of-returns-then-room-k : goal.emit_operation_of-returns-then-room-k
emit_operation_of-returns-then-room-k t c =
    operand-at c.args.sharing.now.site c.args.sharing.now.kept.now c.args.room.free c.args.room.target c.args.e.now _ _ c.if-room-k.true
    (second-operand c.args.sharing.now.site c.args.sharing.now.kept.now c.args.room.free c.in_ok-c.c c.args.e.now c.in-Binary.a c.in-Binary.b _ _
    c.in-Binary.operation _ _ _ _ c.in-Binary.is c.get-first.ensures c.get-second.ensures (c.is_invariant_scalar.ensures c.if-is_invariant_scalar.true)
    c.in_ok-emit_into.ensures c.in_ok-c.ensures c.in_ok-emit_by.ensures)

pub emit_operation_of-returns-then-room-k-2 : goal.emit_operation_of-returns-then-room-k-2
emit_operation_of-returns-then-room-k-2 t c =
    operand-at c.args.sharing.now.site c.args.sharing.now.kept.now c.args.room.free c.args.room.target c.args.e.now _ _ c.if-room-k-2.true
    (first-operand c.args.sharing.now.site c.args.sharing.now.kept.now c.args.room.free c.in_ok-c-2.c c.args.e.now c.in-Binary.a c.in-Binary.b _ _
    c.in-Binary.operation _ _ _ _ c.in-Binary.is c.get-first.ensures c.get-second.ensures (c.is_invariant_scalar-then-takes_first.ensures c.if-is_invariant_scalar-2.true)
    c.in_ok-emit_into-2.ensures c.in_ok-c-2.ensures c.in_ok-emit_swapped.ensures)

pub emit_operation_of-emit_operand-requires-2 : goal.emit_operation_of-emit_operand-requires-2
emit_operation_of-emit_operand-requires-2 t c =
    let free = c.in_ok-next.ensures in
    let up = free.1 in
    let sharing = c.decreases in
    let less = binary-second c.args.e.now c.in-Binary.operation c.in-Binary.a c.in-Binary.b c.get-second.result.now c.in-Binary.is c.get-second.ensures in
    (omega (arith, up, sharing, less), (below-up c.args.sharing.now.kept.now c.args.room.free c.in_ok-next.next up c.requires.0, free.2))

pub emit_operation_of-returns : goal.emit_operation_of-returns
emit_operation_of-returns t c =
    let k = c.args.room.free in
    let free = c.in_ok-next.ensures in
    two-operand c.args.sharing.now.site c.args.sharing.now.kept.now c.in-Binary.operation k c.in_ok-s.s c.in_ok-next.next c.in_ok-t.t c.args.room.target c.requires.0
    free.0 free.1 free.2 c.requires.1 c.in-Binary.a c.in-Binary.b _ _ c.args.e.now _ _ _ _ _ _ _ c.in-Binary.is c.get-first.ensures c.get-second.ensures
    c.in_ok-s.ensures c.in_ok-t.ensures c.slot-target.ensures.0 c.slot.ensures.0 c.slot-2.ensures.0 c.in_ok-emit_operation.ensures

pub emit_choice_of-returns : goal.emit_choice_of-returns
emit_choice_of-returns t c =
    let k = c.args.room.free in
    let one = c.in_ok-next.ensures in
    let two = c.in_ok-last.ensures in
    choice c.args.sharing.now.site c.args.sharing.now.kept.now k c.in_ok-s.s c.in_ok-next.next c.in_ok-t.t c.in_ok-last.last c.args.room.target c.requires.0
    (below-up c.args.sharing.now.kept.now k c.in_ok-next.next one.1 c.requires.0) one.0 one.1 two.0 two.1 two.2 c.requires.1 c.in-Select.condition
    c.in-Select.a c.in-Select.b _ _ _ c.args.e.now _ _ _ _ _ _ _ _ c.in-Select.is c.get-test.ensures c.get-first.ensures c.get-second.ensures
    c.in_ok-s.ensures c.in_ok-t.ensures c.in_ok-emit_mask.ensures c.slot-target.ensures.0 c.slot-2.ensures.0 c.slot.ensures.0 c.in_ok-merge.ensures

pub emit_nonzero-returns : goal.emit_nonzero-returns
emit_nonzero-returns t c =
    nonzero-mask c.args.sharing.now.site c.args.sharing.now.kept.now c.args.k c.in_ok-s.s _ c.args.e.now _ _ _ c.requires.1 c.slot.ensures.0 c.in_ok-s.ensures
    c.in_ok-test_nonzero.ensures

pub emit_compared_with-returns : goal.emit_compared_with-returns
emit_compared_with-returns t c =
    scalar-mask c.args.sharing.now.site c.args.sharing.now.kept.now c.in-Binary.operation c.in-Some.by
    (subst (λ o. IfSome o (IsComparedBy c.in-Binary.operation)) c.in-Some.is c.comparison_with.ensures) c.args.k c.in_ok-s.s _ c.in_ok-r.r c.in-Binary.a
    c.in-Binary.b _ _ c.args.e.now _ _ _ _ c.requires.1 c.in-Binary.is c.get-first.ensures c.get-second.ensures
    (c.is_invariant_scalar.ensures c.if-not-is_invariant_scalar.false) c.in_ok-s.ensures c.in_ok-r.ensures c.slot.ensures.0 c.in_ok-comparison_by.ensures

pub emit_compared-returns-then-by : goal.emit_compared-returns-then-by
emit_compared-returns-then-by t c =
    let free = c.in_ok-next.ensures in
    lanes-mask c.args.sharing.now.site c.args.sharing.now.kept.now c.in-Binary.operation c.in-Some.by true c.if-by.true
    (subst (λ o. IfSome o (IsVectorComparison c.in-Binary.operation)) c.in-Some.is c.comparison_of.ensures) c.args.k c.in_ok-s.s c.in_ok-next.next
    c.in_ok-t.t _ _ c.requires.0 free.0 free.1 free.2 c.in-Binary.a c.in-Binary.b _ _ c.args.e.now _ _ _ _ c.in-Binary.is c.get-first.ensures
    c.get-second.ensures c.in_ok-s.ensures c.in_ok-t.ensures c.slot-one.ensures.0 c.slot-other.ensures.0 c.in_ok-comparison.ensures

pub emit_compared-returns : goal.emit_compared-returns
emit_compared-returns t c =
    let free = c.in_ok-next.ensures in
    lanes-mask c.args.sharing.now.site c.args.sharing.now.kept.now c.in-Binary.operation c.in-Some.by false
    c.if-by.false
    (subst (λ o. IfSome o (IsVectorComparison c.in-Binary.operation)) c.in-Some.is c.comparison_of.ensures) c.args.k c.in_ok-s.s c.in_ok-next.next
    c.in_ok-t.t _ _ c.requires.0 free.0 free.1 free.2 c.in-Binary.a c.in-Binary.b _ _ c.args.e.now _ _ _ _ c.in-Binary.is c.get-first.ensures
    c.get-second.ensures c.in_ok-s.ensures c.in_ok-t.ensures c.slot-one.ensures.0 c.slot-other.ensures.0 c.in_ok-comparison-2.ensures
