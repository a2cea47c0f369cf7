use Rattle.std.proofs.Common.{subst, refl}
use Rattle.std.specs.Prelude.{IfSome}
use Rattle.task_code_registers.specs.Emitting.{IsNear}
use Rattle.task_code_values.proofs.Standing.{held-zero, held-near, number-made, number-alone}
use Rattle.task_code_values.proofs.operands.emit_number_operand.Goals as goal

pub returns-then-number-eq0 : goal.returns-then-number-eq0
returns-then-number-eq0 c = held-zero c.args.scope.now c.args.r c.args.number _ _ c.if-number-eq0.true

pub returns-then-found-eq0 : goal.returns-then-found-eq0
returns-then-found-eq0 c =
    held-near c.args.scope.now (record { sum = c.of_number.result; per_hart = 0 }) c.args.r c.in-Some.found.register c.in-Some.found.number _ _ (λ
    hart values. c.args.number)
    (subst (λ o. IfSome o (λ at. IsNear c.args.scope.now (record { sum = c.of_number.result; per_hart = 0 }) at.register at.number)) c.in-Some.is
    c.find.ensures.near)
    c.if-found-eq0.true
    (λ hart values. number-alone hart values (record { sum = c.of_number.result; per_hart = 0 }) c.args.number c.ranges.number.fits refl
    c.of_number.ensures.value)

pub returns : goal.returns
returns c = number-made c.args.scope.now c.args.r c.args.number _ _ c.requires c.in_ok-emit_number.ensures
