use Rattle.std.proofs.Common.{subst}
use Rattle.std.specs.Prelude.{IfSome}
use Rattle.task_code_registers.specs.Emitting.{IsNear, IsWorth}
use Rattle.task_code_registers.proofs.Summing.{near-form, whole-form}
use Rattle.task_code_registers.proofs.sums.emit_form.Goals as goal

pub returns-in_ok-emit_plus-in-Some : goal.returns-in_ok-emit_plus-in-Some
returns-in_ok-emit_plus-in-Some c =
    near-form c.args.scope.now c.args.form.now c.in-Some.found.register c.in-Some.found.number c.args.r _ _
    (subst (λ o. IfSome o (λ at. IsNear c.args.scope.now c.args.form.now at.register at.number)) c.in-Some.is c.nearest.ensures.near)
    (subst (λ o. IfSome o (λ at. IsWorth c.args.form.now at.number)) c.in-Some.is c.nearest.ensures.worth)
    c.in_ok-emit_plus-in-Some.ensures.any c.in_ok-emit_plus-in-Some.ensures.small

pub returns-in_ok-emit_sum-in-None : goal.returns-in_ok-emit_sum-in-None
returns-in_ok-emit_sum-in-None c = whole-form c.args.scope.now c.args.form.now c.as_slice.result.now c.args.r _ _ c.as_slice.ensures
    c.in_ok-emit_sum-in-None.ensures
