use Rattle.std.proofs.Common.{subst}
use Rattle.std.specs.Prelude.{IfSome}
use Rattle.task_code_registers.specs.Emitting.{IsNear, IsWorth}
use Rattle.task_code_registers.proofs.Summing.{near-form}
use Rattle.task_code_values.proofs.operands.emit_reached.Goals as goal

pub returns-in_ok-emit_plus-in-Some-clause-ok : goal.returns-in_ok-emit_plus-in-Some-clause-ok
returns-in_ok-emit_plus-in-Some-clause-ok c =
    near-form c.args.scope.now c.args.form.now c.in-Some.found.register c.in-Some.found.number c.args.r _ _
    (subst (λ o. IfSome o (λ at. IsNear c.args.scope.now c.args.form.now at.register at.number)) c.in-Some.is c.nearest.ensures.near)
    (subst (λ o. IfSome o (λ at. IsWorth c.args.form.now at.number)) c.in-Some.is c.nearest.ensures.worth)
    c.in_ok-emit_plus-in-Some.ensures.any c.in_ok-emit_plus-in-Some.ensures.small
