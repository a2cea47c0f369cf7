use Rattle.std.proofs.Common.{subst, sym, ap, ◌∙◌, refl}
use Rattle.std.specs.Prelude.{IfSome}
use Rattle.std.proofs.lemmas.Bool.{true≢false}
use Rattle.task_code_registers.specs.Emitting.{IsNear, Fits}
use Rattle.task_code_registers.specs.Scopes.{have_registers}
use Rattle.task_code_registers.proofs.Summing.{address-near}
use Rattle.task_code_values.proofs.operands.emit_reached_address.Goals as goal

pub returns-in-Some-clause-ok : goal.returns-in-Some-clause-ok
returns-in-Some-clause-ok c =
    address-near c.args.scope.now c.args.form.now c.in-Some.found.register c.in-Some.found.number _ c.args.r _
    (subst (λ o. IfSome o (λ at. IsNear c.args.scope.now c.args.form.now at.register at.number)) c.in-Some.is c.find.ensures.near)
    (subst (λ o. IfSome o (λ at. Fits at.number)) c.in-Some.is (c.find.ensures.small refl))

pub returns-in-None-2-clause-err : goal.returns-in-None-2-clause-err
returns-in-None-2-clause-err c =
    λ held. true≢false (sym held ∙ ap (have_registers c.args.scope.now) (sym c.as_slice.ensures) ∙ sym c.have_registers.ensures ∙ c.if-have_registers.false)
