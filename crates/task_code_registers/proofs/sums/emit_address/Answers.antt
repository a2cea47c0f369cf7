use Rattle.std.proofs.Common.{subst, refl}
use Rattle.std.specs.Prelude.{IfSome}
use Rattle.task_code_registers.specs.Emitting.{IsNear, Fits}
use Rattle.task_code_registers.proofs.Summing.{address-near, address-made}
use Rattle.task_code_registers.proofs.sums.emit_address.Goals as goal

pub returns-in-Some : goal.returns-in-Some
returns-in-Some c =
    address-near c.args.scope.now c.args.form.now c.in-Some.found.register c.in-Some.found.number _ c.args.r _
    (subst (λ o. IfSome o (λ at. IsNear c.args.scope.now c.args.form.now at.register at.number)) c.in-Some.is c.find.ensures.near)
    (subst (λ o. IfSome o (λ at. Fits at.number)) c.in-Some.is (c.find.ensures.small refl))

pub returns : goal.returns
returns c =
    address-made c.args.scope.now c.args.form.now c.in_ok-rest.rest c.in_ok-rest.offset c.args.r _ _ c.requires.place.0.1 c.in_ok-rest.ensures
    c.in_ok-emit_form.ensures
