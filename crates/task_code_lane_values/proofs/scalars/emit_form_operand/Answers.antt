use Rattle.std.proofs.Common.{refl, subst, arith}
use Rattle.std.specs.Prelude.{IfSome}
use Rattle.task_code_registers.specs.Emitting.{IsNear, sum_words}
use Rattle.task_code_registers.specs.Scopes.{form_value}
use Rattle.task_code_values.proofs.Standing.{held-near, held-made}
use Rattle.task_code_lane_values.proofs.scalars.emit_form_operand.Goals as goal

pub returns-then-found-eq0 : goal.returns-then-found-eq0
returns-then-found-eq0 c =
    held-near c.args.scope.now c.args.form.now _ c.in-Some.found.register c.in-Some.found.number _ _ (λ hart values. form_value hart values c.args.form.now)
    (subst (λ o. IfSome o (λ at. IsNear c.args.scope.now c.args.form.now at.register at.number)) c.in-Some.is c.find.ensures.near) c.if-found-eq0.true
    (λ hart values. refl)

pub returns : goal.returns
returns c =
    let n = sum_words c.args.form.now.per_hart c.args.form.now.sum.terms in
    held-made c.args.scope.now n n _ _ _
    (λ hart values. form_value hart values c.args.form.now)
    ((omega arith, omega arith), ((λ g. omega (arith, g)), (λ g. omega (arith, g)))) (omega arith) c.in_ok-emit_reached.ensures.ok
