use Rattle.std.proofs.Common.{subst, refl, ap, ◌∙◌}
use Rattle.std.specs.Prelude.{IfSome}
use Rattle.loop_ir.specs.declared.expressions.Linear.{Linear}
use Rattle.task_code_scalar.proofs.Refusing.{passed}
use Rattle.task_code_registers.specs.Emitting.{IsNear}
use Rattle.task_code_registers.specs.Scopes.{have_registers}
use Rattle.loop_ir.specs.Expressions.{linear_value}
use Rattle.task_code_values.proofs.Standing.{held-near, sum-made, form-alone}
use Rattle.task_code_values.proofs.operands.emit_sum_operand.Goals as goal

pub returns-then-found-eq0-clause-ok : goal.returns-then-found-eq0-clause-ok
returns-then-found-eq0-clause-ok c =
    held-near c.args.scope.now (record { sum = c.in_ok-sum.sum; per_hart = 0 }) c.args.r c.in-Some.found.register c.in-Some.found.number _ _
    (λ hart values. linear_value values c.args.new_sum.now)
    (subst (λ o. IfSome o (λ at. IsNear c.args.scope.now (record { sum = c.in_ok-sum.sum; per_hart = 0 }) at.register at.number)) c.in-Some.is
    c.find.ensures.near)
    c.if-found-eq0.true
    (λ hart values. form-alone hart values (record { sum = c.in_ok-sum.sum; per_hart = 0 }) c.args.new_sum.now refl c.in_ok-sum.ensures)

pub returns-clause-ok : goal.returns-clause-ok
returns-clause-ok c =
    sum-made c.args.scope.now (record { sum = c.in_ok-sum.sum; per_hart = 0 }) c.args.new_sum.now c.args.r _ _ c.requires refl c.in_ok-sum.ensures
    c.in_ok-emit_reached.ensures.ok

pub returns-in_err-emit_reached-clause-err : goal.returns-in_err-emit_reached-clause-err
returns-in_err-emit_reached-clause-err c =
    passed c.from_residual-in_err-emit_reached.result c.in_err-emit_reached.field-0.0 c.from_residual-in_err-emit_reached.ensures.1 (λ long. long)
    (λ deep held. deep (ap (λ (s : Linear). have_registers c.args.scope.now s.terms) c.in_ok-sum.ensures ∙ held)) c.in_err-emit_reached.ensures.err
