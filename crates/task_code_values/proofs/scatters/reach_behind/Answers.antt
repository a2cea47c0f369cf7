use Rattle.task_code_scalar.proofs.Refusing.{passed}
use Rattle.task_code_values.proofs.Scattering.{reached-behind}
use Rattle.task_code_values.proofs.scatters.reach_behind.Goals as goal

pub returns-clause-ok : goal.returns-clause-ok
returns-clause-ok c =
    reached-behind c.args.buffer.now.scope.now c.args.buffer.now.place.now c.args.r c.requires c.args.x.now c.args.y.now c.in_ok-form.form
    c.in_ok-at.at.register c.in_ok-at.at.offset _ _ _ c.in_ok-form.ensures c.in_ok-at.ensures.ok c.in_ok-alu.ensures

pub returns-in_err-at-clause-err : goal.returns-in_err-at-clause-err
returns-in_err-at-clause-err c =
    passed c.from_residual-in_err-at.result c.in_err-at.field-0.0 c.from_residual-in_err-at.ensures.1 (λ long. long)
    (λ deep hx hy. deep (c.in_ok-form.ensures.have c.args.buffer.now.scope.now hx hy)) c.in_err-at.ensures.err
