use Rattle.task_code_scalar.proofs.Refusing.{passed}
use Rattle.task_code_values.proofs.Scattering.{point-reached, source-of, source-beside}
use Rattle.task_code_values.proofs.scatters.reach_point.Goals as goal

pub returns-clause-ok : goal.returns-clause-ok
returns-clause-ok c =
    point-reached c.args.buffer.now.scope.now c.args.buffer.now.place.now c.args.r c.requires.place c.args.point.now.column c.args.point.now.row c.in_ok-x.x
    c.in_ok-y.y c.in_ok-offset.offset
    _ _ _ _ c.requires.second c.in_ok-x.ensures c.in_ok-y.ensures c.in_ok-emit_columns.ensures c.in_ok-emit_rows_added.ensures c.in_ok-offset.ensures.ok

pub returns-in_err-offset-clause-err : goal.returns-in_err-offset-clause-err
returns-in_err-offset-clause-err c =
    passed c.from_residual-in_err-offset.result c.in_err-offset.field-0.0 c.from_residual-in_err-offset.ensures.1 (λ long. long)
    (λ deep hx hy. deep (c.in_ok-x.ensures.have c.args.buffer.now.scope.now hx) (c.in_ok-y.ensures.have c.args.buffer.now.scope.now hy))
    c.in_err-offset.ensures.err

pub emit_columns-requires-clause-source : goal.emit_columns-requires-clause-source
emit_columns-requires-clause-source c = source-of c.args.buffer.now.scope.now c.args.r c.args.point.now.column c.requires.first

pub emit_rows_added-requires-clause-source : goal.emit_rows_added-requires-clause-source
emit_rows_added-requires-clause-source c = source-beside c.args.buffer.now.scope.now c.args.r c.args.point.now.row c.requires.second
