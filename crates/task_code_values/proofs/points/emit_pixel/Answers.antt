use Rattle.task_code_values.proofs.Operating.{ok-map, err-map}
use Rattle.task_code_values.proofs.Pointing.{column-as, have-sum, stands-register}
use Rattle.task_code_values.proofs.points.emit_pixel.Goals as goal

pub returns-in-Sum-clause-ok : goal.returns-in-Sum-clause-ok
returns-in-Sum-clause-ok c =
    ok-map c.emit_at_column.result (λ z. column-as c.args.site.now.scope.now _ c.place_of-place.result c.args.r c.args.point.now.column _ c.args.point.now.row _
    _ c.place_of-place.ensures c.in-Sum.is z)
    c.emit_at_column.ensures.ok

pub returns-in-Sum-clause-err : goal.returns-in-Sum-clause-err
returns-in-Sum-clause-err c =
    err-map c.emit_at_column.result (λ deep hx have. deep (have-sum c.args.site.now.scope.now c.args.point.now.column c.in-Sum.x c.in-Sum.is hx) have)
    c.emit_at_column.ensures.err

pub returns-in-Register-clause-ok : goal.returns-in-Register-clause-ok
returns-in-Register-clause-ok c =
    ok-map c.emit_from_column.result (λ z. column-as c.args.site.now.scope.now _ c.place_of-place.result c.args.r c.args.point.now.column _ c.args.point.now.row
    _ _ c.place_of-place.ensures c.in-Register.is z)
    c.emit_from_column.ensures.ok

pub returns-in-Register-clause-err : goal.returns-in-Register-clause-err
returns-in-Register-clause-err c = err-map c.emit_from_column.result (λ deep hx have. deep have) c.emit_from_column.ensures.err

pub emit_from_column-requires-clause-column : goal.emit_from_column-requires-clause-column
emit_from_column-requires-clause-column c =
    (stands-register c.args.site.now.scope.now c.args.r c.in-Register.s c.args.point.now.column c.in-Register.is c.requires.first).1.0
