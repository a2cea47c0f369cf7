use Rattle.std.proofs.Common.{refl}
use Rattle.task_code_values.specs.declared.points.PointIndex.TheVariants as indexes
use Rattle.task_code_values.proofs.Operating.{ok-map, err-map}
use Rattle.task_code_values.proofs.Pointing.{pixel-as, pixel-sums, pixel-row, zero-sum, zero-held, have-sum}
use Rattle.task_code_values.proofs.points.emit_at_column.Goals as goal

pub returns-in-Sum-clause-ok : goal.returns-in-Sum-clause-ok
returns-in-Sum-clause-ok c =
    ok-map c.emit_point.result
    (λ z. pixel-as c.args.buffer.now.scope.now c.args.buffer.now.place.now c.args.r c.requires.place (indexes.Sum c.args.x.now) c.args.row.now (indexes.Sum
    c.args.x.now) (indexes.Sum c.in-Sum.y) _ _
    refl c.in-Sum.is (pixel-sums c.args.buffer.now.scope.now c.args.buffer.now.place.now c.args.r c.requires.place c.args.x.now c.in-Sum.y _ _ z))
    c.emit_point.ensures.ok

pub returns-in-Sum-clause-err : goal.returns-in-Sum-clause-err
returns-in-Sum-clause-err c =
    err-map c.emit_point.result (λ deep hx have. deep hx (have-sum c.args.buffer.now.scope.now c.args.row.now c.in-Sum.y c.in-Sum.is have))
    c.emit_point.ensures.err

pub returns-in_ok-emit_rows-in-Register-clause-ok : goal.returns-in_ok-emit_rows-in-Register-clause-ok
returns-in_ok-emit_rows-in-Register-clause-ok c =
    ok-map c.emit_behind.result
    (λ z. pixel-as c.args.buffer.now.scope.now c.args.buffer.now.place.now c.args.r c.requires.place (indexes.Sum c.args.x.now) c.args.row.now (indexes.Sum
    c.args.x.now) (indexes.Register c.in-Register.t) _ _ refl c.in-Register.is
    (pixel-row c.args.buffer.now.scope.now c.args.buffer.now.place.now c.args.r c.requires.place c.args.x.now c.of_number-zero.result c.in-Register.t _ _ _
    (zero-sum c.of_number-zero.result c.of_number-zero.ensures.value c.of_number-zero.ensures.few) c.in_ok-emit_rows-in-Register.ensures z))
    c.emit_behind.ensures.ok

pub returns-in_ok-emit_rows-in-Register-clause-err : goal.returns-in_ok-emit_rows-in-Register-clause-err
returns-in_ok-emit_rows-in-Register-clause-err c =
    err-map c.emit_behind.result (λ deep hx have. deep hx (zero-held c.args.buffer.now.scope.now c.of_number-zero.result c.of_number-zero.ensures.few))
    c.emit_behind.ensures.err
