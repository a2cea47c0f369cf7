use Rattle.std.proofs.Common.{refl}
use Rattle.task_code_values.specs.declared.points.PointIndex.TheVariants as indexes
use Rattle.task_code_values.proofs.Operating.{ok-map, err-map}
use Rattle.task_code_values.proofs.Pointing.{pixel-as, pixel-column, zero-sum, zero-held, have-sum, stands-register}
use Rattle.task_code_values.proofs.points.emit_from_column.Goals as goal

pub returns-in_ok-emit_scaled-in-Sum-clause-ok : goal.returns-in_ok-emit_scaled-in-Sum-clause-ok
returns-in_ok-emit_scaled-in-Sum-clause-ok c =
    ok-map c.emit_behind.result
    (λ z. pixel-as c.args.buffer.now.scope.now c.args.buffer.now.place.now c.args.r c.requires.place (indexes.Register c.args.s) c.args.row.now
    (indexes.Register c.args.s)
    (indexes.Sum c.in-Sum.y) _ _
    refl c.in-Sum.is
    (pixel-column c.args.buffer.now.scope.now c.args.buffer.now.place.now c.args.r c.requires.place c.in-Sum.y c.of_number-zero.result c.args.s _ _ _
    (zero-sum c.of_number-zero.result c.of_number-zero.ensures.value c.of_number-zero.ensures.few) c.in_ok-emit_scaled-in-Sum.ensures z))
    c.emit_behind.ensures.ok

pub returns-in_ok-emit_scaled-in-Sum-clause-err : goal.returns-in_ok-emit_scaled-in-Sum-clause-err
returns-in_ok-emit_scaled-in-Sum-clause-err c =
    err-map c.emit_behind.result
    (λ deep have. deep (zero-held c.args.buffer.now.scope.now c.of_number-zero.result c.of_number-zero.ensures.few) (have-sum c.args.buffer.now.scope.now
    c.args.row.now c.in-Sum.y c.in-Sum.is have))
    c.emit_behind.ensures.err

pub returns-in-Register-clause-ok : goal.returns-in-Register-clause-ok
returns-in-Register-clause-ok c =
    ok-map c.emit_at_registers.result
    (λ z. pixel-as c.args.buffer.now.scope.now c.args.buffer.now.place.now c.args.r c.requires.place (indexes.Register c.args.s) c.args.row.now
    (indexes.Register c.args.s)
    (indexes.Register c.in-Register.t) _ _ refl c.in-Register.is z) c.emit_at_registers.ensures.ok

pub returns-in-Register-clause-err : goal.returns-in-Register-clause-err
returns-in-Register-clause-err c = err-map c.emit_at_registers.result (λ deep have. deep) c.emit_at_registers.ensures.err

pub emit_at_registers-requires-clause-stands : goal.emit_at_registers-requires-clause-stands
emit_at_registers-requires-clause-stands c =
    stands-register c.args.buffer.now.scope.now _ c.in-Register.t c.args.row.now c.in-Register.is c.requires.stands
