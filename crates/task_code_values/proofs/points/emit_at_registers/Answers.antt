use Rattle.std.proofs.Common.{refl}
use Rattle.task_code_values.specs.declared.points.PointIndex.TheVariants as indexes
use Rattle.task_code_values.proofs.Operating.{ok-map, err-map}
use Rattle.task_code_values.proofs.Pointing.{pixel-both, zero-sum, zero-held, rows-requires, add-requires}
use Rattle.task_code_values.proofs.points.emit_at_registers.Goals as goal

pub returns-clause-ok : goal.returns-clause-ok
returns-clause-ok c =
    ok-map c.emit_behind.result
    (λ z. pixel-both c.args.buffer.now.scope.now c.args.buffer.now.place.now c.args.r c.requires.place c.of_number-zero.result c.args.s c.args.t _ _ _ _ _
    (zero-sum c.of_number-zero.result c.of_number-zero.ensures.value c.of_number-zero.ensures.few) c.requires.stands c.in_ok-emit_scaled.ensures
    c.in_ok-emit_rows.ensures c.in_ok-alu.ensures z) c.emit_behind.ensures.ok

pub returns-clause-err : goal.returns-clause-err
returns-clause-err c =
    err-map c.emit_behind.result
    (λ deep. deep (zero-held c.args.buffer.now.scope.now c.of_number-zero.result c.of_number-zero.ensures.few) (zero-held c.args.buffer.now.scope.now
    c.of_number-zero.result c.of_number-zero.ensures.few))
    c.emit_behind.ensures.err

pub emit_rows-requires : goal.emit_rows-requires
emit_rows-requires c = rows-requires c.args.buffer.now.scope.now c.args.r c.args.t (indexes.Register c.args.t) refl c.requires.place c.requires.stands

pub alu-requires : goal.alu-requires
alu-requires c = add-requires c.args.buffer.now.scope.now c.args.r c.args.t (indexes.Register c.args.t) refl c.requires.place c.requires.stands
