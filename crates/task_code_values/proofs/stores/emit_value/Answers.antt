use Rattle.task_code_scalar.proofs.Refusing.{passed}
use Rattle.task_code_values.proofs.Rooms.{limit-fits, limit-none}
use Rattle.task_code_values.proofs.stores.emit_value.Goals as goal

pub returns-then-need-room_limit-clause-err : goal.returns-then-need-room_limit-clause-err
returns-then-need-room_limit-clause-err c =
    λ held fits. limit-none c.args.places.now.frames c.args.e.now c.need.result c.room_limit.result c.need.ensures c.room_limit.ensures
    c.if-need-room_limit.true fits

pub returns-in_err-s-clause-err : goal.returns-in_err-s-clause-err
returns-in_err-s-clause-err c =
    passed c.from_residual.result c.in_err-s.field-0.0 c.from_residual.ensures.1 (λ long. long) (λ deep held fits. deep held) c.in_err-s.ensures.err

pub emit_deep-requires-clause-fits : goal.emit_deep-requires-clause-fits
emit_deep-requires-clause-fits c =
    limit-fits c.args.places.now.frames c.args.e.now c.need.result c.room_limit.result c.need.ensures c.room_limit.ensures c.if-need-room_limit.false
