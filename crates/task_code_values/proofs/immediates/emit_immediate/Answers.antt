use Rattle.task_code_values.proofs.Literals.{plus-made, times-made}
use Rattle.task_code_values.proofs.immediates.emit_immediate.Goals as goal

pub returns-in_ok-emit_plus-in-Plus : goal.returns-in_ok-emit_plus-in-Plus
returns-in_ok-emit_plus-in-Plus c =
    plus-made c.args.immediate c.in-Plus.number c.args.r c.args.a _ _ c.in-Plus.is c.in_ok-emit_plus-in-Plus.ensures.any

pub returns-in_ok-emit_times-in-Times : goal.returns-in_ok-emit_times-in-Times
returns-in_ok-emit_times-in-Times c =
    times-made c.args.immediate c.in-Times.number c.args.r c.args.a _ _ c.in-Times.is
    c.in_ok-emit_times-in-Times.ensures
