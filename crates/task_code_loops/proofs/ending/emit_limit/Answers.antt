use Rattle.task_code_loops.proofs.Returning.{limit-is-held, limit-is-made}
use Rattle.task_code_loops.proofs.ending.emit_limit.Goals as goal

pub returns-in-Register : goal.returns-in-Register
returns-in-Register c = limit-is-held c.args.limit c.in-Register.register _ c.in-Register.is c.requires

pub returns-in_ok-emit_number-in-Number : goal.returns-in_ok-emit_number-in-Number
returns-in_ok-emit_number-in-Number c = limit-is-made c.args.limit c.in-Number.number _ _ c.in-Number.is c.in_ok-emit_number-in-Number.ensures
