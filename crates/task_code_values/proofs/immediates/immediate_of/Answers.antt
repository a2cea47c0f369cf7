use Rattle.std.proofs.Common.{arith}
use Rattle.task_code_values.proofs.Literals.{is-immediate}
use Rattle.task_code_values.proofs.immediates.immediate_of.Goals as goal

pub returns-in_ok-own-in-Number : goal.returns-in_ok-own-in-Number
returns-in_ok-own-in-Number c =
    is-immediate c.args.operation c.args.e.now c.in-Number.number c.in_ok-own-in-Number.own c.in-Number.is (omega arith) c.in_ok-own-in-Number.ensures
