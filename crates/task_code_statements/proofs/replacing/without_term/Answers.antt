use Rattle.task_code_statements.proofs.Standing.{rest-is}
use Rattle.task_code_statements.proofs.replacing.without_term.Goals as goal

pub returns : goal.returns
returns c = rest-is c.args.counter c.args.sum.now c.in_ok-own.own c.in_ok-made.made c.in_ok-own.ensures c.in_ok-made.ensures
