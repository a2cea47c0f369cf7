use Rattle.task_code_statements.proofs.Starting.{lesser-made}
use Rattle.task_code_statements.proofs.lessers.lesser_of.Goals as goal

pub returns : goal.returns
returns c = lesser-made c.args.sum c.args.number c.in_ok-first.first c.in_ok-second.second c.in_ok-first.ensures c.in_ok-second.ensures
