use Rattle.task_code_borders.proofs.Iterations.{last_made}
use Rattle.task_code_borders.proofs.parts.before_last.Goals as goal

pub returns : goal.returns
returns c = λ inside not within parted is.
    last_made c.args.parting.counter inside c.args.from c.args.last c.args.border.now c.in_ok-body.body c.args.statement c.in_ok-end.end c.in_ok-new_statement.new_statement
    c.in_ok-body.ensures c.in_ok-new_statement.ensures (λ p. c.in_ok-end.ensures inside not within p) parted is
