use Rattle.std.proofs.Common.{arith}
use Rattle.task_code_borders.proofs.Iterations.{first_made}
use Rattle.task_code_borders.proofs.parts.behind_first.Goals as goal

pub returns : goal.returns
returns c = λ inside count not within parted is.
    first_made c.args.parting.counter inside c.args.first count c.args.border.now c.in_ok-body.body c.in_ok-front.front c.args.statement c.in_ok-new_statement.new_statement
    c.in_ok-body.ensures c.in_ok-new_statement.ensures (λ p. c.in_ok-front.ensures inside not (omega (arith, within)) p) parted is
