use Rattle.std.proofs.Common.{arith}
use Rattle.loop_ir.proofs.Sums.{first_taken}
use Rattle.loop_ir.proofs.linear.+take_away.Goals as goal

pub returns-in_ok-take_away-in-len1-up-clause-sum : goal.returns-in_ok-take_away-in-len1-up-clause-sum
returns-in_ok-take_away-in-len1-up-clause-sum t c = λ values.
    first_taken values c.args.others.now _ c.subtract.result c.args.terms.now c.add_term.new.terms c.take_away.new.terms c.in-len1-up.len_at_least (omega arith)
    c.subtract.ensures (c.in_ok-add_term-in-len1-up.ensures.sum values)
    (c.in_ok-take_away-in-len1-up.ensures.sum values)
