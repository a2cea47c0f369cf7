use Rattle.std.proofs.Common.{ℕ, List, ◌+◌, ◌%◌, ◌^◌, ap, sym, ◌∙◌, arith}
use Rattle.loop_ir.specs.declared.expressions.Term.{Term}
use Rattle.loop_ir.specs.Expressions.{linear_value, sum_of}
use Rattle.loop_ir.proofs.Sums.{sums_apart}
use Rattle.loop_ir.proofs.expressions.Linear.minus.Goals as goal

pub returns-clause-value : goal.returns-clause-value
unfolding linear_value
returns-clause-value c = λ values.
    ap (λ (n : ℕ). (n + sum_of values c.take_away.new.terms) % 2 ^ 32) c.subtract.ensures
    ∙ sums_apart c.args.self.number c.args.other.now.number (sum_of values c.args.self.terms) (sum_of values c.args.other.now.terms)
    (sum_of values c.take_away.new.terms) (omega arith) (omega arith)
    (ap (λ (ts : List Term). (sum_of values c.take_away.new.terms + sum_of values ts) % 2 ^ 32) (sym c.as_slice.ensures) ∙ c.in_ok-take_away.ensures.sum values)
