use Rattle.std.proofs.Common.{ℕ, ◌+◌, ◌%◌, ◌^◌, ap, ◌∙◌}
use Rattle.loop_ir.specs.Expressions.{linear_value, sum_of}
use Rattle.loop_ir.proofs.Sums.{number_added}
use Rattle.loop_ir.proofs.expressions.Linear.plus_number.Goals as goal

pub returns-clause-value : goal.returns-clause-value
unfolding linear_value
returns-clause-value c = λ values.
    ap (λ (n : ℕ). (n + sum_of values c.args.self.terms) % 2 ^ 32) c.add.ensures
    ∙ number_added c.args.self.number (sum_of values c.args.self.terms) c.args.number
