use Rattle.std.proofs.Common.{◌≤◌, sym, subst}
use Rattle.loop_ir.specs.Expressions.{sum_of}
use Rattle.task_code_clamps.specs.Ranges.{LiesIn}
use Rattle.task_code_clamps.proofs.Lying.{sum-is}
use Rattle.task_code_clamps.proofs.ranges.of_sum.Goals as goal

pub returns-in-Some : goal.returns-in-Some
returns-in-Some c = λ values below.
    subst (λ n. LiesIn c.up_from.result n) (sym (sum-is values c.args.new_sum.now))
    (c.up_from.ensures (sum_of values c.args.new_sum.now.terms) (subst (λ ts. sum_of values ts ≤ c.in-Some.most) c.as_slice.ensures (c.in-Some.ensures values
    below)))
