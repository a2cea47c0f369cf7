use Rattle.std.proofs.Common.{sym, ◌∙◌}
use Rattle.task_code_loops.proofs.Combining.{second-number, first-number}
use Rattle.task_code_loops.proofs.sums.product.Goals as goal

pub returns-then-len-eq0 : goal.returns-then-len-eq0
returns-then-len-eq0 c =
    second-number c.args.x.now c.args.y.now c.in_ok-sum.sum (sym c.len.ensures ∙ c.if-len-eq0.true) c.in_ok-sum.ensures

pub returns-then-len-eq0-2 : goal.returns-then-len-eq0-2
returns-then-len-eq0-2 c =
    first-number c.args.x.now c.args.y.now c.in_ok-sum-2.sum (sym c.len-2.ensures ∙ c.if-len-eq0-2.true) c.in_ok-sum-2.ensures
