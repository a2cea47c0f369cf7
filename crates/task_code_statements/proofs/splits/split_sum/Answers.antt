use Rattle.std.proofs.Common.{◌∙◌, sym}
use Rattle.task_code_statements.proofs.Splitting.{split-is}
use Rattle.task_code_statements.proofs.splits.split_sum.Goals as goal

pub returns : goal.returns
returns c =
    split-is c.args.context.now c.as_slice.result.now c.args.whole.now c.in_ok-start.start _ c.in-Some.own c.in_ok-sum.sum c.as_slice.ensures.value c.in-Some.is
    (sym c.is_name.ensures ∙ c.if-is_name.false) (sym c.is_name-2.ensures ∙ c.if-is_name-2.false) c.in_ok-start.ensures c.in_ok-own.ensures
    c.in_ok-sum.ensures
