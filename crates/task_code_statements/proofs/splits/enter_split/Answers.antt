use Rattle.std.proofs.Common.{refl}
use Rattle.task_code_statements.proofs.Splitting.{found-sum}
use Rattle.task_code_statements.proofs.splits.enter_split.Goals as goal

pub returns-in_ok-inner-in-Some : goal.returns-in_ok-inner-in-Some
returns-in_ok-inner-in-Some c = record {
  value_is = found-sum c.args.context.now c.args.whole.now c.in-Some.sum _ c.in-Some.is c.in_ok-split_sum.ensures;
  meets = c.in_ok-inner-in-Some.ensures;
  form_is = refl;
}
