use Rattle.std.proofs.Common.{◌∙◌, sym}
use Rattle.task_code_statements.proofs.Standing.{plus-none, plus-some}
use Rattle.task_code_statements.proofs.replacing.plus.Goals as goal

pub returns-then-len-eq0 : goal.returns-then-len-eq0
returns-then-len-eq0 c = plus-none c.args.e c.args.sum c.if-sum-eq0.true (sym c.len.ensures ∙ c.if-len-eq0.true)

pub returns : goal.returns
returns c = plus-some c.args.e c.args.sum c.in_ok-first.first c.in_ok-second.second c.in_ok-first.ensures c.in_ok-second.ensures
