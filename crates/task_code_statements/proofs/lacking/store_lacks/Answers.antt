use Rattle.task_code_statements.proofs.lacking.store_lacks.Goals as goal

pub returns-then-lacks-2 : goal.returns-then-lacks-2
returns-then-lacks-2 c = λ u. record {
  column = c.lacks.ensures c.if-lacks.true;
  row = c.lacks-then-lacks.ensures c.if-lacks-2.true;
  pixel = c.lacks-then-lacks-2.ensures u;
}
