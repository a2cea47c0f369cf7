use Rattle.task_code_statements.proofs.plain.is_plain_store.Goals as goal

pub returns-then-is_plain-2 : goal.returns-then-is_plain-2
returns-then-is_plain-2 c = λ u. record {
  column = c.is_plain.ensures c.if-is_plain.true;
  row = c.is_plain-then-is_plain.ensures c.if-is_plain-2.true;
  pixel = c.is_plain-then-is_plain-2.ensures u;
}
