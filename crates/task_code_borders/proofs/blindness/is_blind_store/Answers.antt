use Rattle.task_code_borders.proofs.blindness.is_blind_store.Goals as goal

pub returns-then-is_blind-2 : goal.returns-then-is_blind-2
returns-then-is_blind-2 c = λ u. record {
  column = c.is_blind.ensures c.if-is_blind.true;
  row = c.is_blind-then-is_blind.ensures c.if-is_blind-2.true;
  pixel = c.is_blind-then-is_blind-2.ensures u;
}
