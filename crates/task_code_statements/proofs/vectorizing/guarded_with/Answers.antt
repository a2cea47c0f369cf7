use Rattle.task_code_statements.proofs.vectorizing.guarded_with.Goals as goal

pub returns : goal.returns
returns c = record {
  store = c.in_ok-store.ensures;
  guards_are = c.into_guards.ensures;
  lacks = c.guarded_lacks.ensures c.if-not-guarded_lacks.false;
  own_lacks = c.lacks.ensures c.if-not-lacks.false;
}
