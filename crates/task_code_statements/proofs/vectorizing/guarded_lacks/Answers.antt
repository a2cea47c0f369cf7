use Rattle.std.proofs.Common.{subst}
use Rattle.task_code_statements.specs.Vectorizing.{GuardsLack}
use Rattle.task_code_statements.proofs.vectorizing.guarded_lacks.Goals as goal

pub returns-then-store_lacks : goal.returns-then-store_lacks
returns-then-store_lacks c = λ u. record {
  store = c.store_lacks.ensures c.if-store_lacks.true;
  guards = subst (GuardsLack c.args.counter) c.as_slice.ensures.value (c.guards_lack.ensures u);
}
