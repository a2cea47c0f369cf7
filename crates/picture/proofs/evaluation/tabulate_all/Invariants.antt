use Rattle.picture.specs.inner.Evaluation.{AreTablesOf, AreKnownOf, IsMemo}
use Rattle.picture.proofs.evaluation.tabulate_all.Given as goal

abbrev pub invariant-loop-own : goal.invariant-loop-own
invariant-loop-own g l = record {
  tables : AreTablesOf l.funcs l.pictures l.tables.items;
  known : AreKnownOf l.funcs l.pictures l.known.items;
  memo : IsMemo l.funcs l.pictures l.memo;
}
