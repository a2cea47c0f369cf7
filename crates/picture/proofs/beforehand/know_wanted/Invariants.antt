use Rattle.picture.specs.inner.Evaluation.{AreKnownOf, IsMemo}
use Rattle.picture.proofs.beforehand.know_wanted.Given as goal

abbrev pub invariant-loop-updates : goal.invariant-loop-updates
invariant-loop-updates g l = record {
  known : AreKnownOf l.scene.funcs.now l.scene.pictures.now l.known.items;
  memo : IsMemo l.scene.funcs.now l.scene.pictures.now l.memo;
}
