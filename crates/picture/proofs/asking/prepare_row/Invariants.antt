use Rattle.picture.specs.inner.Evaluation.{IsMemo}
use Rattle.picture.proofs.asking.prepare_row.Given as goal

abbrev pub invariant-loop-at : goal.invariant-loop-at
invariant-loop-at l = IsMemo l.scene.funcs.now l.scene.pictures.now l.memo
