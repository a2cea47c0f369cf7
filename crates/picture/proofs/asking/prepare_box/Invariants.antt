use Rattle.picture.specs.inner.Evaluation.{IsMemo}
use Rattle.picture.proofs.asking.prepare_box.Given as goal

abbrev pub invariant-loop-row : goal.invariant-loop-row
invariant-loop-row l = IsMemo l.scene.funcs.now l.scene.pictures.now l.memo
