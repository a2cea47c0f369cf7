use Rattle.picture.specs.inner.Evaluation.{IsMemo}
use Rattle.picture.proofs.asking.prepare_slices.Given as goal

abbrev pub invariant-loop-number : goal.invariant-loop-number
invariant-loop-number l = IsMemo l.scene.funcs.now l.scene.pictures.now l.memo
