use Rattle.picture.specs.inner.Evaluation.{IsMemo}
use Rattle.picture.proofs.asking.settle.Given as goal

abbrev pub invariant-loop : goal.invariant-loop
invariant-loop l = IsMemo l.scene.funcs.now l.scene.pictures.now l.memo
