use Rattle.picture.specs.inner.Evaluation.{IsTable}
use Rattle.picture.specs.inner.Together.{after_points}
use Rattle.picture.proofs.together.run_points.Given as goal

abbrev pub invariant-loop-number : goal.invariant-loop-number
invariant-loop-number l = IsTable (after_points l.scene l.pass l.number) l.table
