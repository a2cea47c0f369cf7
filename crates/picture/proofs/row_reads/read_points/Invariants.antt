use Rattle.picture.specs.inner.Evaluation.{reads_in}
use Rattle.picture.specs.declared.scenes.FuncState.TheVariants as states
use Rattle.picture_rows.specs.Rows.{value_at}
use Rattle.picture_rows.proofs.InPlace.{Changed}
use Rattle.picture.proofs.row_reads.read_points.Given as goal

abbrev pub invariant-loop-at : goal.invariant-loop-at
invariant-loop-at l =
    Changed l.at l.initial.values.items l.values.items (λ k. reads_in l.fn.scene l.fn.func_index states.Earlier l.fn.source (value_at l.fn.x k) (value_at l.fn.y k))
