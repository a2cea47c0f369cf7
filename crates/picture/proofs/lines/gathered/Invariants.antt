use Rattle.halide_pipeline.specs.Pixel.{Plane}
use Rattle.picture.specs.inner.Evaluation.{IsTable}
use Rattle.picture_rows.specs.Rows.{value_at}
use Rattle.picture_rows.proofs.InPlace.{Changed}
use Rattle.picture.proofs.lines.gathered.Given as goal

abbrev pub invariant-loop-at : goal.invariant-loop-at
invariant-loop-at l = (plane : Plane) → IsTable plane l.own_box
    → Changed l.at l.initial.values.items l.values.items (λ k. plane (value_at l.x k) (value_at l.y k))
