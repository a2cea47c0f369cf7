use Rattle.halide_pipeline.specs.Pixel.{Plane}
use Rattle.picture.specs.inner.Evaluation.{IsAt, IsTable}
use Rattle.picture.specs.inner.Together.{with_stores}
use Rattle.picture.proofs.together.store_each.Given as goal

abbrev pub invariant-loop-at : goal.invariant-loop-at
invariant-loop-at l = record {
  table : (plane : Plane) → IsTable plane l.fn.table → IsTable (with_stores l.row l.at plane) l.table;
  bounds : IsAt l.fn.table.left l.fn.table.top l.fn.table.width l.fn.table.height l.table;
}
