use Rattle.halide_pipeline.specs.Pixel.{input_planes}
use Rattle.picture_rows.specs.Rows.{value_at}
use Rattle.picture_rows.proofs.InPlace.{Changed}
use Rattle.picture.proofs.row_reads.read_inputs.Given as goal

abbrev pub invariant-loop-at : goal.invariant-loop-at
invariant-loop-at l =
    Changed l.at l.initial.values.items l.values.items (λ k. input_planes l.fn.scene.pictures.now l.fn.source_index (value_at l.fn.x k) (value_at l.fn.y k))
