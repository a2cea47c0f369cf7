use Rattle.halide_pipeline.specs.Words as word
use Rattle.picture.specs.inner.Evaluation.{plane_of}
use Rattle.picture_rows.proofs.InPlace.{Changed}
use Rattle.picture.proofs.row_values.pixels_one_by_one.Given as goal

abbrev pub invariant-loop-at : goal.invariant-loop-at
invariant-loop-at l = Changed l.at l.initial.pixels.items l.pixels.items (λ k. plane_of l.fn.scene l.fn.func_index (word.add l.fn.left k) l.fn.y)
