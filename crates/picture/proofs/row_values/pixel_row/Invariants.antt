use Rattle.std.proofs.Common.{◌*◌, min}
use Rattle.halide_pipeline.specs.Words as word
use Rattle.picture.specs.inner.Evaluation.{plane_of}
use Rattle.picture_rows.specs.Rows.{AreValues}
use Rattle.picture.proofs.row_values.pixel_row.Given as goal

abbrev pub invariant-loop-number : goal.invariant-loop-number
invariant-loop-number l = AreValues (min (l.number * 4096) l.width) (λ at. plane_of l.fn.scene l.fn.func_index (word.add l.fn.left at) l.fn.y) l.pixels.items
