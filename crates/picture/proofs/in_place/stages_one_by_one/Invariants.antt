use Rattle.halide_pipeline.specs.Pixel.{stage}
use Rattle.halide_pipeline.specs.Words as word
use Rattle.picture.specs.inner.Evaluation.{inputs_of, earlier_of}
use Rattle.picture_rows.proofs.InPlace.{Changed}
use Rattle.picture.proofs.in_place.stages_one_by_one.Given as goal

abbrev pub invariant-loop-at : goal.invariant-loop-at
invariant-loop-at l = Changed l.at l.initial.pixels.items l.pixels.items (λ k. stage l.fn.func_index l.fn.func (inputs_of l.fn.scene) (earlier_of l.fn.scene l.fn.func_index)
    l.fn.updates (word.add l.left k) l.y)
