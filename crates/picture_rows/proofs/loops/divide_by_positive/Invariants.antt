use Rattle.std.proofs.Common.{get_or}
use Rattle.halide_pipeline.specs.Words as word
use Rattle.picture_rows.proofs.InPlace.{Changed}
use Rattle.picture_rows.proofs.loops.divide_by_positive.Given as goal

abbrev pub invariant-loop-at : goal.invariant-loop-at
invariant-loop-at l = Changed l.at l.fn.values l.values (λ k. word.divide (get_or l.fn.values k 0) l.divisor)
