use Rattle.std.proofs.Common.{get_or}
use Rattle.halide_pipeline.specs.Words as word
use Rattle.picture_rows.proofs.InPlace.{Changed}
use Rattle.picture_rows.proofs.windows.Window.fetch.Given as goal

abbrev pub invariant-loop-at : goal.invariant-loop-at
invariant-loop-at l =
    Changed l.at l.fn.columns l.columns (λ k. get_or l.self.values.now (word.subtract (get_or l.fn.columns k 0) l.first) 0)
