use Rattle.picture_rows.specs.Rows.{clamped}
use Rattle.picture_rows.proofs.InPlace.{Changed}
use Rattle.picture_rows.proofs.loops.clamp_up.Given as goal

abbrev pub invariant-loop-at : goal.invariant-loop-at
invariant-loop-at l = Changed l.at l.fn.values l.values (λ k. clamped l.clamp k)
