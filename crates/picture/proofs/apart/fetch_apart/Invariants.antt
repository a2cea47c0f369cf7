use Rattle.std.proofs.Common.{◌+◌, ◌*◌, get_or}
use Rattle.picture_rows.proofs.InPlace.{Changed}
use Rattle.picture.proofs.apart.fetch_apart.Given as goal

abbrev pub invariant-loop-at : goal.invariant-loop-at
invariant-loop-at l = Changed l.at l.fn.values l.values (λ k. get_or l.words (l.from + k * l.apart) 0)
