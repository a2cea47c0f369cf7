use Rattle.std.proofs.Common.{◌==◌, if◌then◌else◌, get_or}
use Rattle.picture_rows.proofs.InPlace.{Changed}
use Rattle.picture_rows.proofs.loops.choose.Given as goal

abbrev pub invariant-loop-at : goal.invariant-loop-at
invariant-loop-at l = Changed l.at l.fn.values l.values (λ k. if get_or l.conditions k 0 == 0 then get_or l.others k 0 else get_or l.fn.values k 0)
