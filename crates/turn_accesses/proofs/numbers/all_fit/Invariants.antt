use Rattle.std.proofs.Common.{◌≡◌, length}
use Rattle.memory.specs.Access.{first_fault}
use Rattle.hart_core.specs.VectorRows.{accesses_at}
use Rattle.turn_accesses.specs.Accesses.{kind_in}
use Rattle.turn_accesses.specs.inner.Fitting.{is_fit}
use Rattle.turn_accesses.proofs.numbers.all_fit.Given as goal

abbrev pub invariant-loop-rest : goal.invariant-loop-rest
invariant-loop-rest l =
    is_fit (first_fault l.sizes.words l.sizes.bytes (kind_in l.kind) (accesses_at l.width l.addresses))
    ≡ is_fit (first_fault l.sizes.words l.sizes.bytes (kind_in l.kind) (accesses_at l.width l.rest))

abbrev pub decreases-loop-rest : goal.decreases-loop-rest
decreases-loop-rest l = length l.rest
