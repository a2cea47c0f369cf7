use Rattle.std.proofs.Common.{◌≡◌, length}
use Rattle.memory.specs.Access.{Writes, first_fault}
use Rattle.memory_accesses.specs.Elements.{accesses_at}
use Rattle.memory_accesses.proofs.elements.check_stores.Given as goal

-- the first fault of those that are left is the first of all
abbrev pub invariant-loop-rest : goal.invariant-loop-rest
invariant-loop-rest g l =
    first_fault (length (g.M.Bytes.text l.fn.memory)) (length (g.M.Bytes.memory l.fn.memory)) Writes (accesses_at l.fn.width l.rest)
    ≡ first_fault (length (g.M.Bytes.text l.fn.memory)) (length (g.M.Bytes.memory l.fn.memory)) Writes (accesses_at l.fn.width l.fn.addresses)

abbrev pub decreases-loop-rest : goal.decreases-loop-rest
decreases-loop-rest g l = length l.rest
