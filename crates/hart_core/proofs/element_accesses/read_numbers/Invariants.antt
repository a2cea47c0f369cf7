use Rattle.std.proofs.Common.{◌≡◌, ◌≤◌, ◌+◌, ◌++◌, length}
use Rattle.std.specs.Prelude.{map}
use Rattle.memory.specs.Access.{Reads, first_fault, number_at}
use Rattle.hart_core.specs.VectorRows.{accesses_at}
use Rattle.hart_core.proofs.element_accesses.read_numbers.Given as goal

-- what the numbers that are left give is what all give
abbrev pub invariant-loop-rest : goal.invariant-loop-rest
invariant-loop-rest g l =
    let text = g.M.Bytes.text l.fn.memory in
    let memory = g.M.Bytes.memory l.fn.memory in record {
      fault : first_fault (length text) (length memory) Reads (accesses_at l.fn.width l.rest) ≡ first_fault (length text) (length memory) Reads
          (accesses_at l.fn.width l.fn.addresses);
      numbers : l.numbers ++ map (number_at text memory) (accesses_at l.fn.width l.rest) ≡ map (number_at text memory) (accesses_at l.fn.width l.fn.addresses);
      few : length l.numbers + length l.rest ≤ 64;
    }

abbrev pub decreases-loop-rest : goal.decreases-loop-rest
decreases-loop-rest g l = length l.rest
