-- Places that are touched where no access faults. This project's own.
use Rattle.std.specs.Prelude.{ℕ, Bool, true, false, List, [], Option, Some, None}
use Rattle.rv_insn.specs.declared.outcomes.Trap.{Trap}
use Rattle.memory.specs.Access.{Access, Kind, first_fault, read_by, touched, written_by}

abbrev pub if_fits : Option Trap → List ℕ → List ℕ
if_fits None places = places
if_fits (Some trap) places = []

abbrev pub is_fit : Option Trap → Bool
is_fit None = true
is_fit (Some trap) = false

-- what accesses read and write, in a text of this many words and a data of this many bytes
abbrev pub read_if_fit : ℕ → ℕ → Kind → List Access → List ℕ
read_if_fit words bytes kind accesses = if_fits (first_fault words bytes kind accesses) (touched (read_by kind accesses))

abbrev pub written_if_fit : ℕ → ℕ → Kind → List Access → List ℕ
written_if_fit words bytes kind accesses = if_fits (first_fault words bytes kind accesses) (touched (written_by kind accesses))
