use Rattle.std.proofs.Common.{◌≡◌, ◌++◌}
use Rattle.std.specs.String.{string_bytes}
use Rattle.multi_hart.specs.Run.{hart_at}
use Rattle.hrv_engines.specs.Dump.{vector_lines}
use Rattle.hrv_engines.proofs.dumps.push_vectors.Given as goal

abbrev pub invariant-loop-number : goal.invariant-loop-number
invariant-loop-number l = string_bytes l.text ≡ string_bytes l.fn.text ++ vector_lines (hart_at l.machine l.hart) l.number
