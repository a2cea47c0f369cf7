use Rattle.std.proofs.Common.{◌≡◌, ◌++◌}
use Rattle.std.specs.String.{string_bytes}
use Rattle.gdb_texts.specs.Texts.{vector_lines}
use Rattle.gdb_texts.proofs.descriptions.push_vectors.Given as goal

abbrev pub invariant-loop-number : goal.invariant-loop-number
invariant-loop-number l = string_bytes l.text ≡ string_bytes l.fn.text ++ vector_lines l.number
