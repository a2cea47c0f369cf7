use Rattle.std.proofs.Common.{◌≡◌, ◌++◌}
use Rattle.std.specs.String.{string_bytes}
use Rattle.turn_traces.specs.TraceText.{vectors_text}
use Rattle.turn_traces.proofs.effects.push_vectors.Given as goal

abbrev pub invariant-loop-number : goal.invariant-loop-number
invariant-loop-number l = string_bytes l.text ≡ string_bytes l.fn.text ++ vectors_text l.before l.after l.number
