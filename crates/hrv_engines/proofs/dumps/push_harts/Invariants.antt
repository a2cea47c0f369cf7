use Rattle.std.proofs.Common.{◌≡◌, ◌++◌}
use Rattle.std.specs.String.{string_bytes}
use Rattle.hrv_engines.specs.Dump.{hart_texts}
use Rattle.hrv_engines.proofs.dumps.push_harts.Given as goal

abbrev pub invariant-loop-hart : goal.invariant-loop-hart
invariant-loop-hart l = string_bytes l.text ≡ string_bytes l.fn.text ++ hart_texts l.machine l.log.turns l.hart
