use Rattle.std.proofs.Common.{◌≡◌, ◌++◌}
use Rattle.std.specs.String.{string_bytes}
use Rattle.debugger.specs.Places.{state_here}
use Rattle.hrv_engines.specs.Talk.{hart_lines}
use Rattle.hrv_engines.proofs.talks.push_hart_lines.Given as goal

abbrev pub invariant-loop-hart : goal.invariant-loop-hart
invariant-loop-hart l = string_bytes l.text ≡ string_bytes l.fn.text ++ hart_lines (state_here l.session.state) l.hart
