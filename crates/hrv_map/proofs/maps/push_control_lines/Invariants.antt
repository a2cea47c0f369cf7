use Rattle.std.proofs.Common.{◌≡◌, ◌++◌}
use Rattle.hrv_map.specs.Maps.{control_lines}
use Rattle.hrv_map.proofs.maps.push_control_lines.Given as goal

abbrev pub invariant-loop-phase : goal.invariant-loop-phase
invariant-loop-phase l = l.out.items ≡ l.fn.out.items ++ control_lines l.phase
