use Rattle.std.proofs.Common.{◌≡◌, length}
use Rattle.schedule_lines.specs.Directives as spec
use Rattle.schedule_lines.proofs.directives.are_known.Given as goal

abbrev pub invariant-names : goal.invariant-names
invariant-names l = spec.are_known l.loops l.rest ≡ spec.are_known l.loops l.names

abbrev pub decreases-names : goal.decreases-names
decreases-names l = length l.rest
