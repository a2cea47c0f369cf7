use Rattle.std.proofs.Common.{◌≡◌, length}
use Rattle.schedule_lines.specs.Directives as spec
use Rattle.schedule_lines.proofs.directives.is_among.Given as goal

abbrev pub invariant-names : goal.invariant-names
invariant-names l = spec.is_among l.name l.rest ≡ spec.is_among l.name l.names

abbrev pub decreases-names : goal.decreases-names
decreases-names l = length l.rest
