use Rattle.std.proofs.Common.{◌≡◌, length}
use Rattle.schedule_lines.specs.Directives as spec
use Rattle.schedule_lines.proofs.stages.find_marked.Given as goal

abbrev pub invariant-loops : goal.invariant-loops
invariant-loops l = spec.find_marked l.mark l.rest ≡ spec.find_marked l.mark l.loops

abbrev pub decreases-loops : goal.decreases-loops
decreases-loops l = length l.rest
