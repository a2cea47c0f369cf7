use Rattle.std.proofs.Common.{◌≡◌, length}
use Rattle.schedule_lines.specs.Directives as spec
use Rattle.schedule_lines.proofs.stages.find.Given as goal

abbrev pub invariant-loops : goal.invariant-loops
invariant-loops l = spec.find l.name l.rest ≡ spec.find l.name l.loops

abbrev pub decreases-loops : goal.decreases-loops
decreases-loops l = length l.rest
