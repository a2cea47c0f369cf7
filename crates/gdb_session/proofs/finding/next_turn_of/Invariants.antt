use Rattle.std.proofs.Common.{◌≤◌, ◌-◌, length}
use Rattle.gdb_session.specs.Going.{NoneBetween}
use Rattle.gdb_session.proofs.finding.next_turn_of.Given as goal

abbrev pub invariant-runs : goal.invariant-runs
invariant-runs l = record { onwards : l.fn.from ≤ l.place; none : NoneBetween l.log.turns l.hart l.fn.from l.place }

abbrev pub decreases-runs : goal.decreases-runs
decreases-runs l = length l.log.turns - l.place
