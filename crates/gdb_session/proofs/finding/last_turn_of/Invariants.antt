use Rattle.std.proofs.Common.{◌≤◌, ◌+◌, ◌*◌}
use Rattle.std.specs.Prelude.{min}
use Rattle.gdb_session.specs.Going.{NoneBetween}
use Rattle.gdb_session.proofs.finding.last_turn_of.Given as goal

abbrev pub invariant-places : goal.invariant-places
invariant-places l = record { within : l.place ≤ l.fn.before; some : 1 ≤ l.width; none : NoneBetween l.log.turns l.hart l.place l.fn.before }

-- the width falls to 1 where the place stays
abbrev pub decreases-places : goal.decreases-places
decreases-places l = 2 * l.place + min l.width 2
