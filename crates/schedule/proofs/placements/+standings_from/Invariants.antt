use Rattle.std.proofs.Common.{length}
use Rattle.schedule.proofs.placements.+standings_from.Given as goal

abbrev pub decreases-standings_from : goal.decreases-standings_from
decreases-standings_from l = length l.rest.now
