use Rattle.std.proofs.Common.{length}
use Rattle.schedule.proofs.legality.+has_lost.Given as goal

abbrev pub decreases-has_lost : goal.decreases-has_lost
decreases-has_lost l = length l.standings.now
