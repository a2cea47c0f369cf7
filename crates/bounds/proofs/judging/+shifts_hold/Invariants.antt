use Rattle.std.proofs.Common.{length}
use Rattle.bounds.proofs.judging.+shifts_hold.Given as goal

abbrev pub decreases-shifts_hold : goal.decreases-shifts_hold
decreases-shifts_hold l = length l.plans.now
