use Rattle.std.proofs.Common.{length}
use Rattle.race_reports.proofs.pairs.+touches_any.Given as goal

abbrev pub decreases-touches_any : goal.decreases-touches_any
decreases-touches_any l = length l.addresses.now
