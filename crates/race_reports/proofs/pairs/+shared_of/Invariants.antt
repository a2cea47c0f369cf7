use Rattle.std.proofs.Common.{length}
use Rattle.race_reports.proofs.pairs.+shared_of.Given as goal

abbrev pub decreases-shared_of : goal.decreases-shared_of
decreases-shared_of l = length l.places.now
