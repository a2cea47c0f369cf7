use Rattle.std.proofs.Common.{length}
use Rattle.race_reports.proofs.pairs.+first_shared.Given as goal

abbrev pub decreases-first_shared : goal.decreases-first_shared
decreases-first_shared l = length l.addresses.now
