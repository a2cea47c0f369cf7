use Rattle.std.proofs.Common.{length}
use Rattle.hrv_refusals.proofs.explanations.+push_families.Given as goal

abbrev pub decreases-push_families : goal.decreases-push_families
decreases-push_families l = length l.text.now
