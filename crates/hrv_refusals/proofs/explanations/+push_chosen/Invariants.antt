use Rattle.std.proofs.Common.{length}
use Rattle.hrv_refusals.proofs.explanations.+push_chosen.Given as goal

abbrev pub decreases-push_chosen : goal.decreases-push_chosen
decreases-push_chosen l = length l.text.now
