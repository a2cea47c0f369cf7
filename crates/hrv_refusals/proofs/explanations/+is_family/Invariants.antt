use Rattle.std.proofs.Common.{length}
use Rattle.hrv_refusals.proofs.explanations.+is_family.Given as goal

abbrev pub decreases-is_family : goal.decreases-is_family
decreases-is_family l = length l.line.now
