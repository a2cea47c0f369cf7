use Rattle.std.proofs.Common.{length}
use Rattle.hrv_refusals.proofs.explanations.+is_name.Given as goal

abbrev pub decreases-is_name : goal.decreases-is_name
decreases-is_name l = length l.line.now
