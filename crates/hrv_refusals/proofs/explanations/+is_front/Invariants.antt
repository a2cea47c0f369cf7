use Rattle.std.proofs.Common.{length}
use Rattle.hrv_refusals.proofs.explanations.+is_front.Given as goal

abbrev pub decreases-is_front : goal.decreases-is_front
decreases-is_front l = length l.word.now
