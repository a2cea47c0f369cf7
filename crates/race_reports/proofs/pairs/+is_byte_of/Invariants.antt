use Rattle.std.proofs.Common.{length}
use Rattle.race_reports.proofs.pairs.+is_byte_of.Given as goal

abbrev pub decreases-is_byte_of : goal.decreases-is_byte_of
decreases-is_byte_of l = length l.words.now
