use Rattle.std.proofs.Common.{length}
use Rattle.task_code_lane_values.proofs.sharing.+first_words.Given as goal

abbrev pub decreases-first_words : goal.decreases-first_words
decreases-first_words l = length l.ways.now
