use Rattle.std.proofs.Common.{length}
use Rattle.turn_traces.proofs.ranges.+words_of.Given as goal

abbrev pub decreases-words_of : goal.decreases-words_of
decreases-words_of l = length l.addresses.now
