use Rattle.std.proofs.Common.{length}
use Rattle.hrv_engines.proofs.races.+push_words.Given as goal

abbrev pub decreases-push_words : goal.decreases-push_words
decreases-push_words l = length l.texts.now
