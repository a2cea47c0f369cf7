use Rattle.std.proofs.Common.{length}
use Rattle.bounds.proofs.asks.+ask_updates.Given as goal

abbrev pub decreases-ask_updates : goal.decreases-ask_updates
decreases-ask_updates l = length l.updates.now
