use Rattle.std.proofs.Common.{length}
use Rattle.debugger.proofs.turns.+turn_compared.Given as goal

abbrev pub decreases-turn_compared : goal.decreases-turn_compared
decreases-turn_compared l = length l.watches.now
