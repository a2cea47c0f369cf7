use Rattle.std.proofs.Common.{length}
use Rattle.turn_traces.proofs.effects.+push_digits.Given as goal

abbrev pub decreases-push_digits : goal.decreases-push_digits
decreases-push_digits l = length l.bytes.now
