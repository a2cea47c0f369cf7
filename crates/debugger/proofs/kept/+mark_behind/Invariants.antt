use Rattle.std.proofs.Common.{length}
use Rattle.debugger.proofs.kept.+mark_behind.Given as goal

abbrev pub decreases-mark_behind : goal.decreases-mark_behind
decreases-mark_behind l = length l.places.now
