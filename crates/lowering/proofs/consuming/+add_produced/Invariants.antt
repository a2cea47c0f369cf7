use Rattle.std.proofs.Common.{length}
use Rattle.lowering.proofs.consuming.+add_produced.Given as goal

abbrev pub decreases-add_produced : goal.decreases-add_produced
decreases-add_produced l = length l.standings.now
