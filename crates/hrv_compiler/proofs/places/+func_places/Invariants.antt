use Rattle.std.proofs.Common.{length}
use Rattle.hrv_compiler.proofs.places.+func_places.Given as goal

abbrev pub decreases-func_places : goal.decreases-func_places
decreases-func_places l = length l.standings.now
