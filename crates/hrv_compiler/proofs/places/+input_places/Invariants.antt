use Rattle.std.proofs.Common.{length}
use Rattle.hrv_compiler.proofs.places.+input_places.Given as goal

abbrev pub decreases-input_places : goal.decreases-input_places
decreases-input_places l = length l.ats.now
