use Rattle.std.proofs.Common.{refl}
use Rattle.lowering.proofs.corners.no_counters.Goals as goal

pub returns : goal.returns
returns c = λ values. refl
