use Rattle.lowering.proofs.Lowered.{phases_do_pixels}
use Rattle.lowering.proofs.laws.phases_do_pixels.Goals as goal

pub returns : goal.returns
returns c = phases_do_pixels
