use Rattle.loop_ir.proofs.Stored.{other_points_stay}
use Rattle.loop_ir.proofs.laws.other_points_stay.Goals as goal

pub returns : goal.returns
returns c = other_points_stay
