use Rattle.bounds_laws.proofs.Callers.{update_points_are_read_through}
use Rattle.bounds_laws.proofs.caller_laws.update_points_are_read_through.Goals as goal

pub returns : goal.returns
returns c = update_points_are_read_through
