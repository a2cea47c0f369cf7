use Rattle.bounds_laws.proofs.Callers.{pure_points_are_read_through}
use Rattle.bounds_laws.proofs.caller_laws.pure_points_are_read_through.Goals as goal

pub returns : goal.returns
returns c = pure_points_are_read_through
