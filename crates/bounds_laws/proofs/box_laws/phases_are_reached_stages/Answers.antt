use Rattle.bounds_laws.proofs.Reached.{phases_are_reached_stages}
use Rattle.bounds_laws.proofs.box_laws.phases_are_reached_stages.Goals as goal

pub returns : goal.returns
returns c = phases_are_reached_stages
