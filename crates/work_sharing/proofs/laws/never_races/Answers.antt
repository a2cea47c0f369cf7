use Rattle.work_sharing.proofs.Races.{never-races}
use Rattle.work_sharing.proofs.laws.never_races.Goals as goal

pub returns : goal.returns
returns c = never-races
