use Rattle.work_sharing.proofs.Results.{never-traps}
use Rattle.work_sharing.proofs.laws.never_traps.Goals as goal

pub returns : goal.returns
returns c = never-traps
