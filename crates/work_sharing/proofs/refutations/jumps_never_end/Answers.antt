use Rattle.work_sharing.proofs.Refuted.{jumps-never-end}
use Rattle.work_sharing.proofs.refutations.jumps_never_end.Goals as goal

pub returns : goal.returns
returns c = jumps-never-end
