use Rattle.work_sharing.proofs.Fair.{can-finish}
use Rattle.work_sharing.proofs.laws.can_finish.Goals as goal

pub returns : goal.returns
returns c = can-finish
