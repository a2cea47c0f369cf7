use Rattle.work_sharing.proofs.Fair.{fair-ends}
use Rattle.work_sharing.proofs.laws.fair_ends.Goals as goal

pub returns : goal.returns
returns c = fair-ends
