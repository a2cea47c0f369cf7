use Rattle.work_sharing.proofs.Greedy.{first-does-all}
use Rattle.work_sharing.proofs.refutations.first_does_all.Goals as goal

pub returns : goal.returns
returns c = first-does-all
