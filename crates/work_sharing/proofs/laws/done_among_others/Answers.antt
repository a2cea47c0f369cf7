use Rattle.work_sharing.proofs.Undisturbed.{done-among-others}
use Rattle.work_sharing.proofs.laws.done_among_others.Goals as goal

pub returns : goal.returns
returns c = done-among-others
