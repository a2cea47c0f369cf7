use Rattle.work_sharing.proofs.Refuted.{locked-harts-stay}
use Rattle.work_sharing.proofs.refutations.locked_harts_stay.Goals as goal

pub returns : goal.returns
returns c = locked-harts-stay
