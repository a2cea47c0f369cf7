use Rattle.work_sharing.proofs.Lonely.{others-do-nothing}
use Rattle.work_sharing.proofs.refutations.others_do_nothing.Goals as goal

pub returns : goal.returns
returns c = others-do-nothing
