use Rattle.work_sharing.proofs.Stuck.{no-count}
use Rattle.work_sharing.proofs.example.waits_for_ever.Goals as goal

pub returns : goal.returns
returns c = no-count
