use Rattle.work_sharing.proofs.Fair.{finished-stays, gates-grow}
use Rattle.work_sharing.proofs.laws.what_is_done_stays.Goals as goal

pub returns-clause-finished : goal.returns-clause-finished
returns-clause-finished c = finished-stays

pub returns-clause-gates : goal.returns-clause-gates
returns-clause-gates c = gates-grow
