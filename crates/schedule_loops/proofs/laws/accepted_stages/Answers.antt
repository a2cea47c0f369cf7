use Rattle.schedule_loops.proofs.AcceptedStages.{accepted}
use Rattle.schedule_loops.proofs.laws.accepted_stages.Goals as goal

pub returns : goal.returns
returns c = accepted
