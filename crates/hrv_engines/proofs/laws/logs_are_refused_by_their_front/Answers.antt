use Rattle.hrv_engines.proofs.LogFronts.{same_fault}
use Rattle.hrv_engines.proofs.laws.logs_are_refused_by_their_front.Goals as goal

pub returns : goal.returns
returns c = same_fault
