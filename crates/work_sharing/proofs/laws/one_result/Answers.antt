use Rattle.work_sharing.proofs.Results.{one-result}
use Rattle.work_sharing.proofs.laws.one_result.Goals as goal

pub returns : goal.returns
returns c = one-result
