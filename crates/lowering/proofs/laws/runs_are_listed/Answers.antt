use Rattle.lowering.proofs.RunLists.{runs_are_listed}
use Rattle.lowering.proofs.laws.runs_are_listed.Goals as goal

pub returns : goal.returns
returns c = runs_are_listed
