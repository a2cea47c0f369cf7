use Rattle.run_records.proofs.ReadBack.{endings_are_one}
use Rattle.run_records.proofs.laws.same_endings_are_one.Goals as goal

pub returns : goal.returns
returns c = endings_are_one
