use Rattle.schedule_loops.proofs.Few.{few_splits}
use Rattle.schedule_loops.proofs.laws.stages_have_few_splits.Goals as goal

pub returns : goal.returns
returns c = few_splits
