use Rattle.lowering_nests.proofs.Repeating.{repeats_itself}
use Rattle.lowering_nests.proofs.laws.statements_repeat_themselves.Goals as goal

pub returns : goal.returns
returns c = repeats_itself
