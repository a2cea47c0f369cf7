use Rattle.turn_log.proofs.LogLaws.{one_spelling_lem}
use Rattle.turn_log.proofs.laws.one_spelling.Goals as goal

pub returns : goal.returns
returns c = one_spelling_lem
