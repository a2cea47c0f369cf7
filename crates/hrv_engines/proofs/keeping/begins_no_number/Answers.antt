use Rattle.hrv_engines.proofs.Unended.{number_stays_none}
use Rattle.hrv_engines.proofs.keeping.begins_no_number.Goals as goal

pub returns-then-word-ge3 : goal.returns-then-word-ge3
returns-then-word-ge3 c = λ is more. number_stays_none c.args.word.now more c.if-word-ge3.true (c.is_no_number.ensures is)
