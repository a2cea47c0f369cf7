use Rattle.lowering_expressions.proofs.Following.{number_follows}
use Rattle.lowering_expressions.proofs.parts.number.Goals as goal

pub returns-clause-follows : goal.returns-clause-follows
returns-clause-follows c = λ corners values reads given. number_follows corners values reads given c.args.number
