use Rattle.task_code_clamps.proofs.Lying.{greater-lies}
use Rattle.task_code_clamps.proofs.ranges.of_greater.Goals as goal

pub returns : goal.returns
returns c = λ v w x y. greater-lies c.args.a c.args.b _ v w c.max.ensures c.max-2.ensures x y
