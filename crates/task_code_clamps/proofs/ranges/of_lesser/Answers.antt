use Rattle.task_code_clamps.proofs.Lying.{lesser-lies}
use Rattle.task_code_clamps.proofs.ranges.of_lesser.Goals as goal

pub returns : goal.returns
returns c = λ v w x y. lesser-lies c.args.a c.args.b _ v w c.min.ensures c.min-2.ensures x y
