use Rattle.std.proofs.Common.{refl, arith}
use Rattle.task_code_clamps.proofs.Lying.{up-lies}
use Rattle.task_code_clamps.proofs.ranges.up_from.Goals as goal

pub returns-then-from-most : goal.returns-then-from-most
returns-then-from-most c = λ more l.
    up-lies c.args.first c.args.most more c.level-low.result _ c.level-low.ensures refl refl (let t = c.if-from-most.true in let e = c.from.ensures in
    omega (arith, t, e)) l
