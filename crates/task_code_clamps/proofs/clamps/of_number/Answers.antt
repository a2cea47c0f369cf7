use Rattle.std.proofs.Common.{refl, sym, subst, arith}
use Rattle.loop_ir.specs.declared.expressions.Expr.TheVariants as e
use Rattle.task_code_clamps.specs.Clamps.{IsRanged}
use Rattle.task_code_clamps.proofs.Same.{ranged-number}
use Rattle.task_code_clamps.proofs.clamps.of_number.Goals as goal

pub returns : goal.returns
returns c = λ places bounds.
    subst (λ made. IsRanged places bounds (e.Number c.args.n) made) (sym c.word_in.ensures)
    (ranged-number places bounds (e.Number c.args.n) c.args.n c.only.result refl (omega arith) c.only.ensures)
