use Rattle.std.proofs.Common.{refl, sym, subst}
use Rattle.loop_ir.specs.declared.expressions.Expr.TheVariants as e
use Rattle.task_code_clamps.specs.Clamps.{IsRanged}
use Rattle.task_code_clamps.proofs.Same.{ranged-linear}
use Rattle.task_code_clamps.proofs.clamps.of_linear.Goals as goal

pub returns : goal.returns
returns c = λ places.
    subst (λ made. IsRanged places c.args.bounds.now (e.Linear c.args.sum) made) (sym c.word_in.ensures)
    (ranged-linear places c.args.bounds.now (e.Linear c.args.sum) c.args.sum c.args.sum c.of_sum-range.result refl refl c.of_sum-range.ensures)
