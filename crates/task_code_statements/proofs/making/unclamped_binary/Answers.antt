use Rattle.std.proofs.Common.{sym, subst, ◌∙◌}
use Rattle.std.specs.Prelude.{IfSome}
use Rattle.loop_ir.specs.declared.expressions.Expr.TheVariants as e
use Rattle.task_code_values.proofs.Evaluating.{value_binary, loads_binary}
use Rattle.task_code_clamps.proofs.Same.{as-both}
use Rattle.task_code_statements.specs.Rewriting.{IsBinary}
use Rattle.task_code_statements.proofs.making.unclamped_binary.Goals as goal

pub returns-in-Some : goal.returns-in-Some
returns-in-Some c = λ places x y rx ry.
    let is =
    subst (λ o. IfSome o (λ sum. IsBinary c.args.operation c.args.a.e c.args.b.e (e.Linear sum))) c.in-Some.is c.in_ok-sum.ensures in
    as-both places c.args.bounds.now c.args.operation x y c.args.a c.args.b rx ry (e.Linear c.in-Some.sum) c.of_linear.result
    (λ reads values. is.value_is reads values ∙ sym (value_binary reads values c.args.operation c.args.a.e c.args.b.e))
    (λ reads values. is.loads_are reads values ∙ sym (loads_binary reads values c.args.operation c.args.a.e c.args.b.e))
    (c.of_linear.ensures places)

pub returns-in_ok-new_ranged-in-None : goal.returns-in_ok-new_ranged-in-None
returns-in_ok-new_ranged-in-None c = λ places x y rx ry. c.in_ok-new_ranged-in-None.ensures places c.args.bounds.now x y
    rx ry
