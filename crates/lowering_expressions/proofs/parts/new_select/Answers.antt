use Rattle.std.proofs.Common.{ap, ◌∙◌}
use Rattle.loop_ir.specs.declared.expressions.Expr.TheVariants as exprs
use Rattle.lowering_expressions.proofs.parts.new_select.Goals as goal

pub returns : goal.returns
returns c =
    ap (λ x. exprs.Select x c.in_ok-left.left c.in_ok-right.right) c.in_ok-condition.ensures
    ∙ ap (λ x. exprs.Select c.args.c x c.in_ok-right.right) c.in_ok-left.ensures ∙ ap (exprs.Select c.args.c c.args.a) c.in_ok-right.ensures
