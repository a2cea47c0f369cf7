use Rattle.std.proofs.Common.{ap, ◌∙◌}
use Rattle.loop_ir.specs.declared.expressions.Expr.TheVariants as exprs
use Rattle.lowering_expressions.proofs.parts.new_binary.Goals as goal

pub returns : goal.returns
returns c =
    ap (λ x. exprs.Binary c.args.operation x c.in_ok-right.right) c.in_ok-left.ensures ∙ ap (exprs.Binary c.args.operation c.args.a) c.in_ok-right.ensures
