use Rattle.std.proofs.Common.{ap, ◌∙◌}
use Rattle.loop_ir.specs.declared.expressions.Expr.TheVariants as exprs
use Rattle.lowering_expressions.proofs.parts.new_load.Goals as goal

pub returns : goal.returns
returns c =
    ap (λ x. exprs.Load c.args.source x c.in_ok-row.row) c.in_ok-column.ensures ∙ ap (exprs.Load c.args.source c.args.x) c.in_ok-row.ensures
