use Rattle.std.proofs.Common.{sym, subst, arith}
use Rattle.halide_pipeline.specs.declared.expressions.Expr.TheOpen as layer
use Rattle.loop_ir.specs.declared.expressions.Expr.{Expr}
use Rattle.lowering_expressions.specs.inner.Following.{Follows, algebra}
use Rattle.lowering_expressions.proofs.Following.{select_follows}
use Rattle.lowering_expressions.proofs.Taking.{select_need}
use Rattle.lowering_expressions.proofs.Sizing.{select_size}
use Rattle.lowering_expressions.proofs.parts.select.Goals as goal

pub returns-clause-follows : goal.returns-clause-follows
returns-clause-follows c = λ corners values reads given test left right fc fa fb.
    subst (λ (m : Expr). Follows corners values reads given m ((algebra corners values reads).level (layer.Select test left right))) (sym c.in_ok-expression.ensures)
    (select_follows corners values reads given c.args.c c.args.a c.args.b test left right fc fa fb)

pub returns-clause-needs : goal.returns-clause-needs
returns-clause-needs c = let i = select_need c.in_ok-expression.expression c.args.c c.args.a c.args.b c.in_ok-expression.ensures in omega (arith, i)

pub returns-clause-sizes : goal.returns-clause-sizes
returns-clause-sizes c = let i = select_size c.in_ok-expression.expression c.args.c c.args.a c.args.b c.in_ok-expression.ensures in omega (arith, i)
