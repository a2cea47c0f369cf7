use Rattle.std.proofs.Common.{sym, subst}
use Rattle.halide_pipeline.specs.declared.expressions.Expr.TheOpen as layer
use Rattle.loop_ir.specs.declared.expressions.Expr.{Expr}
use Rattle.lowering_expressions.specs.inner.Following.{Follows, algebra}
use Rattle.lowering_expressions.proofs.Following.{binary_follows, shifted_follows}
use Rattle.lowering_expressions.proofs.Taking.{binary_need}
use Rattle.lowering_expressions.proofs.Sizing.{binary_size}
use Rattle.lowering_expressions.proofs.parts.binary.Goals as goal

pub returns-in_ok-expression-in-None-clause-follows : goal.returns-in_ok-expression-in-None-clause-follows
returns-in_ok-expression-in-None-clause-follows c = λ corners values reads given left right fa fb.
    subst (λ (m : Expr). Follows corners values reads given m ((algebra corners values reads).level (layer.Binary c.args.operation left right)))
    (sym c.in_ok-expression-in-None.ensures)
    (binary_follows corners values reads given c.args.operation c.args.a c.args.b left right fa fb)

pub returns-in_ok-expression-in-Some-clause-follows : goal.returns-in_ok-expression-in-Some-clause-follows
returns-in_ok-expression-in-Some-clause-follows c = λ corners values reads given left right fa fb.
    shifted_follows corners values reads given c.args.operation c.args.a c.args.b c.in_ok-expression-in-Some.expression left right c.in-Some.number (c.in-Some.ensures reads
    values)
    (c.in_ok-expression-in-Some.ensures.value reads values) (c.in_ok-expression-in-Some.ensures.loads reads values) fa
    fb

pub returns-in_ok-expression-in-None-clause-needs : goal.returns-in_ok-expression-in-None-clause-needs
returns-in_ok-expression-in-None-clause-needs c = binary_need c.args.operation c.in_ok-expression-in-None.expression c.args.a c.args.b c.in_ok-expression-in-None.ensures

pub returns-in_ok-expression-in-None-clause-sizes : goal.returns-in_ok-expression-in-None-clause-sizes
returns-in_ok-expression-in-None-clause-sizes c = binary_size c.args.operation c.in_ok-expression-in-None.expression c.args.a c.args.b c.in_ok-expression-in-None.ensures
