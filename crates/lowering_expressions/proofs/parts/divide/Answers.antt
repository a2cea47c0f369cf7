use Rattle.std.proofs.Common.{◌≡◌, refl, sym, ap, subst, arith}
use Rattle.loop_ir.specs.declared.expressions.Expr.{Expr}
use Rattle.lowering_expressions.specs.inner.Following.{Follows}
use Rattle.lowering_expressions.proofs.Following.{divide_follows}
use Rattle.loop_ir.specs.Needs.{need}
use Rattle.lowering_expressions.proofs.Taking.{divide_need}
use Rattle.loop_ir.specs.Sizes.{size}
use Rattle.lowering_expressions.proofs.Sizing.{divide_size}
use Rattle.lowering_expressions.proofs.parts.divide.Goals as goal

pub returns-clause-follows : goal.returns-clause-follows
returns-clause-follows c = λ corners values reads given seen fa.
    divide_follows corners values reads given c.in_ok-seen.seen c.args.divisor seen (subst (λ (m : Expr). Follows corners values reads given m seen)
    (sym c.in_ok-seen.ensures) fa)

pub returns-clause-needs : goal.returns-clause-needs
returns-clause-needs c =
    let i = divide_need _ c.in_ok-seen.seen c.args.divisor refl in
    let j : need c.in_ok-seen.seen ≡ need c.args.a = ap need c.in_ok-seen.ensures in
    omega (arith, i, j)

pub returns-clause-sizes : goal.returns-clause-sizes
returns-clause-sizes c =
    let i = divide_size _ c.in_ok-seen.seen c.args.divisor refl in
    let j : size c.in_ok-seen.seen ≡ size c.args.a = ap size c.in_ok-seen.ensures in
    omega (arith, i, j)
