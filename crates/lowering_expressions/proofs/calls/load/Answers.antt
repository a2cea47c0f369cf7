use Rattle.std.proofs.Common.{◌≡◌, ℕ, None, Some, refl, sym, ap, subst, ◌∙◌}
use Rattle.std.specs.Option.{option_copied}
use Rattle.halide_pipeline.specs.Words as word
use Rattle.halide_pipeline.specs.declared.expressions.Expr.TheOpen as layer
use Rattle.loop_ir.specs.Expressions.{linear_value}
use Rattle.loop_ir.specs.declared.expressions.Expr.{Expr}
use Rattle.lowering_expressions.specs.Lowering.{corner_of}
use Rattle.lowering_expressions.specs.inner.Following.{Follows, algebra}
use Rattle.lowering_expressions.proofs.Following.{load_follows}
use Rattle.loop_ir.specs.Needs.{need, need_of}
use Rattle.loop_ir.proofs.Needs.{need_number}
use Rattle.lowering_expressions.proofs.Taking.{load_few, load_alone}
use Rattle.lowering_expressions.proofs.Sizing.{load_given, plain_given, short_of}
use Rattle.lowering_expressions.proofs.calls.load.Goals as goal

pub returns-in_ok-expression-in-None-clause-follows : goal.returns-in_ok-expression-in-None-clause-follows
returns-in_ok-expression-in-None-clause-follows c = λ values reads given left right fl fr.
    let is : None ≡ corner_of c.args.corners.now c.args.source = sym (ap option_copied c.in-None.is) ∙ c.corner_of.ensures in
    subst (λ (m : Expr). Follows c.args.corners.now values reads given m ((algebra c.args.corners.now values reads).level (layer.Call2 c.args.source left
    right))) (sym c.in_ok-expression-in-None.ensures)
    (load_follows c.args.corners.now values reads given c.args.source None is c.args.x c.args.y left right fl.same fr.same fl.holds fr.holds)

pub returns-in_ok-expression-in-Some-clause-follows : goal.returns-in_ok-expression-in-Some-clause-follows
returns-in_ok-expression-in-Some-clause-follows c = λ values reads given left right fl fr.
    let corner = c.in-Some.corner.now in
    let is : Some corner ≡ corner_of c.args.corners.now c.args.source = sym (ap option_copied c.in-Some.is) ∙ c.corner_of.ensures in
    subst (λ (m : Expr). Follows c.args.corners.now values reads given m ((algebra c.args.corners.now values reads).level (layer.Call2 c.args.source left
    right))) (sym c.in_ok-expression-in-Some.ensures)
    (load_follows c.args.corners.now values reads given c.args.source (Some corner) is c.in_ok-x-in-Some.x c.in_ok-y-in-Some.y left right
    (c.in_ok-x-in-Some.ensures.value reads values ∙ ap (λ (n : ℕ). word.subtract n (linear_value values corner.x)) fl.same)
    (c.in_ok-y-in-Some.ensures.value reads values ∙ ap (λ (n : ℕ). word.subtract n (linear_value values corner.y)) fr.same)
    (λ test g h. c.in_ok-x-in-Some.ensures.loads reads values test (fl.holds test g h))
    (λ test g h. c.in_ok-y-in-Some.ensures.loads reads values test (fr.holds test g h)))

pub returns-in_ok-expression-in-None-clause-needs : goal.returns-in_ok-expression-in-None-clause-needs
returns-in_ok-expression-in-None-clause-needs c = load_few c.args.source c.in_ok-expression-in-None.expression c.args.x c.args.y (need c.args.x) (need c.args.y)
    c.in_ok-expression-in-None.ensures refl refl

pub returns-in_ok-expression-in-None-clause-alone : goal.returns-in_ok-expression-in-None-clause-alone
returns-in_ok-expression-in-None-clause-alone c = λ n is.
    load_alone c.args.source c.in_ok-expression-in-None.expression c.args.x c.args.y (need c.args.x) c.in_ok-expression-in-None.ensures refl (ap need_of is ∙ need_number n)

pub returns-in_ok-expression-in-Some-clause-needs : goal.returns-in_ok-expression-in-Some-clause-needs
returns-in_ok-expression-in-Some-clause-needs c =
    load_few c.args.source c.in_ok-expression-in-Some.expression c.in_ok-x-in-Some.x c.in_ok-y-in-Some.y (need c.args.x) (need c.args.y) c.in_ok-expression-in-Some.ensures
    c.in_ok-x-in-Some.ensures.needs c.in_ok-y-in-Some.ensures.needs

pub returns-in_ok-expression-in-Some-clause-alone : goal.returns-in_ok-expression-in-Some-clause-alone
returns-in_ok-expression-in-Some-clause-alone c = λ n is.
    load_alone c.args.source c.in_ok-expression-in-Some.expression c.in_ok-x-in-Some.x c.in_ok-y-in-Some.y (need c.args.x) c.in_ok-expression-in-Some.ensures
    c.in_ok-x-in-Some.ensures.needs (c.in_ok-y-in-Some.ensures.leaf n is)

pub returns-in_ok-expression-in-None-clause-sizes : goal.returns-in_ok-expression-in-None-clause-sizes
returns-in_ok-expression-in-None-clause-sizes c = λ short left right fl fr.
    plain_given c.args.source c.in_ok-expression-in-None.expression c.args.x c.args.y left right
    c.in_ok-expression-in-None.ensures fl fr

pub returns-in_ok-expression-in-Some-clause-sizes : goal.returns-in_ok-expression-in-Some-clause-sizes
returns-in_ok-expression-in-Some-clause-sizes c = λ short left right fl fr.
    let corner = c.in-Some.corner.now in
    let is : Some corner ≡ corner_of c.args.corners.now c.args.source = sym (ap option_copied c.in-Some.is) ∙ c.corner_of.ensures in
    let few = short_of c.args.corners.now c.args.source corner short is in
    load_given c.args.source c.in_ok-expression-in-Some.expression c.in_ok-x-in-Some.x c.in_ok-y-in-Some.y c.args.x c.args.y left right c.in_ok-expression-in-Some.ensures
    (c.in_ok-x-in-Some.ensures.sizes few.0) (c.in_ok-y-in-Some.ensures.sizes few.1) (c.in_ok-y-in-Some.ensures.numbers few.1) fl fr
