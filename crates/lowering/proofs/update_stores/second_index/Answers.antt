use Rattle.std.proofs.Common.{◌≤◌, Option, refl, ap, ◌∙◌, subst, sym, arith}
use Rattle.halide_pipeline.specs.declared.expressions.Expr.{Expr}
use Rattle.halide_pipeline.specs.Pixel.{variable as variable_in}
use Rattle.halide_pipeline.specs.Points.{Hold}
use Rattle.bounds_inlining.specs.Inlining.{flagged, inlined}
use Rattle.bounds_inlining.specs.Laws.{seen_variable}
use Rattle.bounds_inlining.specs.Values.{values as valuing, seeing}
use Rattle.lowering_expressions.specs.Lowering.{environment, place as place_in, placed}
use Rattle.lowering_expressions.proofs.Following.{number_loads, number_value}
use Rattle.loop_ir.specs.declared.expressions.Expr.TheVariants as terms
use Rattle.loop_ir.specs.Needs.{need}
use Rattle.lowering_expressions.proofs.Taking.{number_need}
use Rattle.lowering.specs.Registers.{second_taken}
use Rattle.lowering.specs.Updates as spec
use Rattle.lowering.specs.Sizes.{IsGivenIndex}
use Rattle.lowering.proofs.update_stores.second_index.Goals as goal

-- src/update_stores.rt:74:1
pub returns-in-None-clause-value : goal.returns-in-None-clause-value
returns-in-None-clause-value c = λ reads values.
    number_value reads values 0
    ∙ sym
    (ap (spec.index_of (inlined (valuing (placed c.args.reader.now.corners.now values reads)) (flagged c.args.reader.now.flags.now) c.args.reader.now.funcs.now
    c.args.reader.now.place (variable_in (environment values c.args.arguments.now)))) c.in-None.is)

pub returns-in-None-clause-loads : goal.returns-in-None-clause-loads
returns-in-None-clause-loads c = λ reads values test h. subst (Hold test) (sym (number_loads reads values 0)) tt

pub returns-in-None-clause-needs : goal.returns-in-None-clause-needs
returns-in-None-clause-needs c =
    let one = number_need (terms.Number 0) 0 refl in
    subst (λ (o : Option Expr). need (terms.Number 0) ≤ second_taken c.args.reader.now.flags.now c.args.reader.now.funcs.now c.args.reader.now.place o)
    (sym c.in-None.is) (omega (arith, one))

pub returns-in_ok-expression-in-Some-clause-loads : goal.returns-in_ok-expression-in-Some-clause-loads
returns-in_ok-expression-in-Some-clause-loads c = λ reads values test h.
    c.in_ok-expression-in-Some.ensures.loads reads values test
    (subst (λ (o : Option Expr). Hold (λ point. test (place_in c.args.reader.now.corners.now values point))
    (spec.points_of_index (λ e. (inlined (seeing (placed c.args.reader.now.corners.now values reads)) (flagged c.args.reader.now.flags.now)
    c.args.reader.now.funcs.now c.args.reader.now.place (seen_variable (environment values c.args.arguments.now)) e).points) o)) c.in-Some.is h)

pub returns-in-None-clause-sizes : goal.returns-in-None-clause-sizes
returns-in-None-clause-sizes c = λ short few.
    subst (λ (o : Option Expr). IsGivenIndex c.args.reader.now.flags.now c.args.reader.now.funcs.now c.args.reader.now.place o (terms.Number 0))
    (sym c.in-None.is) refl

pub returns-in_ok-expression-in-Some-clause-sizes : goal.returns-in_ok-expression-in-Some-clause-sizes
returns-in_ok-expression-in-Some-clause-sizes c = λ short few.
    subst (λ (o : Option Expr). IsGivenIndex c.args.reader.now.flags.now c.args.reader.now.funcs.now c.args.reader.now.place o c.in_ok-expression-in-Some.expression)
    (sym c.in-Some.is) (c.in_ok-expression-in-Some.ensures.sizes short few)
