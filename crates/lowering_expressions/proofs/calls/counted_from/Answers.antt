use Rattle.std.proofs.Common.{ℕ, ◌≤◌, length, refl, ap, subst, sym, ◌∙◌, arith}
use Rattle.halide_pipeline.specs.declared.expressions.Operation.TheVariants as operations
use Rattle.halide_pipeline.specs.Words as word
use Rattle.loop_ir.specs.declared.expressions.Expr.TheVariants as e
use Rattle.loop_ir.specs.Expressions.{value, linear_value}
use Rattle.lowering_expressions.proofs.Following.{number_value, linear_is, linear_loads, binary_value, linear_passes, left_passes}
use Rattle.lowering_expressions.proofs.Taking.{beside_leaf, leaf_need, linear_leaf, number_need}
use Rattle.loop_ir.specs.declared.expressions.Linear.{Linear}
use Rattle.lowering_expressions.proofs.Sizing.{beside_sum, linear_kept, linear_size}
use Rattle.lowering_expressions.proofs.calls.counted_from.Goals as goal

pub returns-in_ok-expression-in-Number-clause-value : goal.returns-in_ok-expression-in-Number-clause-value
returns-in_ok-expression-in-Number-clause-value c = λ reads values.
    linear_is reads values c.in_ok-expression-in-Number.expression ∙ c.in_ok-expression-in-Number.ensures.value values
    ∙ ap (λ (n : ℕ). word.subtract n (linear_value values c.args.corner.now))
    (c.of_number.ensures.value values ∙ sym (number_value reads values c.in-Number.number) ∙ sym (ap (value reads values) c.in-Number.is))

pub returns-in_ok-expression-in-Number-clause-loads : goal.returns-in_ok-expression-in-Number-clause-loads
returns-in_ok-expression-in-Number-clause-loads c = λ reads values test h. linear_passes reads values c.in_ok-expression-in-Number.expression test

pub returns-in_ok-expression-in-Linear-clause-value : goal.returns-in_ok-expression-in-Linear-clause-value
returns-in_ok-expression-in-Linear-clause-value c = λ reads values.
    linear_is reads values c.in_ok-expression-in-Linear.expression ∙ c.in_ok-expression-in-Linear.ensures.value values
    ∙ ap (λ (n : ℕ). word.subtract n (linear_value values c.args.corner.now)) (ap (linear_value values) c.in_ok-sum-in-Linear.ensures
    ∙ sym (linear_is reads values c.in-Linear.own) ∙ sym (ap (value reads values) c.in-Linear.is))

pub returns-in_ok-expression-in-Linear-clause-loads : goal.returns-in_ok-expression-in-Linear-clause-loads
returns-in_ok-expression-in-Linear-clause-loads c = λ reads values test h. linear_passes reads values c.in_ok-expression-in-Linear.expression test

pub returns-in_ok-expression-in_default : goal.returns-in_ok-expression-in_default
returns-in_ok-expression-in_default c =
    let begin = c.in_ok-begin-in_default.begin in
    let begin_few : length c.args.corner.now.terms ≤ 5
    → length begin.terms ≤ 5 = (λ few. subst (λ (own : Linear). length own.terms ≤ 5) (sym c.in_ok-begin-in_default.ensures) few) in
    record {
      value = λ reads values.
          ap (value reads values) c.in_ok-expression-in_default.ensures ∙ binary_value reads values operations.Subtract c.args.coordinate (e.Linear begin)
          ∙ ap (word.subtract (value reads values c.args.coordinate)) (linear_is reads values begin
          ∙ ap (linear_value values) c.in_ok-begin-in_default.ensures);
      loads = λ reads values test h.
          left_passes reads values operations.Subtract c.in_ok-expression-in_default.expression c.args.coordinate (e.Linear begin) c.in_ok-expression-in_default.ensures
          (linear_loads reads values begin) test h;
      needs = beside_leaf operations.Subtract c.in_ok-expression-in_default.expression c.args.coordinate (e.Linear begin) c.in_ok-expression-in_default.ensures
          (linear_leaf (e.Linear begin) begin refl);
      leaf = λ n is. absurd (c.in_default.not-Number n is);
      sizes = λ few. beside_sum operations.Subtract c.in_ok-expression-in_default.expression c.args.coordinate begin c.in_ok-expression-in_default.ensures (begin_few few);
      numbers = λ few n is. absurd (c.in_default.not-Number n is);
    }

pub returns-in_ok-expression-in-Number-clause-needs : goal.returns-in_ok-expression-in-Number-clause-needs
returns-in_ok-expression-in-Number-clause-needs c =
    leaf_need (e.Linear c.in_ok-expression-in-Number.expression) (linear_leaf (e.Linear c.in_ok-expression-in-Number.expression) c.in_ok-expression-in-Number.expression refl)
    ∙ sym (number_need c.args.coordinate c.in-Number.number c.in-Number.is)

pub returns-in_ok-expression-in-Number-clause-leaf : goal.returns-in_ok-expression-in-Number-clause-leaf
returns-in_ok-expression-in-Number-clause-leaf c = λ n is. linear_leaf (e.Linear c.in_ok-expression-in-Number.expression) c.in_ok-expression-in-Number.expression refl

pub returns-in_ok-expression-in-Linear-clause-needs : goal.returns-in_ok-expression-in-Linear-clause-needs
returns-in_ok-expression-in-Linear-clause-needs c =
    leaf_need (e.Linear c.in_ok-expression-in-Linear.expression) (linear_leaf (e.Linear c.in_ok-expression-in-Linear.expression) c.in_ok-expression-in-Linear.expression refl)
    ∙ sym (leaf_need c.args.coordinate (linear_leaf c.args.coordinate c.in-Linear.own c.in-Linear.is))

pub returns-in_ok-expression-in-Linear-clause-leaf : goal.returns-in_ok-expression-in-Linear-clause-leaf
returns-in_ok-expression-in-Linear-clause-leaf c = λ n is. linear_leaf (e.Linear c.in_ok-expression-in-Linear.expression) c.in_ok-expression-in-Linear.expression refl

pub returns-in_ok-expression-in-Number-clause-sizes : goal.returns-in_ok-expression-in-Number-clause-sizes
returns-in_ok-expression-in-Number-clause-sizes c = λ few.
    let i = linear_size (e.Linear c.in_ok-expression-in-Number.expression) c.in_ok-expression-in-Number.expression refl
    in
    let l = c.in_ok-expression-in-Number.ensures.few in
    let z = c.of_number.ensures.few in
    omega (arith, i, l, z, few)

pub returns-in_ok-expression-in-Number-clause-numbers : goal.returns-in_ok-expression-in-Number-clause-numbers
returns-in_ok-expression-in-Number-clause-numbers c = λ few n is.
    let i = linear_size (e.Linear c.in_ok-expression-in-Number.expression) c.in_ok-expression-in-Number.expression refl
    in
    let l = c.in_ok-expression-in-Number.ensures.few in
    let z = c.of_number.ensures.few in (
      linear_kept (e.Linear c.in_ok-expression-in-Number.expression) c.in_ok-expression-in-Number.expression refl,
      omega
          (arith, i, l, z, few),
    )

pub returns-in_ok-expression-in-Linear-clause-sizes : goal.returns-in_ok-expression-in-Linear-clause-sizes
returns-in_ok-expression-in-Linear-clause-sizes c = λ few.
    let i = linear_size (e.Linear c.in_ok-expression-in-Linear.expression) c.in_ok-expression-in-Linear.expression refl
    in
    let j = linear_size c.args.coordinate c.in-Linear.own c.in-Linear.is in
    let l = c.in_ok-expression-in-Linear.ensures.few in
    let same = ap (λ (own : Linear). length own.terms) c.in_ok-sum-in-Linear.ensures in
    omega (arith, i, j, l, same, few)

pub returns-in_ok-expression-in-Linear-clause-numbers : goal.returns-in_ok-expression-in-Linear-clause-numbers
returns-in_ok-expression-in-Linear-clause-numbers c = λ few n is. absurd cc
