use Rattle.std.proofs.Common.{ℕ, length, refl, ap, sym, ◌∙◌, arith}
use Rattle.halide_pipeline.specs.declared.expressions.Operation.TheVariants as operations
use Rattle.halide_pipeline.specs.Words as word
use Rattle.loop_ir.specs.declared.expressions.Expr.TheVariants as e
use Rattle.loop_ir.specs.Expressions.{value, linear_value}
use Rattle.loop_ir.specs.declared.expressions.Linear.{Linear}
use Rattle.lowering_expressions.proofs.Following.{number_value, number_loads, linear_is, binary_value, linear_passes, left_passes}
use Rattle.loop_ir.proofs.Needs.{need_number}
use Rattle.lowering_expressions.proofs.Taking.{beside_leaf, leaf_need, linear_leaf}
use Rattle.lowering_expressions.proofs.Sizing.{beside_number, linear_size}
use Rattle.lowering_expressions.proofs.parts.shifted.Goals as goal

pub returns-in_ok-sum-in-Linear-clause-value : goal.returns-in_ok-sum-in-Linear-clause-value
returns-in_ok-sum-in-Linear-clause-value c = λ reads values.
    linear_is reads values c.plus_number.result ∙ c.plus_number.ensures.value values
    ∙ ap (λ (n : ℕ). word.add n c.args.number) (ap (linear_value values) c.in_ok-sum-in-Linear.ensures ∙ sym (linear_is reads values c.in-Linear.linear)
    ∙ sym (ap (value reads values) c.in-Linear.is))

pub returns-in_ok-sum-in-Linear-clause-loads : goal.returns-in_ok-sum-in-Linear-clause-loads
returns-in_ok-sum-in-Linear-clause-loads c = λ reads values test h. linear_passes reads values c.plus_number.result test

pub returns-in_ok-new_expression-in_default : goal.returns-in_ok-new_expression-in_default
returns-in_ok-new_expression-in_default c = record {
  value = λ reads values.
      ap (value reads values) c.in_ok-new_expression-in_default.ensures ∙ binary_value reads values operations.Add c.args.expression (e.Number c.args.number)
      ∙ ap (word.add (value reads values c.args.expression)) (number_value reads values c.args.number);
  loads = λ reads values test h.
      left_passes reads values operations.Add c.in_ok-new_expression-in_default.new_expression c.args.expression (e.Number c.args.number) c.in_ok-new_expression-in_default.ensures
      (number_loads reads values c.args.number) test h;
  needs = let n = beside_leaf operations.Add c.in_ok-new_expression-in_default.new_expression c.args.expression (e.Number c.args.number) c.in_ok-new_expression-in_default.ensures
      (need_number c.args.number) in omega (arith, n);
  sizes = beside_number operations.Add c.in_ok-new_expression-in_default.new_expression c.args.expression c.args.number c.in_ok-new_expression-in_default.ensures;
}

pub returns-in_ok-sum-in-Linear-clause-needs : goal.returns-in_ok-sum-in-Linear-clause-needs
returns-in_ok-sum-in-Linear-clause-needs c =
    let i = leaf_need (e.Linear c.plus_number.result) (linear_leaf (e.Linear c.plus_number.result) c.plus_number.result refl) in
    let j = leaf_need c.args.expression (linear_leaf c.args.expression c.in-Linear.linear c.in-Linear.is) in
    omega (arith, i, j)

pub returns-in_ok-sum-in-Linear-clause-sizes : goal.returns-in_ok-sum-in-Linear-clause-sizes
returns-in_ok-sum-in-Linear-clause-sizes c =
    let i = linear_size (e.Linear c.plus_number.result) c.plus_number.result refl in
    let j = linear_size c.args.expression c.in-Linear.linear c.in-Linear.is in
    let k = c.plus_number.ensures.few in
    let same = ap (λ (expression : Linear). length expression.terms) c.in_ok-sum-in-Linear.ensures in
    omega (arith, i, j, k, same)
