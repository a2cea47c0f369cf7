-- What operations make of sums of loop variables.
use Rattle.std.proofs.Common.{◌≡◌, ℕ, ◌+◌, ◌-◌, ◌*◌, ◌%◌, ◌^◌, List, [], ◌∷◌, ◌++◌, length, refl, ap, ◌∙◌, sym, arith}
use Rattle.std.proofs.lemmas.Nat.{mul-mod_first, mul-mod_second}
use Rattle.std.proofs.Math.Nat.{mul_comm}
use Rattle.halide_pipeline.specs.declared.expressions.Operation.TheVariants as op
use Rattle.halide_pipeline.specs.Words as word
use Rattle.loop_ir.specs.declared.expressions.Linear.{Linear}
use Rattle.loop_ir.specs.declared.expressions.Term.{Term}
use Rattle.loop_ir.specs.Counters.{Values}
use Rattle.loop_ir.specs.Expressions.{linear_value, sum_of}
use Rattle.task_code_registers.specs.Points.{times}
use Rattle.task_code_registers.proofs.Knowing.{linear-small}
use Rattle.task_code_loops.specs.Sums.{IsCombined, IsTimes}
use Rattle.task_code_loops.proofs.Rewriting.{sum-times}

pub times-are : (new_sum : Linear) (factor number : ℕ) (none terms : List Term) → none ≡ [] → terms ≡ none ++ times factor new_sum.terms
    → number ≡ word.multiply new_sum.number factor → IsTimes new_sum factor (record { number = number; terms = terms })
unfolding linear_value word.multiply
times-are new_sum factor number none terms e0 et en values =
    let s = sum_of values new_sum.terms in
    let t = sum_of values (times factor new_sum.terms) in
    let e = sum-times values factor new_sum.terms in
    let et' : terms ≡ times factor new_sum.terms = et ∙ ap (λ l. l ++ times factor new_sum.terms) e0 in
    let whole : (new_sum.number + s) * factor ≡ new_sum.number * factor + s * factor = omega arith in
    ap (λ n. (n + sum_of values terms) % 2 ^ 32) en ∙ ap (λ l. ((new_sum.number * factor) % 2 ^ 32 + sum_of values l) % 2 ^ 32) et'
    ∙ joined (new_sum.number * factor) t (s * factor) e ∙ ap (λ n. n % 2 ^ 32) (sym whole) ∙ sym (mul-mod_first (new_sum.number + s) factor (2 ^ 32))
  where
    joined : (n t u : ℕ) → t % 2 ^ 32 ≡ u % 2 ^ 32 → (n % 2 ^ 32 + t) % 2 ^ 32 ≡ (n + u) % 2 ^ 32
    joined n t u e = omega (arith, e)

pub sum-combined : (x y none opposite new_sum : Linear) → ((values : Values) → linear_value values none ≡ 0)
    → ((values : Values) → linear_value values opposite ≡ word.subtract (linear_value values none) (linear_value values y))
    → ((values : Values) → linear_value values new_sum ≡ word.subtract (linear_value values x) (linear_value values opposite)) → IsCombined op.Add x y new_sum
unfolding word.add word.subtract
sum-combined x y none opposite new_sum e0 eo em values =
    let lx = linear-small values x in
    let ly = linear-small values y in
    let a = linear_value values x in
    let b = linear_value values y in
    let g : (a + (2 ^ 32 - (0 + (2 ^ 32 - b)) % 2 ^ 32)) % 2 ^ 32 ≡ (a + b) % 2 ^ 32 = omega (arith, lx, ly) in
    em values ∙ ap (λ n. (a + (2 ^ 32 - n)) % 2 ^ 32) (eo values ∙ ap (λ n. (n + (2 ^ 32 - b)) % 2 ^ 32) (e0 values)) ∙ g

-- a sum with no terms is its number
number-alone : (new_sum : Linear) (values : Values) → length new_sum.terms ≡ 0
    → linear_value values new_sum ≡ new_sum.number % 2 ^ 32
unfolding linear_value
number-alone new_sum values none =
    ap (λ l. (new_sum.number + sum_of values l) % 2 ^ 32) (empty new_sum.terms none)
    ∙ (let g : new_sum.number + 0 ≡ new_sum.number = omega arith in ap (λ n. n % 2 ^ 32) g)
  where
    empty : (terms : List Term) → length terms ≡ 0 → terms ≡ []
    empty [] e = refl
    empty (first ∷ others) e = absurd (omega (arith, e))

pub second-number : (x y new_sum : Linear) → length y.terms ≡ 0 → IsTimes x y.number new_sum
    → IsCombined op.Multiply x y new_sum
unfolding word.multiply
second-number x y new_sum none is values =
    let a = linear_value values x in
    is values ∙ sym (mul-mod_second a y.number (2 ^ 32)) ∙ ap (λ n. (a * n) % 2 ^ 32) (sym (number-alone y values none))

pub first-number : (x y new_sum : Linear) → length x.terms ≡ 0 → IsTimes y x.number new_sum
    → IsCombined op.Multiply x y new_sum
unfolding word.multiply
first-number x y new_sum none is values =
    let b = linear_value values y in
    is values ∙ ap (λ n. n % 2 ^ 32) (mul_comm b x.number) ∙ sym (mul-mod_first x.number b (2 ^ 32))
    ∙ ap (λ n. (n * b) % 2 ^ 32) (sym (number-alone x values none))
