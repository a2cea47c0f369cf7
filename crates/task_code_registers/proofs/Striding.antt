-- How forms go along with one of their loop variables.
use Rattle.std.proofs.Common.{◌≡◌, ℕ, suc, ◌+◌, ◌-◌, ◌*◌, ◌%◌, ◌^◌, ◌≤◌, List, [], ◌∷◌, length, get_or, take, drop, Bool, true}
use Rattle.std.proofs.Common.{false, refl, ap, ◌∙◌, sym, arith}
use Rattle.std.specs.Prelude.{if◌then◌else◌}
use Rattle.std.proofs.lemmas.Nat.{mul-mod_second}
use Rattle.std.proofs.lemmas.Bool.{true≢false}
use Rattle.std.proofs.Math.Nat.{mod-add-mod, add-mod-mod, mul-add}
use Rattle.halide_pipeline.specs.Words as word
use Rattle.loop_ir.specs.declared.expressions.Counter.{Counter}
use Rattle.loop_ir.specs.declared.expressions.Linear.{Linear}
use Rattle.loop_ir.specs.declared.expressions.Term.{Term}
use Rattle.loop_ir.specs.Counters.{same_counter, Values, with}
use Rattle.loop_ir.specs.Expressions.{linear_value, sum_of}
use Rattle.task_code_registers.specs.Scopes.{form_value}
use Rattle.task_code_registers.specs.Strides.{strides, others_of, has_counter}
use Rattle.task_code_registers.specs.Holding.{IsAt}
use Rattle.task_code_registers.specs.declared.scopes.AffineForm.{AffineForm}
use Rattle.task_code_registers.proofs.Knowing.{others-are}

-- a sum where the variable is at a number
pub sum-with : (counter : Counter) (v : ℕ) (values : Values) (terms : List Term)
    → sum_of (with counter v values) terms ≡ v * strides counter terms + sum_of values (others_of counter terms)
sum-with counter v values [] = let e : 0 ≡ v * 0 + 0 = omega arith in e
sum-with counter v values (first ∷ others) = by-test (same_counter first.counter counter) (sum-with counter v values others)
  where
    by-test : (t : Bool) → sum_of (with counter v values) others ≡ v * strides counter others + sum_of values (others_of counter others)
        → (if t then v else values first.counter) * first.stride + sum_of (with counter v values) others
        ≡ v * (if t then first.stride + strides counter others else strides counter others) + sum_of values
        (if t then others_of counter others else first ∷ others_of counter others)
    by-test true e = let p : v * (first.stride + strides counter others) ≡ v * first.stride + v * strides counter others =
        mul-add v first.stride (strides counter others) in omega (arith, e, p)
    by-test false e = omega (arith, e)

-- what is left has no term of it
pub strides-others : (counter : Counter) (terms : List Term) → strides counter (others_of counter terms) ≡ 0
strides-others counter [] = refl
strides-others counter (first ∷ others) = by-test (same_counter first.counter counter) refl (strides-others counter others)
  where
    by-test : (t : Bool) → same_counter first.counter counter ≡ t → strides counter (others_of counter others) ≡ 0
        → strides counter (if t then others_of counter others else first ∷ others_of counter others) ≡ 0
    by-test true s e = e
    by-test false s e = ap (λ b. if b then first.stride + strides counter (others_of counter others) else strides counter (others_of counter others)) s ∙ e

pub others-others : (counter : Counter) (terms : List Term) → others_of counter (others_of counter terms) ≡ others_of counter terms
others-others counter [] = refl
others-others counter (first ∷ others) = by-test (same_counter first.counter counter) refl (others-others counter others)
  where
    by-test : (t : Bool) → same_counter first.counter counter ≡ t → others_of counter (others_of counter others) ≡ others_of counter others
        → others_of counter (if t then others_of counter others else first ∷ others_of counter others) ≡
        (if t then others_of counter others else first ∷ others_of counter others)
    by-test true s e = e
    by-test false s e = ap (λ b. if b then others_of counter (others_of counter others) else first ∷ others_of counter (others_of counter others)) s
        ∙ ap (λ ts. first ∷ ts) e

-- where there is no term of it, it doesn't count
pub sum-loop_invariant : (counter : Counter) (v : ℕ) (values : Values) (terms : List Term)
    → has_counter counter terms ≡ false
    → sum_of (with counter v values) terms ≡ sum_of values terms
sum-loop_invariant counter v values [] e = refl
sum-loop_invariant counter v values (first ∷ others) e = by-test (same_counter first.counter counter) e (sum-loop_invariant counter v values others)
  where
    by-test : (t : Bool) → (if t then true else has_counter counter others) ≡ false
        → (has_counter counter others ≡ false → sum_of (with counter v values) others ≡ sum_of values others)
        → (if t then v else values first.counter) * first.stride + sum_of
        (with counter v values) others ≡ values first.counter * first.stride + sum_of values others
    by-test true h g = absurd (true≢false h)
    by-test false h g = ap (λ s. values first.counter * first.stride + s) (g h)

pub linear-loop_invariant : (counter : Counter) (v : ℕ) (values : Values) (own : Linear)
    → has_counter counter own.terms ≡ false
    → linear_value (with counter v values) own ≡ linear_value values own
unfolding linear_value
linear-loop_invariant counter v values own e = ap (λ s. (own.number + s) % 2 ^ 32)
    (sum-loop_invariant counter v values own.terms e)

-- by iterations
pub regrouped : (number v s rest : ℕ) → (number + (v * s + rest)) % 2 ^ 32 ≡ ((number + rest) + v * (s % 2 ^ 32)) % 2 ^ 32
regrouped number v s rest =
    let e : number + (v * s + rest) ≡ (number + rest) + v * s = omega arith in
    ap (λ n. n % 2 ^ 32) e ∙ sym (add-mod-mod (number + rest) (v * s) (2 ^ 32))
    ∙ ap (λ n. ((number + rest) + n) % 2 ^ 32) (sym (mul-mod_second v s (2 ^ 32))) ∙ add-mod-mod (number + rest) (v * (s % 2 ^ 32)) (2 ^ 32)

pub linear-with : (counter : Counter) (v stride : ℕ) (values : Values) (new_sum : Linear) → stride ≡ strides counter new_sum.terms % 2 ^ 32
    → linear_value (with counter v values) new_sum ≡ ((new_sum.number + sum_of values (others_of counter new_sum.terms)) + v * stride) % 2 ^ 32
unfolding linear_value
linear-with counter v stride values new_sum e =
    ap (λ s. (new_sum.number + s) % 2 ^ 32) (sum-with counter v values new_sum.terms)
    ∙ regrouped new_sum.number v (strides counter new_sum.terms) (sum_of values (others_of counter new_sum.terms))
    ∙ ap (λ s. ((new_sum.number + sum_of values (others_of counter new_sum.terms)) + v * s) % 2 ^ 32) (sym e)

-- one iteration further
pub linear-next : (counter : Counter) (i stride : ℕ) (values : Values) (new_sum : Linear) → stride ≡ strides counter new_sum.terms % 2 ^ 32
    → (linear_value (with counter i values) new_sum + stride) % 2 ^ 32 ≡ linear_value (with counter (suc i) values)
    new_sum
linear-next counter i stride values new_sum e =
    let a = new_sum.number + sum_of values (others_of counter new_sum.terms) in
    let g : (a + i * stride) + stride ≡ a + suc i * stride = omega arith in
    ap (λ n. (n + stride) % 2 ^ 32) (linear-with counter i stride values new_sum e) ∙ mod-add-mod (a + i * stride) (2 ^ 32) stride ∙ ap (λ n. n % 2 ^ 32) g
    ∙ sym (linear-with counter (suc i) stride values new_sum e)

-- where the variable is at a number, once and for all
pub linear-at : (counter : Counter) (v value stride : ℕ) (values : Values) (new_sum made : Linear) → stride ≡ strides counter new_sum.terms % 2 ^ 32
    → made.terms ≡ others_of counter new_sum.terms
    → made.number ≡ word.add new_sum.number (word.multiply stride value) → linear_value (with counter v values) made ≡ linear_value (with counter value values) new_sum
unfolding linear_value word.add word.multiply
linear-at counter v value stride values new_sum made es et en =
    let rest = sum_of values (others_of counter new_sum.terms) in
    let z : v * 0 + rest ≡ rest = omega arith in
    let sum : sum_of (with counter v values) made.terms ≡ rest =
    ap (sum_of (with counter v values)) et ∙ sum-with counter v values (others_of counter new_sum.terms)
    ∙ ap (λ s. v * s + sum_of values (others_of counter (others_of counter new_sum.terms))) (strides-others counter new_sum.terms)
    ∙ ap (λ ts. v * 0 + sum_of values ts) (others-others counter new_sum.terms) ∙ z in
    let iteration : stride * value ≡ value * stride = omega arith in
    let swap : (new_sum.number + value * stride) + rest ≡ (new_sum.number + rest) + value * stride = omega arith in
    ap (λ s. (made.number + s) % 2 ^ 32) sum ∙ ap (λ n. (n + rest) % 2 ^ 32) en ∙ mod-add-mod (new_sum.number + (stride * value) % 2 ^ 32) (2 ^ 32) rest
    ∙ sym (mod-add-mod (new_sum.number + (stride * value) % 2 ^ 32) (2 ^ 32) rest)
    ∙ ap (λ n. (n + rest) % 2 ^ 32) (add-mod-mod new_sum.number (stride * value) (2 ^ 32)) ∙ mod-add-mod (new_sum.number + stride * value) (2 ^ 32) rest
    ∙ ap (λ p. ((new_sum.number + p) + rest) % 2 ^ 32) iteration ∙ ap (λ n. n % 2 ^ 32) swap ∙ sym (linear-with counter value stride values new_sum es)

-- ---- forms

pub form-loop_invariant : (counter : Counter) (v hart : ℕ) (values : Values) (own : AffineForm) → has_counter counter own.sum.terms ≡ false
    → form_value hart (with counter v values) own ≡ form_value hart values own
unfolding form_value
form-loop_invariant counter v hart values own e = ap (λ n. (n + hart * own.per_hart) % 2 ^ 32) (linear-loop_invariant counter v values own.sum e)

pub form-next : (counter : Counter) (i stride hart : ℕ) (values : Values) (affine_form : AffineForm) → stride ≡ strides counter affine_form.sum.terms % 2 ^ 32
    → (form_value hart (with counter i values) affine_form + stride) % 2 ^ 32 ≡ form_value hart (with counter (suc i) values) affine_form
unfolding form_value
form-next counter i stride hart values affine_form e =
    let h = hart * affine_form.per_hart in
    let a = linear_value (with counter i values) affine_form.sum in
    let g : ((a + h) % 2 ^ 32 + stride) % 2 ^ 32 ≡ ((a + stride) % 2 ^ 32 + h) % 2 ^ 32 = omega arith in
    g ∙ ap (λ n. (n + h) % 2 ^ 32) (linear-next counter i stride values affine_form.sum e)

pub form-at : (counter : Counter) (value stride : ℕ) (affine_form new_form : AffineForm) → stride ≡ strides counter affine_form.sum.terms % 2 ^ 32
    → new_form.sum.terms ≡ others_of counter affine_form.sum.terms
    → new_form.sum.number ≡ word.add affine_form.sum.number (word.multiply stride value) → new_form.per_hart ≡ affine_form.per_hart → IsAt counter value affine_form new_form
unfolding form_value
form-at counter value stride affine_form new_form es et en eh = record {
  terms = et;
  per_hart = eh;
  value = λ hart v values.
      ap (λ k. (linear_value (with counter v values) new_form.sum + hart * k) % 2 ^ 32) eh
      ∙ ap (λ n. (n + hart * affine_form.per_hart) % 2 ^ 32) (linear-at counter v value stride values affine_form.sum new_form.sum es et en);
}

pub others-fewer : (counter : Counter) (terms : List Term) → length (others_of counter terms) ≤ length terms
others-fewer counter [] = let z : 0 ≤ 0 = omega arith in z
others-fewer counter (first ∷ others) = by-test (same_counter first.counter counter) (others-fewer counter others)
  where
    by-test : (t : Bool) → length (others_of counter others) ≤ length others
        → length (if t then others_of counter others else first ∷ others_of counter others) ≤ suc (length others)
    by-test true l = omega (arith, l)
    by-test false l = omega (arith, l)

-- without a term of it, its strides are 0
pub strides-none : (counter : Counter) (terms : List Term) → has_counter counter terms ≡ false → strides counter terms ≡ 0
strides-none counter [] e = refl
strides-none counter (first ∷ others) e = by-test (same_counter first.counter counter) e (strides-none counter others)
  where
    by-test : (t : Bool) → (if t then true else has_counter counter others) ≡ false → (has_counter counter others ≡ false → strides counter others ≡ 0)
        → (if t then first.stride + strides counter others else strides counter others) ≡ 0
    by-test true h g = absurd (true≢false h)
    by-test false h g = g h

-- ---- lists from the front

pub stride-more : (counter : Counter) (terms : List Term) (other : Term) (same_is : Bool) (rest sum : ℕ) → 1 ≤ length terms
    → same_is ≡ same_counter (get_or terms 0 other).counter counter → same_is ≡ true
    → rest ≡ strides counter (take (length terms - 1) (drop 1 terms)) % 2 ^ 32 → sum ≡ word.add (get_or terms 0 other).stride rest
    → sum ≡ strides counter terms % 2 ^ 32
unfolding word.add
stride-more counter terms other same_is rest sum some es et er e =
    let first = get_or terms 0 other in
    let others = take (length terms - 1) (drop 1 terms) in
    let whole : strides counter terms ≡ first.stride + strides counter others =
    ap (strides counter) (others-are terms other some) ∙ ap (λ t. if t then first.stride + strides counter others else strides counter others) (sym es ∙ et) in
    e ∙ ap (λ k. (first.stride + k) % 2 ^ 32) er ∙ add-mod-mod first.stride (strides counter others) (2 ^ 32) ∙ ap (λ k. k % 2 ^ 32) (sym whole)
