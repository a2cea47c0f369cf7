-- When a loop ends.
use Rattle.std.proofs.Common.{◌≡◌, ℕ, suc, ◌+◌, ◌-◌, ◌*◌, ◌%◌, ◌^◌, ◌<◌, ◌≤◌, true, false, refl, ap, ◌∙◌, sym, subst, arith, inl, inr}
use Rattle.std.specs.Prelude.{◌≢◌, ◌⊎◌, ◌==◌, not, nat_lt}
use Rattle.std.proofs.lemmas.Bool.{and_parts, ltb-true, cases_lt}
use Rattle.std.proofs.lemmas.Bool.Decides.{nat_tests}
use Rattle.loop_ir.specs.declared.expressions.Counter.{Counter}
use Rattle.loop_ir.specs.Counters.{Values, with}
use Rattle.loop_ir.specs.Expressions.{sum_of}
use Rattle.task_code_registers.specs.declared.scopes.AffineForm.{AffineForm}
use Rattle.task_code_registers.specs.Scopes.{form_value}
use Rattle.task_code_registers.specs.Strides.{strides, others_of}
use Rattle.task_code_registers.specs.Looping.{LimitsTell}
use Rattle.task_code_registers.proofs.Striding.{linear-with}

differ : (a b : ℕ) → a ≢ b → (a == b) ≡ false
differ a b n = grind (arith, nat_tests, n)

same : (a b : ℕ) → a ≡ b → (a == b) ≡ true
same a b e = grind (arith, nat_tests, e)

lt-true : (a b : ℕ) → a < b → nat_lt a b ≡ true
lt-true a b l = grind (arith, nat_tests)

lt-false : (a b : ℕ) → b ≤ a → nat_lt a b ≡ false
lt-false a b l = grind (arith, nat_tests)

-- numbers that a stride takes less than 2^32 further differ
far-apart : (a p q : ℕ) → p < q → q < 2 ^ 32 → (a + p) % 2 ^ 32 ≢ (a + q) % 2 ^ 32
far-apart a p q less small e = omega (arith, less, small, e)

product-less : (i n s : ℕ) → i < n → 0 < s → i * s < n * s
product-less i n s l z =
    let k : suc i + (n - suc i) ≡ n = omega (arith, l) in
    let e : (suc i + (n - suc i)) * s ≡ suc i * s + (n - suc i) * s = omega arith in
    subst (λ m. i * s < m * s) k (omega (arith, e, z))

-- what a form is besides its strides
abbrev rest : Counter → ℕ → Values → AffineForm → ℕ
rest counter hart values affine_form = affine_form.sum.number + sum_of values (others_of counter affine_form.sum.terms)
    + hart * affine_form.per_hart

form-with : (counter : Counter) (v stride hart : ℕ) (values : Values) (affine_form : AffineForm) → stride ≡ strides counter affine_form.sum.terms % 2 ^ 32
    → form_value hart (with counter v values) affine_form ≡ (rest counter hart values affine_form + v * stride) % 2 ^ 32
unfolding form_value
form-with counter v stride hart values affine_form e =
    let b = affine_form.sum.number + sum_of values (others_of counter affine_form.sum.terms) in
    let h = hart * affine_form.per_hart in
    let p = v * stride in
    let g : ((b + p) % 2 ^ 32 + h) % 2 ^ 32 ≡ (b + h + p) % 2 ^ 32 = omega arith in
    ap (λ n. (n + h) % 2 ^ 32) (linear-with counter v stride values affine_form.sum e) ∙ g

by-cases : (a n i s : ℕ) → i < n → 0 < s → n * s < 2 ^ 32 → (suc i < n) ⊎ (n ≤ suc i)
    → not ((a + suc i * s) % 2 ^ 32 == (a + n * s) % 2 ^ 32) ≡ nat_lt (suc i) n
by-cases a n i s less some small (inl l) =
    ap not (differ ((a + suc i * s) % 2 ^ 32) ((a + n * s) % 2 ^ 32) (far-apart a (suc i * s) (n * s) (product-less (suc i) n s l some) small))
    ∙ sym (lt-true (suc i) n l)
by-cases a n i s less some small (inr h) =
    let e : suc i ≡ n = omega (arith, less, h) in
    ap not (same ((a + suc i * s) % 2 ^ 32) ((a + n * s) % 2 ^ 32) (ap (λ k. (a + k * s) % 2 ^ 32) e)) ∙ sym (lt-false (suc i) n h)

pub limits-tell : LimitsTell
limits-tell counter n i hart values form limit at test less =
    let s = strides counter form.sum.terms % 2 ^ 32 in
    let parts = and_parts (nat_lt 0 s) (nat_lt (n * s) (2 ^ 32)) test in
    let a = rest counter hart values form in
    let x = form-with counter (suc i) s hart values form refl in
    let y = at.value hart (suc i) values ∙ form-with counter n s hart values form refl in
    ap (λ k. not (k == form_value hart (with counter (suc i) values) limit)) x ∙ ap (λ k. not ((a + suc i * s) % 2 ^ 32 == k)) y
    ∙ by-cases a n i s less (ltb-true 0 s parts.0) (ltb-true (n * s) (2 ^ 32) parts.1) (cases_lt (suc i) n)
