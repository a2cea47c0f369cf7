-- Forms that stay below an extent, or past it.
use Rattle.std.proofs.Common.{◌≡◌, ℕ, ◌+◌, ◌-◌, ◌*◌, ◌%◌, ◌^◌, ◌<◌, ◌≤◌, List, [], ◌∷◌, length, get_or, take, drop, true, ap, ◌∙◌, sym, subst, arith}
use Rattle.std.proofs.Math.Nat.{mul-add, mul_comm}
use Rattle.loop_ir.specs.declared.expressions.Counter.{Counter}
use Rattle.loop_ir.specs.declared.expressions.Term.{Term}
use Rattle.loop_ir.specs.Counters.{Values, same_counter}
use Rattle.loop_ir.specs.Expressions.{linear_value, sum_of}
use Rattle.task_code_registers.specs.declared.scopes.AffineForm.{AffineForm}
use Rattle.task_code_registers.specs.Scopes.{form_value}
use Rattle.task_code_registers.proofs.Knowing.{others-are}
use Rattle.task_code_registers.proofs.Variables.{same_counter-true}
use Rattle.task_code_loops.specs.declared.bounds.Bound.{Bound}
use Rattle.task_code_loops.specs.Bounds.{AreBelow, IsMost, IsBelow, IsPast}

pub bound-first : (bounds : List Bound) (other : Bound) (counter : Counter) (values : Values) → 1 ≤ length bounds
    → same_counter (get_or bounds 0 other).counter counter ≡ true → AreBelow bounds values → values counter < (get_or bounds 0 other).count
bound-first [] other counter values some is below = absurd (omega (arith, some))
bound-first (first ∷ others) other counter values some is below =
    subst (λ c. values c < first.count) (same_counter-true first.counter counter is) below.0

pub most-none : (bounds : List Bound) (terms : List Term) → length terms < 1 → IsMost bounds terms 0
most-none bounds [] none values below = omega arith
most-none bounds (first ∷ others) none values below = absurd (omega (arith, none))

product-most : (v count stride : ℕ) → v < count → v * stride ≤ stride * (count - 1)
product-most v count stride less =
    let k = count - 1 - v in
    let e : v + k ≡ count - 1 = omega (arith, less) in
    let d : stride * (count - 1) ≡ stride * v + stride * k = ap (λ n. stride * n) (sym e) ∙ mul-add stride v k in
    let c : v * stride ≡ stride * v = mul_comm v stride in
    omega (arith, d, c)

pub most-more : (bounds : List Bound) (terms : List Term) (other : Term) (count rest own : ℕ) → 1 ≤ length terms
    → ((values : Values) → AreBelow bounds values → values (get_or terms 0 other).counter < count)
    → IsMost bounds (take (length terms - 1) (drop 1 terms)) rest → own ≡ (get_or terms 0 other).stride * (count - 1) → IsMost bounds terms (own + rest)
most-more bounds terms other count rest own some less x e values below =
    let first = get_or terms 0 other in
    let p = product-most (values first.counter) count first.stride (less values below) in
    let r = x values below in
    let s : sum_of values terms ≡ values first.counter * first.stride + sum_of values (take (length terms - 1) (drop 1 terms)) =
    ap (sum_of values) (others-are terms other some) in
    omega (arith, p, r, s, e)

pub stays-below : (bounds : List Bound) (form : AffineForm) (terms : List Term) (most extent : ℕ) → form.per_hart ≡ 0 → terms ≡ form.sum.terms
    → IsMost bounds terms most → form.sum.number + most < extent → extent < 2 ^ 32 → IsBelow bounds form extent
unfolding form_value linear_value
stays-below bounds form terms most extent none et x less small hart values below =
    let s = sum_of values form.sum.terms in
    let l : s ≤ most = subst (λ ts. sum_of values ts ≤ most) et (x values below) in
    let g : ((form.sum.number + s) % 2 ^ 32 + hart * 0) % 2 ^ 32 < extent = omega (arith, l, less, small) in
    subst (λ k. ((form.sum.number + s) % 2 ^ 32 + hart * k) % 2 ^ 32 < extent) (sym none) g

pub stays-past : (bounds : List Bound) (form : AffineForm) (terms : List Term) (most extent : ℕ) → form.per_hart ≡ 0 → terms ≡ form.sum.terms
    → IsMost bounds terms most → form.sum.number + most < 2 ^ 32 → extent ≤ form.sum.number → IsPast bounds form extent
unfolding form_value linear_value
stays-past bounds form terms most extent none et x small past hart values below =
    let s = sum_of values form.sum.terms in
    let l : s ≤ most = subst (λ ts. sum_of values ts ≤ most) et (x values below) in
    let g : extent ≤ ((form.sum.number + s) % 2 ^ 32 + hart * 0) % 2 ^ 32 = omega (arith, l, small, past) in
    subst (λ k. extent ≤ ((form.sum.number + s) % 2 ^ 32 + hart * k) % 2 ^ 32) (sym none) g
