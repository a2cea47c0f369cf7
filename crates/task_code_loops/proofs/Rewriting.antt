-- Forms by other loop variables.
use Rattle.std.proofs.Common.{◌≡◌, ℕ, ◌+◌, ◌-◌, ◌*◌, ◌%◌, ◌^◌, ◌≤◌, List, [], ◌∷◌, ◌++◌, length, get_or, take, drop, Bool, true, false}
use Rattle.std.proofs.Common.{◌<◌, refl, ap, ◌∙◌, sym, arith}
use Rattle.std.specs.Prelude.{◌||◌, not, if◌then◌else◌}
use Rattle.std.proofs.lemmas.Bool.{and_parts, true≢false}
use Rattle.std.proofs.lemmas.Nat.{mul-mod_first, mul-mod_second}
use Rattle.std.proofs.Math.Nat.{mul-add, mul_comm, mul_assoc}
use Rattle.halide_pipeline.specs.Words as word
use Rattle.loop_ir.specs.declared.expressions.Counter.{Counter}
use Rattle.loop_ir.specs.declared.expressions.Linear.{Linear}
use Rattle.loop_ir.specs.declared.expressions.Term.{Term}
use Rattle.loop_ir.specs.Counters.{Values, same_counter}
use Rattle.loop_ir.specs.Expressions.{linear_value, sum_of}
use Rattle.task_code_registers.specs.declared.scopes.AffineForm.{AffineForm}
use Rattle.task_code_registers.specs.Points.{times}
use Rattle.task_code_registers.specs.Scopes.{form_value}
use Rattle.task_code_registers.specs.Strides.{has_counter}
use Rattle.task_code_registers.proofs.Knowing.{others-are}
use Rattle.task_code_registers.proofs.Striding.{linear-loop_invariant}
use Rattle.task_code_registers.proofs.Variables.{same_counter-true}
use Rattle.task_code_loops.specs.declared.known.KnownSum.{KnownSum}
use Rattle.task_code_loops.specs.Known.{AreKnown, IsRewritten, IsRewrittenSum, is_fresh, KnownStays, OneMoreIsKnown}
use Rattle.task_code_loops.proofs.Knowledge.{stands-at}

-- ---- what is known of a variable

pub sum-known : (known : List KnownSum) (item other : KnownSum) (counter : Counter) (sum : Linear) → 1 ≤ length known → item ≡ get_or known 0 other
    → same_counter item.counter counter ≡ true → sum ≡ item.sum → (values : Values) → AreKnown known values
    → values counter % 2 ^ 32 ≡ linear_value values sum
sum-known [] item other counter sum some ei is es values are = absurd (omega (arith, some))
sum-known (first ∷ others) item other counter sum some ei is es values are =
    ap (λ c. values c % 2 ^ 32) (sym (same_counter-true item.counter counter is) ∙ ap (λ (k : KnownSum). k.counter) ei) ∙ are.0
    ∙ ap (linear_value values) (ap (λ (k : KnownSum). k.sum) (sym ei) ∙ sym es)

-- ---- sums of terms

sum-append : (values : Values) (a b : List Term) → sum_of values (a ++ b) ≡ sum_of values a + sum_of values b
sum-append values [] b = let g : sum_of values b ≡ 0 + sum_of values b = omega arith in g
sum-append values (first ∷ others) b = let e = sum-append values others b in omega (arith, e)

pub sum-times : (values : Values) (factor : ℕ) (terms : List Term) → sum_of values (times factor terms) % 2 ^ 32 ≡ (sum_of values terms * factor) % 2 ^ 32
unfolding word.multiply
sum-times values factor [] = let g : 0 ≡ 0 * factor = omega arith in ap (λ n. n % 2 ^ 32) g
sum-times values factor (first ∷ others) =
    let v = values first.counter in
    let s = first.stride in
    let r = sum_of values others in
    let t = sum_of values (times factor others) in
    let one : (v * ((s * factor) % 2 ^ 32)) % 2 ^ 32 ≡ ((v * s) * factor) % 2 ^ 32 =
    mul-mod_second v (s * factor) (2 ^ 32) ∙ ap (λ n. n % 2 ^ 32) (sym (mul_assoc v s factor)) in
    let e = sum-times values factor others in
    let d : (v * s + r) * factor ≡ (v * s) * factor + r * factor =
    mul_comm (v * s + r) factor ∙ mul-add factor (v * s) r ∙ ap (λ n. n + factor * r) (mul_comm factor (v * s))
    ∙ ap (λ n. (v * s) * factor + n) (mul_comm factor r) in
    sum-mod (v * ((s * factor) % 2 ^ 32)) ((v * s) * factor) t (r * factor) one e ∙ ap (λ n. n % 2 ^ 32) (sym d)
  where
    sum-mod : (a a' c c' : ℕ) → a % 2 ^ 32 ≡ a' % 2 ^ 32 → c % 2 ^ 32 ≡ c' % 2 ^ 32 → (a + c) % 2 ^ 32 ≡ (a' + c') % 2 ^ 32
    sum-mod a a' c c' e g = omega (arith, e, g)

-- ---- one term

pub known-term : (values : Values) (old new sum : Linear) (v stride more : ℕ) → new.terms ≡ old.terms ++ times stride sum.terms
    → more ≡ word.multiply stride sum.number → new.number ≡ word.add old.number more → v % 2 ^ 32 ≡ linear_value values sum
    → linear_value values new ≡ (linear_value values old + v * stride) % 2 ^ 32
unfolding linear_value word.add word.multiply
known-term values old new sum v stride more et em en ev =
    let a = sum_of values old.terms in
    let s = sum_of values sum.terms in
    let t = sum_of values (times stride sum.terms) in
    let p = stride * sum.number in
    let q = s * stride in
    let z = v * stride in
    let e1 = sum-times values stride sum.terms in
    let e2 : z % 2 ^ 32 ≡ ((sum.number + s) * stride) % 2 ^ 32 =
    sym (mul-mod_first v stride (2 ^ 32)) ∙ ap (λ n. (n * stride) % 2 ^ 32) ev ∙ mul-mod_first (sum.number + s) stride (2 ^ 32) in
    let e3 : (sum.number + s) * stride ≡ p + q =
    mul_comm (sum.number + s) stride ∙ mul-add stride sum.number s ∙ ap (λ n. p + n) (mul_comm stride s) in
    let e4 : z % 2 ^ 32 ≡ (p + q) % 2 ^ 32 = e2 ∙ ap (λ n. n % 2 ^ 32) e3 in
    ap (λ n. (n + sum_of values new.terms) % 2 ^ 32) (en ∙ ap (λ n. (old.number + n) % 2 ^ 32) em)
    ∙ ap (λ ts. ((old.number + p % 2 ^ 32) % 2 ^ 32 + sum_of values ts) % 2 ^ 32) et
    ∙ ap (λ n. ((old.number + p % 2 ^ 32) % 2 ^ 32 + n) % 2 ^ 32) (sum-append values old.terms (times stride sum.terms))
    ∙ regroup old.number a p q t z e1 e4
  where
    regroup : (n a p q t z : ℕ) → t % 2 ^ 32 ≡ q % 2 ^ 32 → z % 2 ^ 32 ≡ (p + q) % 2 ^ 32
        → ((n + p % 2 ^ 32) % 2 ^ 32 + (a + t)) % 2 ^ 32 ≡ ((n + a) % 2 ^ 32 + z) % 2 ^ 32
    regroup n a p q t z e g = omega (arith, e, g)

pub other-term : (values : Values) (old new : Linear) (term : Term) → new.terms ≡ old.terms ++ (term ∷ []) → new.number ≡ old.number
    → linear_value values new ≡ (linear_value values old + values term.counter * term.stride) % 2 ^ 32
unfolding linear_value
other-term values old new term et en =
    let a = sum_of values old.terms in
    let z = values term.counter * term.stride in
    let g : (old.number + (a + (z + 0))) % 2 ^ 32 ≡ ((old.number + a) % 2 ^ 32 + z) % 2 ^ 32 = omega arith in
    ap (λ n. (n + sum_of values new.terms) % 2 ^ 32) en ∙ ap (λ ts. (old.number + sum_of values ts) % 2 ^ 32) et
    ∙ ap (λ n. (old.number + n) % 2 ^ 32) (sum-append values old.terms (term ∷ [])) ∙ g

-- ---- all of them

pub no-terms : (values : Values) (new_sum : Linear) (terms : List Term) → length terms < 1
    → linear_value values new_sum ≡ (linear_value values new_sum + sum_of values terms) % 2 ^ 32
unfolding linear_value
no-terms values new_sum [] none = let n = new_sum.number + sum_of values new_sum.terms in let g : n % 2 ^ 32 ≡ (n % 2 ^ 32 + 0) % 2 ^ 32 = omega arith in g
no-terms values new_sum (first ∷ others) none = absurd (omega (arith, none))

pub more-terms : (values : Values) (old middle new : Linear) (terms : List Term) (first other : Term) → 1 ≤ length terms → first ≡ get_or terms 0 other
    → linear_value values middle ≡ (linear_value values old + values first.counter * first.stride) % 2 ^ 32
    → linear_value values new ≡ (linear_value values middle + sum_of values (take (length terms - 1) (drop 1 terms))) % 2 ^ 32
    → linear_value values new ≡ (linear_value values old + sum_of values terms) % 2 ^ 32
more-terms values old middle new terms first other some is x y =
    let rest = take (length terms - 1) (drop 1 terms) in
    let a = linear_value values old in
    let z = values first.counter * first.stride in
    let r = sum_of values rest in
    let g : ((a + z) % 2 ^ 32 + r) % 2 ^ 32 ≡ (a + (z + r)) % 2 ^ 32 = omega arith in
    y ∙ ap (λ n. (n + r) % 2 ^ 32) x ∙ g
    ∙ ap (λ ts. (a + sum_of values ts) % 2 ^ 32) (ap (λ t. t ∷ rest) is ∙ sym (others-are terms other some))

pub sum-rewritten : (known : List KnownSum) (new_sum made start : Linear) → start.number ≡ new_sum.number
    → start.terms ≡ []
    → ((values : Values) → AreKnown known values → linear_value values made ≡ (linear_value values start + sum_of values new_sum.terms) % 2 ^ 32)
    → IsRewrittenSum known new_sum made
unfolding linear_value
sum-rewritten known new_sum made start en et go values are =
    let n = new_sum.number in
    let s = sum_of values new_sum.terms in
    let g : ((n + 0) % 2 ^ 32 + s) % 2 ^ 32 ≡ (n + s) % 2 ^ 32 = omega arith in
    go values are ∙ ap (λ k. ((k + sum_of values start.terms) % 2 ^ 32 + s) % 2 ^ 32) en
    ∙ ap (λ ts. ((n + sum_of values ts) % 2 ^ 32 + s) % 2 ^ 32) et ∙ g

pub form-rewritten : (known : List KnownSum) (form affine_form : AffineForm) → affine_form.per_hart ≡ form.per_hart → IsRewrittenSum known form.sum affine_form.sum
    → IsRewritten known form affine_form
unfolding form_value
form-rewritten known form affine_form eh same hart values are =
    ap (λ k. (linear_value values affine_form.sum + hart * k) % 2 ^ 32) eh ∙ ap (λ k. (k + hart * form.per_hart) % 2 ^ 32) (same values are)

-- ---- what stays known

or-parts : (a b : Bool) → not (a || b) ≡ true → (a ≡ false) × (b ≡ false)
or-parts true b e = absurd (true≢false (sym e))
or-parts false true e = absurd (true≢false (sym e))
or-parts false false e = (refl, refl)

pub known-stays : KnownStays
known-stays counter v [] values fresh are = tt
known-stays counter v (own ∷ others) values fresh are =
    let each = and_parts (not (same_counter own.counter counter || has_counter counter own.sum.terms)) (is_fresh counter others) fresh in
    let apart = or-parts (same_counter own.counter counter) (has_counter counter own.sum.terms) each.0 in (
      ap (λ t. (if t then v else values own.counter) % 2 ^ 32) apart.0 ∙ are.0 ∙ sym (linear-loop_invariant counter v values own.sum apart.1),
      known-stays counter v others values each.1 are.1,
    )

pub one-more-is-known : OneMoreIsKnown
one-more-is-known counter v sum known values fresh none e are =
    (ap (λ n. n % 2 ^ 32) (stands-at counter v values) ∙ e ∙ sym (linear-loop_invariant counter v values sum none), known-stays counter v known values fresh are)
