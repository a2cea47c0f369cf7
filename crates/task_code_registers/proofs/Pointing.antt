-- Addresses of points as forms.
use Rattle.std.proofs.Common.{◌≡◌, ℕ, suc, ◌+◌, ◌*◌, ◌%◌, ◌^◌, List, [], ◌∷◌, ◌++◌, length, Bool, true, false, refl, ap, ◌∙◌, sym, arith}
use Rattle.std.proofs.Common.{length-append}
use Rattle.std.specs.Prelude.{◌==◌, ◌&&◌, ◌||◌}
use Rattle.std.proofs.lemmas.Bool.{and_parts, eqb-true}
use Rattle.std.proofs.lemmas.Nat.{mul-mod_second, mul-mod}
use Rattle.std.proofs.Math.Nat.{mod-add-mod, add-mod-mod, mul-add, mul_comm, mul_assoc}
use Rattle.halide_pipeline.specs.Words as word
use Rattle.loop_ir.specs.declared.expressions.Linear.{Linear}
use Rattle.loop_ir.specs.declared.expressions.Term.{Term}
use Rattle.loop_ir.specs.Counters.{Values}
use Rattle.loop_ir.specs.Expressions.{linear_value, sum_of}
use Rattle.task_code_scalar.specs.declared.layouts.BufferLayout.{BufferLayout}
use Rattle.task_code_scalar.specs.Code.{pixel_bytes}
use Rattle.task_code_registers.specs.declared.scopes.AffineForm.{AffineForm}
use Rattle.task_code_registers.specs.declared.scopes.Held.{Held}
use Rattle.task_code_registers.specs.Scopes.{form_value, has_variable, have_registers}
use Rattle.task_code_registers.specs.Points.{times, IsPoint}

-- ---- congruences

-- both summands may be replaced
both-sums : (a a' c c' : ℕ) → a % 2 ^ 32 ≡ a' % 2 ^ 32 → c % 2 ^ 32 ≡ c' % 2 ^ 32 → (a + c) % 2 ^ 32 ≡ (a' + c') % 2 ^ 32
both-sums a a' c c' e g =
    sym (mod-add-mod a (2 ^ 32) c) ∙ ap (λ n. (n + c) % 2 ^ 32) e ∙ mod-add-mod a' (2 ^ 32) c
    ∙ sym (add-mod-mod a' c (2 ^ 32)) ∙ ap (λ n. (a' + n) % 2 ^ 32) g ∙ add-mod-mod a' c' (2 ^ 32)

-- and both factors
both-products : (a a' c c' : ℕ) → a % 2 ^ 32 ≡ a' % 2 ^ 32 → c % 2 ^ 32 ≡ c' % 2 ^ 32 → (a * c) % 2 ^ 32 ≡ (a' * c') % 2 ^ 32
both-products a a' c c' e g =
    mul-mod a c (2 ^ 32) ∙ ap (λ n. (n * (c % 2 ^ 32)) % 2 ^ 32) e ∙ ap (λ n. ((a' % 2 ^ 32) * n) % 2 ^ 32) g ∙ sym (mul-mod a' c' (2 ^ 32))

twice : (a : ℕ) → a % 2 ^ 32 % 2 ^ 32 ≡ a % 2 ^ 32
twice a = omega arith

-- ---- terms times a number

sum-append : (values : Values) (a b : List Term) → sum_of values (a ++ b) ≡ sum_of values a + sum_of values b
sum-append values [] b = let g : sum_of values b ≡ 0 + sum_of values b = omega arith in g
sum-append values (first ∷ others) b = let e = sum-append values others b in omega (arith, e)

sum-times : (values : Values) (factor : ℕ) (terms : List Term) → sum_of values (times factor terms) % 2 ^ 32 ≡ (sum_of values terms * factor) % 2 ^ 32
unfolding word.multiply
sum-times values factor [] = let g : 0 ≡ 0 * factor = omega arith in ap (λ n. n % 2 ^ 32) g
sum-times values factor (first ∷ others) =
    let v = values first.counter in
    let s = first.stride in
    let r = sum_of values others in
    let one : (v * ((s * factor) % 2 ^ 32)) % 2 ^ 32 ≡ ((v * s) * factor) % 2 ^ 32 =
    mul-mod_second v (s * factor) (2 ^ 32) ∙ ap (λ n. n % 2 ^ 32) (sym (mul_assoc v s factor)) in
    let d : (v * s) * factor + r * factor ≡ (v * s + r) * factor =
    ap (λ n. n + r * factor) (mul_comm (v * s) factor) ∙ ap (λ n. factor * (v * s) + n) (mul_comm r factor) ∙ sym (mul-add factor (v * s) r)
    ∙ mul_comm factor (v * s + r) in
    both-sums (v * ((s * factor) % 2 ^ 32)) ((v * s) * factor) (sum_of values (times factor others)) (r * factor) one (sum-times values factor others)
    ∙ ap (λ n. n % 2 ^ 32) d

length-times : (factor : ℕ) (terms : List Term) → length (times factor terms) ≡ length terms
length-times factor [] = refl
length-times factor (first ∷ others) = ap (λ n. suc n) (length-times factor others)

have-append : (scope : List Held) (a b : List Term) → have_registers scope a ≡ true → have_registers scope b ≡ true → have_registers scope (a ++ b) ≡ true
have-append scope [] b x y = y
have-append scope (first ∷ others) b x y =
    let each = and_parts (first.stride == 0 || has_variable scope first.counter) (have_registers scope others) x in
    ap (λ t. t && have_registers scope (others ++ b)) each.0 ∙ have-append scope others b each.1 y

have-times : (scope : List Held) (factor : ℕ) (terms : List Term) → have_registers scope terms ≡ true → have_registers scope (times factor terms) ≡ true
unfolding word.multiply
have-times scope factor [] x = refl
have-times scope factor (first ∷ others) x =
    let each = and_parts (first.stride == 0 || has_variable scope first.counter) (have_registers scope others) x in
    ap (λ t. t && have_registers scope (times factor others)) (by-test (first.stride == 0) refl each.0) ∙ have-times scope factor others each.1
  where
    product : first.stride ≡ 0 → ((first.stride * factor) % 2 ^ 32 == 0) ≡ true
    product z =
        let g : (0 * factor) % 2 ^ 32 ≡ 0 = omega arith in
        ap (λ n. n == 0) (ap (λ n. (n * factor) % 2 ^ 32) z ∙ g)

    or-true : (a b : Bool) → b ≡ true → (a || b) ≡ true
    or-true true b e = refl
    or-true false b e = e

    by-test : (t : Bool) → (first.stride == 0) ≡ t → (t || has_variable scope first.counter) ≡ true
        → (((first.stride * factor) % 2 ^ 32 == 0) || has_variable scope first.counter) ≡ true
    by-test true e h = ap (λ a. a || has_variable scope first.counter) (product (eqb-true first.stride 0 e))
    by-test false e h = or-true ((first.stride * factor) % 2 ^ 32 == 0) (has_variable scope first.counter) h

-- ---- points

spread-out : (b w x y : ℕ) → y * (b * w) + x * b ≡ b * (y * w + x)
spread-out b w x y =
    let one : y * (b * w) ≡ b * (y * w) = sym (mul_assoc y b w) ∙ ap (λ k. k * w) (mul_comm y b) ∙ mul_assoc b y w in
    let two : x * b ≡ b * x = mul_comm x b in
    ap (λ k. k + x * b) one ∙ ap (λ k. b * (y * w) + k) two ∙ sym (mul-add b (y * w) x)

-- numbers and terms, each by rows and columns
regrouped : (start a b sa sb : ℕ) → (start + (a + b)) + (sa + sb) ≡ start + ((a + sa) + (b + sb))
regrouped start a b sa sb = omega arith

over : (a c k : ℕ) → a * k + c * k ≡ (a + c) * k
over a c k = sym (mul_comm (a + c) k ∙ mul-add k a c ∙ ap (λ n. n + k * c) (mul_comm k a) ∙ ap (λ n. a * k + n) (mul_comm k c))

module _ (start w bytes xn yn sx sy row rows columns far number sum : ℕ) (er : row ≡ word.multiply bytes w) (e1 : rows ≡ word.multiply yn row)
    (e2 : columns ≡ word.multiply xn bytes)
    (e3 : far ≡ word.add rows columns) (e4 : number ≡ word.add start far) (es : sum % 2 ^ 32 ≡ (sy * row + sx * bytes) % 2 ^ 32) where
  abbrev xx : ℕ
  xx = xn + sx

  abbrev yy : ℕ
  yy = yn + sy

  numbers : number % 2 ^ 32 ≡ (start + (yn * row + xn * bytes)) % 2 ^ 32
  unfolding word.add word.multiply
  numbers =
      ap (λ k. k % 2 ^ 32) e4 ∙ twice (start + far)
      ∙ both-sums start start far (yn * row + xn * bytes) refl
      (
      ap (λ k. k % 2 ^ 32) e3 ∙ twice (rows + columns)
      ∙ both-sums rows (yn * row) columns (xn * bytes) (ap (λ k. k % 2 ^ 32) e1 ∙ twice (yn * row)) (ap (λ k. k % 2 ^ 32) e2 ∙ twice (xn * bytes))
      )

  together : (start + (yn * row + xn * bytes)) + (sy * row + sx * bytes) ≡ start + (yy * row + xx * bytes)
  together =
      regrouped start (yn * row) (xn * bytes) (sy * row) (sx * bytes) ∙ ap (λ k. start + (k + (xn * bytes + sx * bytes))) (over yn sy row)
      ∙ ap (λ k. start + (yy * row + k)) (over xn sx bytes)

  row-is : row % 2 ^ 32 ≡ (bytes * w) % 2 ^ 32
  unfolding word.multiply
  row-is = ap (λ k. k % 2 ^ 32) er ∙ twice (bytes * w)

  spread : (number + sum) % 2 ^ 32 ≡ (start + bytes * ((yy % 2 ^ 32) * w + xx % 2 ^ 32)) % 2 ^ 32
  spread =
      let xv = xx % 2 ^ 32 in
      let yv = yy % 2 ^ 32 in
      let in-row : (yy * row) % 2 ^ 32 ≡ (yv * (bytes * w)) % 2 ^ 32 = both-products yy yv row (bytes * w) (sym (twice yy)) row-is in
      let in-column : (xx * bytes) % 2 ^ 32 ≡ (xv * bytes) % 2 ^ 32 = both-products xx xv bytes bytes (sym (twice xx)) refl in
      both-sums number (start + (yn * row + xn * bytes)) sum (sy * row + sx * bytes) numbers es
      ∙ ap (λ k. k % 2 ^ 32) together
      ∙ both-sums start start (yy * row + xx * bytes) (yv * (bytes * w) + xv * bytes) refl
      (both-sums (yy * row) (yv * (bytes * w)) (xx * bytes) (xv * bytes) in-row in-column)
      ∙ ap (λ k. (start + k) % 2 ^ 32) (spread-out bytes w xv yv)

-- with the distance of the hart's copy
moved : (a s b d h : ℕ) → a % 2 ^ 32 ≡ (s + b) % 2 ^ 32 → (a % 2 ^ 32 + h * d) % 2 ^ 32 ≡ (s + d * h + b) % 2 ^ 32
moved a s b d h e =
    let p : h * d ≡ d * h = mul_comm h d in
    let g : (s + b) + d * h ≡ s + d * h + b = omega arith in
    mod-add-mod a (2 ^ 32) (h * d) ∙ ap (λ k. (a + k) % 2 ^ 32) p ∙ both-sums a (s + b) (d * h) (d * h) e refl ∙ ap (λ k. k % 2 ^ 32) g

pub point-is : (layout : BufferLayout) (x y : Linear) (form : AffineForm) (bytes row rows columns far : ℕ) → bytes ≡ pixel_bytes layout.pixels
    → row ≡ word.multiply bytes layout.width
    → form.sum.terms ≡ times row y.terms ++ times bytes x.terms → rows ≡ word.multiply y.number row → columns ≡ word.multiply x.number bytes
    → far ≡ word.add rows columns
    → form.sum.number ≡ word.add layout.start far → form.per_hart ≡ layout.distance → IsPoint layout x y form
unfolding form_value linear_value
point-is layout x y form bytes row rows columns far eb er et e1 e2 e3 e4 eh = record {
  value = λ hart values.
      let sx = sum_of values x.terms in
      let sy = sum_of values y.terms in
      let xv = (x.number + sx) % 2 ^ 32 in
      let yv = (y.number + sy) % 2 ^ 32 in
      let sum = sum_of values form.sum.terms in
      let es : sum % 2 ^ 32 ≡ (sy * row + sx * bytes) % 2 ^ 32 =
      ap (λ ts. sum_of values ts % 2 ^ 32) et ∙ ap (λ n. n % 2 ^ 32) (sum-append values (times row y.terms) (times bytes x.terms))
      ∙ both-sums (sum_of values (times row y.terms)) (sy * row) (sum_of values (times bytes x.terms)) (sx * bytes) (sum-times values row y.terms)
      (sum-times values bytes x.terms) in
      ap (λ d. ((form.sum.number + sum) % 2 ^ 32 + hart * d) % 2 ^ 32) eh
      ∙ moved (form.sum.number + sum) layout.start (bytes * (yv * layout.width + xv)) layout.distance hart
      (spread layout.start layout.width bytes x.number y.number sx sy row rows columns far form.sum.number sum er e1 e2 e3 e4 es)
      ∙ ap (λ b. (layout.start + layout.distance * hart + b * (yv * layout.width + xv)) % 2 ^ 32) eb;
  few =
      let n = ap length et ∙ length-append (times row y.terms) (times bytes x.terms) in
      let a = length-times row y.terms in
      let b = length-times bytes x.terms in
      omega (arith, n, a, b);
  have = λ scope hx hy.
      ap (have_registers scope) et ∙ have-append scope (times row y.terms) (times bytes x.terms) (have-times scope row y.terms hy)
      (have-times scope bytes x.terms hx);
}
