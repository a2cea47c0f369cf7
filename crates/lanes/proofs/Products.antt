-- Words of a width as numbers modulo a power of two, and what quotients and remainders give.
use Rattle.std.proofs.Common.{◌≡◌, ℕ, suc, ◌+◌, ◌-◌, ◌*◌, ◌/◌, ◌%◌, ◌^◌, ◌==◌, ◌<◌, if◌then◌else◌, refl, sym, ◌∙◌, ap, subst, arith, inl, inr, ℤ, pos, negsuc}
use Rattle.std.proofs.Common.{◌+ℤ◌, ◌*ℤ◌, to_z, of_z}
use Rattle.std.specs.Int.{Width, w8, w16, w32, int_wrap, int_shr}
use Rattle.std.specs.Int.RustNames.{int_div, int_rem}
use Rattle.std.proofs.Math.Nat.{mod-lt, mod-eq_of_lt, zero-mod, mul-zero, zero-add, div-mul-le_self}
use Rattle.std.proofs.Math.Facts.{sfits_to_z}
use Rattle.std.proofs.lemmas.Bool.{cases_eq, ne_eqb}
use Rattle.std.proofs.lemmas.Nat.{pow_pos, pow-add, mod-pow-add, div-add-mod'}
use Rattle.std.proofs.lemmas.Int.{of_z-to_z, wrapping_add-bits, wrapping_mul-bits, int_wrap-add_left, int_wrap-add_right, int_wrap-mul_left, int_wrap-mul_right}
use Rattle.std.proofs.lemmas.Int.{int_wrap_fits, quot-rem}
use mir.Val.{bits}
use Rattle.lanes.specs.Words.{IsWidth, signed, wrapped, add, multiply, multiply_high_signed, multiply_high_signed_unsigned, multiply_high_unsigned}
use Rattle.lanes.specs.Words.{divide_unsigned, remainder_unsigned, divide_signed, remainder_signed}

-- ---- words and whole numbers

-- what a number leaves in a width, read as signed, is what wraps of it
wrapped_reads : (w : Width) (z : ℤ) → to_z w (wrapped (bits w) z) ≡ int_wrap w z
unfolding int_wrap
wrapped_reads w (pos n) = refl
wrapped_reads w (negsuc n) = ap (to_z w) (omega arith)

wrapped_below : (w : Width) (z : ℤ) → wrapped (bits w) z < 2 ^ bits w
wrapped_below w (pos n) = mod-lt n (pow_pos (bits w))
wrapped_below w (negsuc n) = let p = pow_pos (bits w) in omega (arith, p)

-- words that are read alike are one
same_word : (w : Width) (m n : ℕ) → m < 2 ^ bits w → n < 2 ^ bits w → to_z w m ≡ to_z w n → m ≡ n
same_word w m n p q e = sym (of_z-to_z w m p) ∙ ap (of_z w) e ∙ of_z-to_z w n q

wrapped_word : (w : Width) (n : ℕ) → n < 2 ^ bits w → wrapped (bits w) (to_z w n) ≡ n
wrapped_word w n p =
    same_word w (wrapped (bits w) (to_z w n)) n (wrapped_below w (to_z w n)) p
    (wrapped_reads w (to_z w n) ∙ int_wrap_fits w (to_z w n) (sfits_to_z (record { fits = p })))

-- ---- products and sums

wrapped-mul : (w : Width) (x y : ℤ) → wrapped (bits w) (x *ℤ y) ≡ wrapped (bits w) x * wrapped (bits w) y % 2 ^ bits w
wrapped-mul w x y =
    let product : to_z w (wrapped (bits w) x * wrapped (bits w) y % 2 ^ bits w) ≡ int_wrap w (x *ℤ y) =
    wrapping_mul-bits w (wrapped (bits w) x) (wrapped (bits w) y) (wrapped_below w x) (wrapped_below w y)
    ∙ rw (wrapped_reads w x, wrapped_reads w y) (int_wrap-mul_left w x (int_wrap w y) ∙ int_wrap-mul_right w x y) in
    same_word w (wrapped (bits w) (x *ℤ y)) (wrapped (bits w) x * wrapped (bits w) y % 2 ^ bits w) (wrapped_below w (x *ℤ y)) (mod-lt _ (pow_pos (bits w)))
    (wrapped_reads w (x *ℤ y) ∙ sym product)

wrapped-add : (w : Width) (x y : ℤ) → wrapped (bits w) (x +ℤ y) ≡ (wrapped (bits w) x + wrapped (bits w) y) % 2 ^ bits w
wrapped-add w x y =
    let total : to_z w ((wrapped (bits w) x + wrapped (bits w) y) % 2 ^ bits w) ≡ int_wrap w (x +ℤ y) =
    wrapping_add-bits w (wrapped (bits w) x) (wrapped (bits w) y) (wrapped_below w x) (wrapped_below w y)
    ∙ rw (wrapped_reads w x, wrapped_reads w y) (int_wrap-add_left w x (int_wrap w y) ∙ int_wrap-add_right w x y) in
    same_word w (wrapped (bits w) (x +ℤ y)) ((wrapped (bits w) x + wrapped (bits w) y) % 2 ^ bits w) (wrapped_below w (x +ℤ y)) (mod-lt _ (pow_pos (bits w)))
    (wrapped_reads w (x +ℤ y) ∙ sym total)

-- ---- quotients and remainders

by_zero : (m a : ℕ) → a < m → ((m - 1) * 0 % m + a) % m ≡ a
by_zero m a h = rw (mul-zero, zero-mod, zero-add) (mod-eq_of_lt h)

by_others : (w : Width) (a b : ℕ) → a < 2 ^ bits w → b < 2 ^ bits w
    → (wrapped (bits w) (int_div (to_z w a) (to_z w b)) * b % 2 ^ bits w + wrapped (bits w) (int_rem (to_z w a) (to_z w b))) % 2 ^ bits w ≡ a
by_others w a b p q =
    let quotient = int_div (to_z w a) (to_z w b) in
    let rest = int_rem (to_z w a) (to_z w b) in
    let product : wrapped (bits w) (quotient *ℤ to_z w b) ≡ wrapped (bits w) quotient * b % 2 ^ bits w =
    wrapped-mul w quotient (to_z w b) ∙ ap (λ n. wrapped (bits w) quotient * n % 2 ^ bits w) (wrapped_word w b q) in
    let total = wrapped-add w (quotient *ℤ to_z w b) rest in
    let dividend = ap (wrapped (bits w)) (quot-rem (to_z w a) (to_z w b)) ∙ wrapped_word w a p in
    ap (λ n. (n + wrapped (bits w) rest) % 2 ^ bits w) (sym product) ∙ sym total ∙ dividend

signed_at : (w : Width) (a b : ℕ) → a < 2 ^ bits w → b < 2 ^ bits w
    → add (bits w) (multiply (bits w) (if b == 0 then 2 ^ bits w - 1 else wrapped (bits w) (int_div (to_z w a) (to_z w b))) b)
    (if b == 0 then a else wrapped (bits w) (int_rem (to_z w a) (to_z w b))) ≡ a
signed_at w a b p q =
    elim (cases_eq b 0) [
      | inl e ↦ rw e (by_zero (2 ^ bits w) a p)
      | inr ne ↦ rw (ne_eqb b 0 ne) (by_others w a b p q)
    ]

abbrev GiveSigned : ℕ → Type 0
GiveSigned w = (a b : ℕ) → a < 2 ^ w → b < 2 ^ w → add w (multiply w (divide_signed w a b) b) (remainder_signed w a b) ≡ a

pub signed_give : (w a b : ℕ) → IsWidth w → a < 2 ^ w → b < 2 ^ w → add w (multiply w (divide_signed w a b) b) (remainder_signed w a b) ≡ a
signed_give w a b (inl e) = subst GiveSigned (sym e) (signed_at w8) a b
signed_give w a b (inr (inl e)) = subst GiveSigned (sym e) (signed_at w16) a b
signed_give w a b (inr (inr e)) = subst GiveSigned (sym e) (signed_at w32) a b

pub unsigned_give : (w a b : ℕ) → a < 2 ^ w → add w (multiply w (divide_unsigned w a b) b) (remainder_unsigned w a b) ≡ a
unsigned_give w a b p =
    elim (cases_eq b 0) [
      | inl e ↦ rw e (by_zero (2 ^ w) a p)
      | inr ne ↦
          let small = div-mul-le_self a b in
          let product : a / b * b % 2 ^ w ≡ a / b * b = mod-eq_of_lt (omega (arith, small, p)) in
          rw (ne_eqb b 0 ne, product, div-add-mod' a b) (mod-eq_of_lt p)
    ]

-- ---- halves of a product

halves_of : (d a k : ℕ) → d + suc a ≡ k → d * k + (a * k + k) ≡ k * k
halves_of d a k e = rw (sym e) (omega arith)

-- the high word of a number and its low one
two_words : (k : ℕ) (z : ℤ) → wrapped k (int_shr z k) * 2 ^ k + wrapped k z ≡ wrapped (k + k) z
two_words k (pos n) = sym (mod-pow-add n k k)
two_words k (negsuc n) =
    let positive = pow_pos k in
    let high = n / 2 ^ k % 2 ^ k in
    let high_below : high < 2 ^ k = mod-lt (n / 2 ^ k) positive in
    let low_below : n % 2 ^ k < 2 ^ k = mod-lt n positive in
    let square = halves_of (2 ^ k - suc high) high (2 ^ k) (omega arith) in
    let parts = mod-pow-add n k k in
    let power = pow-add 2 k k in
    omega (arith, square, parts, power, high_below, low_below)

low_word : (w : Width) (x y : ℤ) (a b : ℕ) → wrapped (bits w) x ≡ a → wrapped (bits w) y ≡ b → a * b % 2 ^ bits w ≡ wrapped (bits w) (x *ℤ y)
low_word w x y a b p q = sym (wrapped-mul w x y ∙ rw (p, q) refl)

signed_halves_at : (w : Width) (a b : ℕ) → a < 2 ^ bits w → b < 2 ^ bits w
    → wrapped (bits w) (int_shr (to_z w a *ℤ to_z w b) (bits w)) * 2 ^ bits w + a * b % 2 ^ bits w ≡ wrapped (bits w + bits w) (to_z w a *ℤ to_z w b)
signed_halves_at w a b p q =
    rw (low_word w (to_z w a) (to_z w b) a b (wrapped_word w a p) (wrapped_word w b q)) (two_words (bits w) (to_z w a *ℤ to_z w b))

mixed_halves_at : (w : Width) (a b : ℕ) → a < 2 ^ bits w → b < 2 ^ bits w
    → wrapped (bits w) (int_shr (to_z w a *ℤ pos b) (bits w)) * 2 ^ bits w + a * b % 2 ^ bits w ≡ wrapped (bits w + bits w) (to_z w a *ℤ pos b)
mixed_halves_at w a b p q =
    rw (low_word w (to_z w a) (pos b) a b (wrapped_word w a p) (mod-eq_of_lt q)) (two_words (bits w) (to_z w a *ℤ pos b))

abbrev SignedHalves : ℕ → Type 0
SignedHalves w = (a b : ℕ) → a < 2 ^ w → b < 2 ^ w → multiply_high_signed w a b * 2 ^ w + multiply w a b ≡ wrapped (w + w) (signed w a *ℤ signed w b)

abbrev MixedHalves : ℕ → Type 0
MixedHalves w = (a b : ℕ) → a < 2 ^ w → b < 2 ^ w → multiply_high_signed_unsigned w a b * 2 ^ w + multiply w a b ≡ wrapped (w + w) (signed w a *ℤ pos b)

pub signed_halves : (w a b : ℕ) → IsWidth w → a < 2 ^ w → b < 2 ^ w → multiply_high_signed w a b * 2 ^ w + multiply w a b
    ≡ wrapped (w + w) (signed w a *ℤ signed w b)
signed_halves w a b (inl e) = subst SignedHalves (sym e) (signed_halves_at w8) a b
signed_halves w a b (inr (inl e)) = subst SignedHalves (sym e) (signed_halves_at w16) a b
signed_halves w a b (inr (inr e)) = subst SignedHalves (sym e) (signed_halves_at w32) a b

pub mixed_halves : (w a b : ℕ) → IsWidth w → a < 2 ^ w → b < 2 ^ w → multiply_high_signed_unsigned w a b * 2 ^ w + multiply w a b
    ≡ wrapped (w + w) (signed w a *ℤ pos b)
mixed_halves w a b (inl e) = subst MixedHalves (sym e) (mixed_halves_at w8) a b
mixed_halves w a b (inr (inl e)) = subst MixedHalves (sym e) (mixed_halves_at w16) a b
mixed_halves w a b (inr (inr e)) = subst MixedHalves (sym e) (mixed_halves_at w32) a b

pub unsigned_halves : (w a b : ℕ) → multiply_high_unsigned w a b * 2 ^ w + multiply w a b ≡ a * b
unsigned_halves w a b = div-add-mod' (a * b) (2 ^ w)
