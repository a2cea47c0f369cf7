-- The high word of a product of two signed words, computed in a type of twice the width.
use Rattle.std.proofs.Common.{◌≡◌, ℕ, suc, ◌+◌, ◌-◌, ◌*◌, ◌%◌, ◌<◌, ◌≤◌, ◌^◌, sym, ap, subst, arith, ℤ, pos, negsuc, ◌*ℤ◌, FitsSigned, to_z, of_z, lit≤}
use Rattle.std.specs.Int.{Width, w8, w16, w32, w64, w128}
use Rattle.std.proofs.Math.Nat.{mod-eq_of_lt, lt_of_lt_of_le}
use Rattle.std.proofs.Math.Pow.{pow_mono}
use Rattle.std.proofs.lemmas.Int.{to_z-of_z, fits_signed_mul}
use Rattle.std.proofs.lemmas.Nat.{shr_below}
use lib.Signed.{shr_z, nat_abs-le}
use mir.Val.{bits, hbits}
use Rattle.lanes.specs.Words.{wrapped}

half_below : (w : Width) → 2 ^ hbits w ≤ 2 ^ bits w
half_below w8 = lit≤ tt
half_below w16 = lit≤ tt
half_below w32 = lit≤ tt
half_below w64 = lit≤ tt
half_below w128 = lit≤ tt

below : (w : Width) (n : ℕ) → n < 2 ^ hbits w → n ≡ n % 2 ^ bits w
below w n h = sym (mod-eq_of_lt (lt_of_lt_of_le h (half_below w)))

-- a number that a signed type holds leaves its bits
pub wrapped_is : (w : Width) (z : ℤ) → FitsSigned w z → of_z w z ≡ wrapped (bits w) z
wrapped_is w (pos n) f = below w n f.sfits
wrapped_is w (negsuc n) f = ap (λ m. 2 ^ bits w - suc m) (below w n f.sfits)

shr_fits : (w v : Width) (z : ℤ) → hbits v ≡ hbits w + bits w → FitsSigned v z → FitsSigned w (shr_z z (2 ^ bits w))
shr_fits w v (pos n) e f = record { sfits = shr_below n (hbits w) (bits w) (subst (λ k. n < 2 ^ k) e f.sfits) }
shr_fits w v (negsuc n) e f = record { sfits = shr_below n (hbits w) (bits w) (subst (λ k. n < 2 ^ k) e f.sfits) }

wider : (w v : Width) (z : ℤ) → hbits v ≡ hbits w + bits w → FitsSigned w z → FitsSigned v z
wider w v z e f = record { sfits = lt_of_lt_of_le f.sfits (pow_mono (omega arith)) }

pub high_word : (w v : Width) (x y : ℤ) → hbits v ≡ hbits w + bits w → 2 ^ hbits w * 2 ^ hbits w < 2 ^ hbits v → FitsSigned w x → FitsSigned w y
    → of_z w (to_z w (of_z w (to_z v (of_z v (shr_z (to_z v (of_z v (to_z v (of_z v x) *ℤ to_z v (of_z v y)))) (2 ^ bits w))))))
    ≡ wrapped (bits w) (shr_z (x *ℤ y) (2 ^ bits w))
high_word w v x y e h f g =
    let product : FitsSigned v (x *ℤ y) = fits_signed_mul v x y (2 ^ hbits w) (2 ^ hbits w) (nat_abs-le x f.sfits) (nat_abs-le y g.sfits) h in
    let high : FitsSigned w (shr_z (x *ℤ y) (2 ^ bits w)) = shr_fits w v (x *ℤ y) e product in
    rw (
      to_z-of_z v x (wider w v x e f),
      to_z-of_z v y (wider w v y e g),
      to_z-of_z v (x *ℤ y) product,
      to_z-of_z v (shr_z (x *ℤ y) (2 ^ bits w))
          (wider w v _ e high),
      to_z-of_z w (shr_z (x *ℤ y) (2 ^ bits w)) high,
    )
    (wrapped_is w (shr_z (x *ℤ y) (2 ^ bits w)) high)
