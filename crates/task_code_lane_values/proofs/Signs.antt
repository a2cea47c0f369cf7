-- Signs of words, and quotients and remainders by them.
use Rattle.std.proofs.Common.{◌≡◌, ℕ, suc, ◌+◌, ◌-◌, ◌/◌, ◌%◌, ◌^◌, ◌<◌, ◌≤◌, Bool, true, false, ap, ◌∙◌, refl, sym, arith}
use Rattle.std.specs.Prelude.{◌==◌, if◌then◌else◌, nat_lt, pos, negsuc, bit_and, bit_xor}
use Rattle.std.specs.Int.{bit_at, int_shr, w32}
use Rattle.std.proofs.lemmas.Bool.Decides.{nat_tests}
use Rattle.std.proofs.lemmas.Nat.{and_comm, and_le_l, and_mask, xor_of_32}
use Rattle.std.proofs.lemmas.Nat.Bits.{bit_at_xor, bit_at-zero, bit_at_ones, bit_at_not, bit_at-lt, same_from_bits, same_from_bits_below}
use Rattle.lanes.specs.Words as lanes
use Rattle.halide_pipeline.specs.Words as word

-- ---- numbers

-- all bits of a word where a lane is negative, else none
abbrev pub sign_word : Bool → ℕ
sign_word t = if t then 0 else 2 ^ 32 - 1

pub sign-below : (t : Bool) → sign_word t < 2 ^ 32
sign-below true = omega arith
sign-below false = omega arith

pub sign-is : (x : ℕ) → x < 2 ^ 32 → lanes.shift_right_arithmetic 32 x 31 ≡ sign_word (nat_lt x (2 ^ 31))
sign-is x l = by-test (nat_lt x (2 ^ 31)) refl
  where
    by-test : (t : Bool) → nat_lt x (2 ^ 31) ≡ t → lanes.shift_right_arithmetic 32 x 31 ≡ sign_word t
    by-test true e =
        let p : x < 2 ^ 31 = grind (arith, nat_tests, e) in
        let q : x / 2 ^ (31 % 32) ≡ 0 = omega (arith, p) in
        ap (λ t. lanes.wrapped 32 (int_shr (if t then pos x else negsuc (2 ^ 32 - suc x)) (31 % 32))) e ∙ ap (λ n. n % 2 ^ 32) q
    by-test false e =
        let p : 2 ^ 31 ≤ x = grind (arith, nat_tests, e) in
        let q : (2 ^ 32 - suc x) / 2 ^ (31 % 32) ≡ 0 = omega (arith, p, l) in
        ap (λ t. lanes.wrapped 32 (int_shr (if t then pos x else negsuc (2 ^ 32 - suc x)) (31 % 32))) e ∙ ap (λ n. 2 ^ 32 - suc (n % 2 ^ 32)) q

one-more : (b : ℕ) → b < 2 → (b + 1) % 2 ≡ 1 - b
one-more b l = omega (arith, l)

none-more : (b : ℕ) → b < 2 → (b + 0) % 2 ≡ b
none-more b l = omega (arith, l)

xor-none : (x : ℕ) → bit_xor x 0 ≡ x
xor-none x = same_from_bits (bit_xor x 0) x (λ i. bit_at_xor x 0 i ∙ ap (λ z. (bit_at x i + z) % 2) (bit_at-zero i) ∙ none-more (bit_at x i) (bit_at-lt x i))

xor-ones : (x : ℕ) → x < 2 ^ 32 → bit_xor x (2 ^ 32 - 1) ≡ 2 ^ 32 - 1 - x
xor-ones x l =
    same_from_bits_below 32 (bit_xor x (2 ^ 32 - 1)) (2 ^ 32 - 1 - x) (xor_of_32 x (2 ^ 32 - 1) l (omega arith)) (omega arith)
    (λ i few. bit_at_xor x (2 ^ 32 - 1) i ∙ ap (λ z. (bit_at x i + z) % 2) (bit_at_ones 32 i few) ∙ one-more (bit_at x i) (bit_at-lt x i) ∙ sym
    (bit_at_not w32 x i l few))

-- a lane, or its complement where it is negative
abbrev pub swapped : Bool → ℕ → ℕ
swapped t x = if t then x else 2 ^ 32 - 1 - x

pub swapped-is : (t : Bool) (x : ℕ) → x < 2 ^ 32 → bit_xor x (sign_word t) ≡ swapped t x
swapped-is true x l = xor-none x
swapped-is false x l = xor-ones x l

pub swapped-below : (t : Bool) (x : ℕ) → x < 2 ^ 32 → swapped t x < 2 ^ 32
swapped-below true x l = l
swapped-below false x l = omega arith

pub not-zero : (c : ℕ) → 0 < c → (c == 0) ≡ false
not-zero c l = grind (arith, nat_tests, l)

pub part-below : (a c : ℕ) → a < 2 ^ 32 → a / c < 2 ^ 32
part-below a c l = omega arith

-- the divisor where a lane is negative, else nothing
abbrev pub lacking : Bool → ℕ → ℕ
lacking t c = if t then 0 else c

pub lacking-is : (t : Bool) (c : ℕ) → c < 2 ^ 32 → bit_and (sign_word t) c ≡ lacking t c
lacking-is true c l = let p = and_le_l 0 c in omega (arith, p)
lacking-is false c l = and_comm (2 ^ 32 - 1) c ∙ and_mask c 32 ∙ (let p : c % 2 ^ 32 ≡ c = omega (arith, l) in p)

pub lacking-below : (t : Bool) (c : ℕ) → c < 2 ^ 32 → lacking t c < 2 ^ 32
lacking-below true c l = omega arith
lacking-below false c l = l

pub filled-is : (t : Bool) (x c : ℕ) → x < c → c < 2 ^ 32 → lanes.add 32 (swapped t x) (lacking t c) ≡ (if t then x else c - 1 - x)
filled-is true x c l lc = omega (arith, l, lc)
filled-is false x c l lc = omega (arith, l, lc)

by-sign : (t : Bool) (x c : ℕ) → swapped t (swapped t x / c) ≡ (if t then x / c else 2 ^ 32 - 1 - (2 ^ 32 - 1 - x) / c)
by-sign true x c = refl
by-sign false x c = refl

pub quotient-is : (x c : ℕ) → 0 < c → swapped (nat_lt x (2 ^ 31)) (swapped (nat_lt x (2 ^ 31)) x / c) ≡ word.divide x c
unfolding word.divide
quotient-is x c lc = by-sign (nat_lt x (2 ^ 31)) x c ∙ sym (ap (λ b. if b then 0 else (if nat_lt x (2 ^ 31) then x / c else 2 ^ 32 - 1 -
    (2 ^ 32 - 1 - x) / c)) (not-zero c lc))

by-remainder : (t : Bool) (x c : ℕ) → (if t then swapped t x % c else c - 1 - swapped t x % c) ≡ (if t then x % c else c - 1 - (2 ^ 32 - 1 - x) % c)
by-remainder true x c = refl
by-remainder false x c = refl

pub remainder-is : (x c : ℕ) → 0 < c → (if nat_lt x (2 ^ 31) then swapped (nat_lt x (2 ^ 31)) x % c else c - 1 - swapped (nat_lt x
    (2 ^ 31)) x % c) ≡ word.remainder x c
unfolding word.remainder
remainder-is x c lc = by-remainder (nat_lt x (2 ^ 31)) x c ∙ sym (ap (λ b. if b then 0 else (if nat_lt x (2 ^ 31) then x % c else c - 1 -
    (2 ^ 32 - 1 - x) % c)) (not-zero c lc))
