-- Bits of a mask register that are written are read back, and the others stay.
use Rattle.std.proofs.Common.{◌≡◌, ℕ, zero, suc, ◌+◌, ◌-◌, ◌/◌, ◌%◌, ◌^◌, ◌<◌, ◌≤◌, ◌≢◌, ◌==◌, Bool, true, false, if◌then◌else◌, List, [], ◌∷◌, length, get_or}
use Rattle.std.proofs.Common.{refl, sym, ◌∙◌, ap, arith, inl, inr, get_or-set_same, get_or-set_other, eq-eqb}
use Rattle.std.proofs.Math.ListN.{length-set}
use Rattle.std.proofs.lemmas.Bool.{cases_eq, ne_eqb}
use Rattle.std.proofs.lemmas.Nat.{pow_below}
use Rattle.std.proofs.lemmas.Nat.Bits.{bit_at_or, bit_at_and, bit_at-pow_same, bit_at-pow_other, bit_at_not, bit_at-lt}
use Rattle.std.specs.Int.{bit_at, w8}
use Rattle.lanes.specs.Words.{mask_bit, with_bit, with_mask_bit, with_mask_bits_from, with_mask_bits}

-- ---- one byte

bit_same : (byte k : ℕ) (b : Bool) → k < 8 → (bit_at (with_bit byte k b) k == 1) ≡ b
bit_same byte k true h =
    let joined = bit_at_or byte (2 ^ k) k in
    let one = bit_at-pow_same k in
    let small = bit_at-lt byte k in
    eq-eqb _ _ (omega (arith, joined, one, small))
bit_same byte k false h =
    let met = bit_at_and byte (255 - 2 ^ k) k in
    let one = bit_at-pow_same k in
    let other = bit_at_not w8 (2 ^ k) k (pow_below k 8 h) h in
    ne_eqb _ _ (λ e. omega (arith, met, one, other, e))

bit_other : (byte k i : ℕ) (b : Bool) → k < 8 → i < 8 → i ≢ k → bit_at (with_bit byte k b) i ≡ bit_at byte i
bit_other byte k i true h p ne =
    let joined = bit_at_or byte (2 ^ k) i in
    let none = bit_at-pow_other k i ne in
    omega (arith, joined, none)
bit_other byte k i false h p ne =
    let met = bit_at_and byte (255 - 2 ^ k) i in
    let none = bit_at-pow_other k i ne in
    let other = bit_at_not w8 (2 ^ k) i (pow_below k 8 h) p in
    let small = bit_at-lt byte i in
    omega (arith, met, none, other, small)

-- ---- one bit of a register

mask_bit_same : (bytes : List ℕ) (j : ℕ) (b : Bool) → j < 128 → length bytes ≡ 16 → mask_bit (with_mask_bit bytes j b) j ≡ b
mask_bit_same bytes j b h long =
    let inside : j / 8 < length bytes = omega arith in
    rw (get_or-set_same bytes (j / 8) (with_bit (get_or bytes (j / 8) 0) (j % 8) b) 0 inside) (bit_same (get_or bytes (j / 8) 0) (j % 8) b (omega arith))

mask_bit_other : (bytes : List ℕ) (i j : ℕ) (b : Bool) → j < 128 → i ≢ j → length bytes ≡ 16 → mask_bit (with_mask_bit bytes j b) i ≡ mask_bit bytes i
mask_bit_other bytes i j b h ne long =
    let byte = get_or bytes (j / 8) 0 in
    let written = with_bit byte (j % 8) b in
    elim (cases_eq (i / 8) (j / 8)) [
      | inl e ↦
          let inside : j / 8 < length bytes = omega arith in
          let apart : i % 8 ≢ j % 8 = λ e'. ne (omega (arith, e, e')) in
          rw (e, get_or-set_same bytes (j / 8) written 0 inside) (ap (λ n. n == 1) (bit_other byte (j % 8) (i % 8) b (omega arith) (omega arith) apart))
      | inr apart ↦ ap (λ n. bit_at n (i % 8) == 1) (get_or-set_other bytes (j / 8) (i / 8) written 0 apart)
    ]

-- ---- the bits of active elements

length_after : (bytes : List ℕ) (j : ℕ) (a b : Bool) → length (if a then with_mask_bit bytes j b else bytes) ≡ length bytes
length_after bytes j true b = length-set bytes (j / 8) _
length_after bytes j false b = refl

after_other : (bytes : List ℕ) (i j : ℕ) (a b : Bool) → j < 128 → i ≢ j → length bytes ≡ 16 → mask_bit (if a then with_mask_bit bytes j b else bytes) i
    ≡ mask_bit bytes i
after_other bytes i j true b h ne long = mask_bit_other bytes i j b h ne long
after_other bytes i j false b h ne long = refl

-- bits before the ones that are written
before : (j : ℕ) (active bits : List Bool) (bytes : List ℕ) (i : ℕ) → length bytes ≡ 16 → j + length bits ≤ 128 → i < j
    → mask_bit (with_mask_bits_from j active bits bytes) i ≡ mask_bit bytes i
before j [] bits bytes i long few h = refl
before j (a ∷ active) [] bytes i long few h = refl
before j (a ∷ active) (b ∷ bits) bytes i long few h =
    let ne : i ≢ j = omega arith in
    before (j + 1) active bits (if a then with_mask_bit bytes j b else bytes) i (length_after bytes j a b ∙ long) (omega arith) (omega arith)
    ∙ after_other bytes i j a b (omega arith) ne long

first : (a b : Bool) (bytes : List ℕ) (j : ℕ) → j < 128 → length bytes ≡ 16
    → mask_bit (if a then with_mask_bit bytes j b else bytes) j ≡ (if a then b else mask_bit bytes j)
first true b bytes j h long = mask_bit_same bytes j b h long
first false b bytes j h long = refl

written : (j : ℕ) (active bits : List Bool) (bytes : List ℕ) (k i : ℕ) → length bytes ≡ 16 → length active ≡ length bits → j + length bits ≤ 128 → j + k ≡ i
    → mask_bit (with_mask_bits_from j active bits bytes) i ≡ (if get_or active k false then get_or bits k false else mask_bit bytes i)
written j [] bits bytes k i long same few e = refl
written j (a ∷ active) [] bytes k i long same few e = absurd (omega arith)
written j (a ∷ active) (b ∷ bits) bytes zero i long same few e =
    let here : j ≡ i = omega arith in
    let rest = before (j + 1) active bits (if a then with_mask_bit bytes j b else bytes) i (length_after bytes j a b ∙ long) (omega arith) (omega arith) in
    rest ∙ rw (sym here) (first a b bytes j (omega arith) long)
written j (a ∷ active) (b ∷ bits) bytes (suc k) i long same few e =
    let ne : i ≢ j = omega arith in
    written (j + 1) active bits (if a then with_mask_bit bytes j b else bytes) k i (length_after bytes j a b ∙ long) (omega arith) (omega arith) (omega arith)
    ∙ ap (λ old. if get_or active k false then get_or bits k false else old) (after_other bytes i j a b (omega arith) ne long)

pub mask_bits_back : (active bits : List Bool) (bytes : List ℕ) (i : ℕ) → length bytes ≡ 16 → length active ≡ length bits → length bits ≤ 128
    → mask_bit (with_mask_bits active bits bytes) i ≡ (if get_or active i false then get_or bits i false else mask_bit bytes i)
mask_bits_back active bits bytes i long same few = written 0 active bits bytes i i long same (omega arith) (omega arith)
