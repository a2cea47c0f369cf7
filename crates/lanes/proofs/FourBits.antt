-- Four bits of a mask register that are written at once.
use Rattle.std.proofs.Common.{◌≡◌, ℕ, ◌+◌, ◌*◌, ◌/◌, ◌%◌, ◌<◌, ◌==◌, Bool, true, false, List, [], ◌∷◌, length, get_or, get_or-set_same, map, refl, sym, ◌∙◌, ap, arith}
use Rattle.std.proofs.Math.ListN.{set}
use Rattle.std.proofs.lemmas.Bool.{agree_below, agree_below_at, eqb-true}
use Rattle.std.proofs.lemmas.List.{set-set}
use Rattle.std.proofs.lemmas.Simd.{mask_l-lt}
use Rattle.std.proofs.Math.Nat.{mod-eq_of_lt}
use Rattle.std.specs.Int.Bits.{bit_and, bit_or}
use lib.Lanes.{mask_l, sel_l}
use Rattle.std.specs.Int.{bit_at}
use Rattle.lanes.specs.Words.{with_bit, with_mask_bits_from, mask_bits, merged}

-- ---- one byte

abbrev four_from : ℕ → ℕ → Bool → Bool → Bool → Bool → ℕ
four_from byte k a b c d = with_bit (with_bit (with_bit (with_bit byte k a) (k + 1) b) (k + 2) c) (k + 3) d

equal_below : (f g : ℕ → ℕ) → agree_below (λ byte. f byte == g byte) (λ byte. true) 256 ≡ true → (byte : ℕ) → byte < 256 → f byte ≡ g byte
equal_below f g e byte l = eqb-true (f byte) (g byte) (agree_below_at (λ byte. f byte == g byte) (λ byte. true) 256 byte e l)

pub low_bits : (a b c d : Bool) (byte : ℕ) → byte < 256
    → bit_or (bit_and byte 240) (mask_l (a ∷ b ∷ c ∷ d ∷ [])) ≡ four_from byte 0 a b c d
low_bits false false false false byte l = equal_below (λ byte. bit_or (bit_and byte 240) 0) (λ byte. four_from byte 0 false false false false) refl byte l
low_bits false false false true byte l = equal_below (λ byte. bit_or (bit_and byte 240) 8) (λ byte. four_from byte 0 false false false true) refl byte l
low_bits false false true false byte l = equal_below (λ byte. bit_or (bit_and byte 240) 4) (λ byte. four_from byte 0 false false true false) refl byte l
low_bits false false true true byte l = equal_below (λ byte. bit_or (bit_and byte 240) 12) (λ byte. four_from byte 0 false false true true) refl byte l
low_bits false true false false byte l = equal_below (λ byte. bit_or (bit_and byte 240) 2) (λ byte. four_from byte 0 false true false false) refl byte l
low_bits false true false true byte l = equal_below (λ byte. bit_or (bit_and byte 240) 10) (λ byte. four_from byte 0 false true false true) refl byte l
low_bits false true true false byte l = equal_below (λ byte. bit_or (bit_and byte 240) 6) (λ byte. four_from byte 0 false true true false) refl byte l
low_bits false true true true byte l = equal_below (λ byte. bit_or (bit_and byte 240) 14) (λ byte. four_from byte 0 false true true true) refl byte l
low_bits true false false false byte l = equal_below (λ byte. bit_or (bit_and byte 240) 1) (λ byte. four_from byte 0 true false false false) refl byte l
low_bits true false false true byte l = equal_below (λ byte. bit_or (bit_and byte 240) 9) (λ byte. four_from byte 0 true false false true) refl byte l
low_bits true false true false byte l = equal_below (λ byte. bit_or (bit_and byte 240) 5) (λ byte. four_from byte 0 true false true false) refl byte l
low_bits true false true true byte l = equal_below (λ byte. bit_or (bit_and byte 240) 13) (λ byte. four_from byte 0 true false true true) refl byte l
low_bits true true false false byte l = equal_below (λ byte. bit_or (bit_and byte 240) 3) (λ byte. four_from byte 0 true true false false) refl byte l
low_bits true true false true byte l = equal_below (λ byte. bit_or (bit_and byte 240) 11) (λ byte. four_from byte 0 true true false true) refl byte l
low_bits true true true false byte l = equal_below (λ byte. bit_or (bit_and byte 240) 7) (λ byte. four_from byte 0 true true true false) refl byte l
low_bits true true true true byte l = equal_below (λ byte. bit_or (bit_and byte 240) 15) (λ byte. four_from byte 0 true true true true) refl byte l

pub high_bits : (a b c d : Bool) (byte : ℕ) → byte < 256
    → bit_or (bit_and byte 15) (mask_l (a ∷ b ∷ c ∷ d ∷ []) * 16 % 256) ≡ four_from byte 4 a b c d
high_bits false false false false byte l = equal_below (λ byte. bit_or (bit_and byte 15) 0) (λ byte. four_from byte 4 false false false false) refl byte l
high_bits false false false true byte l = equal_below (λ byte. bit_or (bit_and byte 15) 128) (λ byte. four_from byte 4 false false false true) refl byte l
high_bits false false true false byte l = equal_below (λ byte. bit_or (bit_and byte 15) 64) (λ byte. four_from byte 4 false false true false) refl byte l
high_bits false false true true byte l = equal_below (λ byte. bit_or (bit_and byte 15) 192) (λ byte. four_from byte 4 false false true true) refl byte l
high_bits false true false false byte l = equal_below (λ byte. bit_or (bit_and byte 15) 32) (λ byte. four_from byte 4 false true false false) refl byte l
high_bits false true false true byte l = equal_below (λ byte. bit_or (bit_and byte 15) 160) (λ byte. four_from byte 4 false true false true) refl byte l
high_bits false true true false byte l = equal_below (λ byte. bit_or (bit_and byte 15) 96) (λ byte. four_from byte 4 false true true false) refl byte l
high_bits false true true true byte l = equal_below (λ byte. bit_or (bit_and byte 15) 224) (λ byte. four_from byte 4 false true true true) refl byte l
high_bits true false false false byte l = equal_below (λ byte. bit_or (bit_and byte 15) 16) (λ byte. four_from byte 4 true false false false) refl byte l
high_bits true false false true byte l = equal_below (λ byte. bit_or (bit_and byte 15) 144) (λ byte. four_from byte 4 true false false true) refl byte l
high_bits true false true false byte l = equal_below (λ byte. bit_or (bit_and byte 15) 80) (λ byte. four_from byte 4 true false true false) refl byte l
high_bits true false true true byte l = equal_below (λ byte. bit_or (bit_and byte 15) 208) (λ byte. four_from byte 4 true false true true) refl byte l
high_bits true true false false byte l = equal_below (λ byte. bit_or (bit_and byte 15) 48) (λ byte. four_from byte 4 true true false false) refl byte l
high_bits true true false true byte l = equal_below (λ byte. bit_or (bit_and byte 15) 176) (λ byte. four_from byte 4 true true false true) refl byte l
high_bits true true true false byte l = equal_below (λ byte. bit_or (bit_and byte 15) 112) (λ byte. four_from byte 4 true true true false) refl byte l
high_bits true true true true byte l = equal_below (λ byte. bit_or (bit_and byte 15) 240) (λ byte. four_from byte 4 true true true true) refl byte l

-- ---- a register

written_twice : (bytes : List ℕ) (i : ℕ) (x : ℕ) (f : ℕ → ℕ) → i < length bytes → set (set bytes i x) i (f (get_or (set bytes i x) i 0)) ≡ set bytes i (f x)
written_twice bytes i x f l = rw (get_or-set_same bytes i x 0 l) (set-set bytes i x (f x))

-- four bits of one byte, from bit k of it on
in_one : (bytes : List ℕ) (i j k : ℕ) (a b c d : Bool) → i < length bytes → j / 8 ≡ i → j % 8 ≡ k → k < 5
    → set bytes i (four_from (get_or bytes i 0) k a b c d)
    ≡ with_mask_bits_from j (true ∷ true ∷ true ∷ true ∷ []) (a ∷ b ∷ c ∷ d ∷ []) bytes
in_one bytes i j k a b c d l q r small =
    let q1 : (j + 1) / 8 ≡ i = omega (arith, q, r, small) in
    let r1 : (j + 1) % 8 ≡ k + 1 = omega (arith, q, r, small) in
    let q2 : (j + 1 + 1) / 8 ≡ i = omega (arith, q, r, small) in
    let r2 : (j + 1 + 1) % 8 ≡ k + 2 = omega (arith, q, r, small) in
    let q3 : (j + 1 + 1 + 1) / 8 ≡ i = omega (arith, q, r, small) in
    let r3 : (j + 1 + 1 + 1) % 8 ≡ k + 3 = omega (arith, q, r, small) in
    let byte = get_or bytes i 0 in
    rw (q, r, q1, r1, q2, r2, q3, r3)
    (sym (ap (λ bs. set (set bs i (with_bit (get_or bs i 0) (k + 2) c)) i (with_bit (get_or (set bs i (with_bit (get_or bs i 0) (k + 2) c)) i 0) (k + 3) d))
    (written_twice bytes i (with_bit byte k a) (λ n. with_bit n (k + 1) b) l)
    ∙ ap (λ bs. set bs i (with_bit (get_or bs i 0) (k + 3) d)) (written_twice bytes i (with_bit (with_bit byte k a) (k + 1) b) (λ n. with_bit n (k + 2) c) l)
    ∙ written_twice bytes i (with_bit (with_bit (with_bit byte k a) (k + 1) b) (k + 2) c) (λ n. with_bit n (k + 3) d) l))

pub four_written : (bytes : List ℕ) (part k bits byte : ℕ) (tests : List Bool) → length bytes ≡ 16 → part < 32 → part * 4 % 8 ≡ k → k < 5
    → length tests ≡ 4 → bits ≡ mask_l tests
    → ((a b c d : Bool) → bits % 16 ≡ mask_l (a ∷ b ∷ c ∷ d ∷ []) → byte ≡ four_from (get_or bytes (part / 2) 0) k a b c d)
    → set bytes (part / 2) byte ≡ with_mask_bits_from (part * 4) (true ∷ true ∷ true ∷ true ∷ []) tests bytes
four_written bytes part k bits byte (a ∷ b ∷ c ∷ d ∷ []) long low at small four e f =
    ap (set bytes (part / 2)) (f a b c d (ap (λ n. n % 16) e ∙ mod-eq_of_lt (mask_l-lt (a ∷ b ∷ c ∷ d ∷ []))))
    ∙ in_one bytes (part / 2) (part * 4) k a b c d (omega (arith, long, low)) (omega arith) at small
four_written bytes part k bits byte [] long low at small four e f = absurd (omega (arith, four))
four_written bytes part k bits byte (a ∷ []) long low at small four e f = absurd (omega (arith, four))
four_written bytes part k bits byte (a ∷ b ∷ []) long low at small four e f = absurd (omega (arith, four))
four_written bytes part k bits byte (a ∷ b ∷ c ∷ []) long low at small four e f = absurd (omega (arith, four))
four_written bytes part k bits byte (a ∷ b ∷ c ∷ d ∷ g ∷ gs) long low at small four e f = absurd (omega (arith, four))

-- ---- bits that are read at once

is_set : (place k : ℕ) → agree_below (λ byte. bit_and byte place == place) (λ byte. bit_at byte k == 1) 256 ≡ true → (byte : ℕ) → byte < 256
    → (bit_and byte place == place) ≡ (bit_at byte k == 1)
is_set place k e byte l = agree_below_at (λ byte. bit_and byte place == place) (λ byte. bit_at byte k == 1) 256 byte e l

selected_is_merged : {A : Type 0} (bs : List Bool) (xs ys : List A) → sel_l bs xs ys ≡ merged bs xs ys
selected_is_merged [] xs ys = refl
selected_is_merged (b ∷ bs) [] ys = refl
selected_is_merged (b ∷ bs) (x ∷ xs) [] = refl
selected_is_merged (true ∷ bs) (x ∷ xs) (y ∷ ys) = ap (λ zs. x ∷ zs) (selected_is_merged bs xs ys)
selected_is_merged (false ∷ bs) (x ∷ xs) (y ∷ ys) = ap (λ zs. y ∷ zs) (selected_is_merged bs xs ys)

four_flags : (byte : ℕ) (a b c d : ℕ) (i j k l : ℕ) → (bit_and byte a == a) ≡ (bit_at byte i == 1) → (bit_and byte b == b) ≡ (bit_at byte j == 1)
    → (bit_and byte c == c) ≡ (bit_at byte k == 1) → (bit_and byte d == d) ≡ (bit_at byte l == 1)
    → map (λ place. bit_and byte place == place) (a ∷ b ∷ c ∷ d ∷ []) ≡ (bit_at byte i == 1) ∷ (bit_at byte j == 1) ∷ (bit_at byte k == 1) ∷ (bit_at byte l == 1) ∷ []
four_flags byte a b c d i j k l p q r s = rw (p, q, r, s) refl

-- the bits from part * 4 on are four of one byte, from bit k of it on
four_read : (mask : List ℕ) (part k : ℕ) → part * 4 % 8 ≡ k → k < 5
    → (bit_at (get_or mask (part / 2) 0) k == 1) ∷ (bit_at (get_or mask (part / 2) 0) (k + 1) == 1) ∷ (bit_at (get_or mask (part / 2) 0) (k + 2) == 1)
    ∷ (bit_at (get_or mask (part / 2) 0) (k + 3) == 1) ∷ []
    ≡ mask_bits (part * 4) 4 mask
unfolding mask_bits
four_read mask part k r small =
    let q0 : (part * 4 + 0) / 8 ≡ part / 2 = omega arith in
    let r0 : (part * 4 + 0) % 8 ≡ k = omega (arith, r) in
    let q1 : (part * 4 + 1) / 8 ≡ part / 2 = omega (arith, r, small) in
    let r1 : (part * 4 + 1) % 8 ≡ k + 1 = omega (arith, r, small) in
    let q2 : (part * 4 + 2) / 8 ≡ part / 2 = omega (arith, r, small) in
    let r2 : (part * 4 + 2) % 8 ≡ k + 2 = omega (arith, r, small) in
    let q3 : (part * 4 + 3) / 8 ≡ part / 2 = omega (arith, r, small) in
    let r3 : (part * 4 + 3) % 8 ≡ k + 3 = omega (arith, r, small) in
    rw (q0, r0, q1, r1, q2, r2, q3, r3) refl

pub low_merged : (mask : List ℕ) (part : ℕ) (xs ys : List ℕ) → get_or mask (part / 2) 0 < 256 → part % 2 ≡ 0
    → sel_l (map (λ place. bit_and (get_or mask (part / 2) 0) place == place) (1 ∷ 2 ∷ 4 ∷ 8 ∷ [])) xs ys ≡ merged (mask_bits (part * 4) 4 mask) xs ys
low_merged mask part xs ys l e =
    let byte = get_or mask (part / 2) 0 in
    ap (λ bs. sel_l bs xs ys) (four_flags byte 1 2 4 8 0 1 2 3 (is_set 1 0 refl byte l) (is_set 2 1 refl byte l) (is_set 4 2 refl byte l) (is_set 8 3 refl byte l)
    ∙ four_read mask part 0 (omega (arith, e)) (omega arith))
    ∙ selected_is_merged (mask_bits (part * 4) 4 mask) xs ys

pub high_merged : (mask : List ℕ) (part : ℕ) (xs ys : List ℕ) → get_or mask (part / 2) 0 < 256 → part % 2 ≡ 1
    → sel_l (map (λ place. bit_and (get_or mask (part / 2) 0) place == place) (16 ∷ 32 ∷ 64 ∷ 128 ∷ [])) xs ys ≡ merged (mask_bits (part * 4) 4 mask) xs ys
high_merged mask part xs ys l e =
    let byte = get_or mask (part / 2) 0 in
    ap (λ bs. sel_l bs xs ys) (four_flags byte 16 32 64 128 4 5 6 7 (is_set 16 4 refl byte l) (is_set 32 5 refl byte l) (is_set 64 6 refl byte l)
    (is_set 128 7 refl byte l) ∙ four_read mask part 4 (omega (arith, e)) (omega arith))
    ∙ selected_is_merged (mask_bits (part * 4) 4 mask) xs ys
