-- The words and bytes of the example's data.
use Rattle.multi_hart.specs.Run.{Within, is_in}
use Rattle.std.proofs.Common.{◌≡◌, ℕ, zero, suc, ◌+◌, ◌-◌, ◌*◌, ◌%◌, ◌^◌, ◌<◌, ◌≤◌, List, [], ◌∷◌, length, true, false, refl, ap, ◌∙◌, sym, arith, inl, inr}
use Rattle.std.specs.Prelude.{◌≢◌, ◌==◌, map, slice_index, nat_lt, cond, replicate}
use Rattle.std.proofs.lemmas.Bool.{ltb-false, cases_eq, cases_Bool}
use Rattle.std.proofs.lemmas.Bool.Decides.{nat_tests}
use Rattle.std.specs.Int.{w32, to_le_bytes, from_le_bytes}
use Rattle.memory.specs.Access.{data_start, byte_at, Word, word_at, put_number, touched}
use Rattle.hart_core.specs.Scalar.{one_access}
use Rattle.multi_hart_laws.specs.Uses.{Use, Control, Owned, Private}
use Rattle.std.specs.Prelude.{◌/◌}
use Rattle.std.proofs.lemmas.Nat.{from_le_bytes-to_le_bytes_4}
use Rattle.memory.proofs.Words.{bytes-put}
use Rattle.work_sharing.specs.Example.{first_uses, second_uses, first_result, second_result, use_by, byte_by}

-- the address of a word
abbrev pub word : ℕ → ℕ
word j = data_start + 4 * j

below-data : (b : ℕ) → data_start ≤ b → nat_lt b data_start ≡ false
below-data b l = grind (arith, nat_tests)

pub word-number : (j b : ℕ) → word j ≤ b → b < word j + 4 → (b - data_start) / 4 ≡ j
word-number j b l h = omega (arith, l, h)

pub byte-number : (j b : ℕ) → word j ≤ b → b < word j + 4 → (b - data_start) % 4 ≡ b - word j
byte-number j b l h = omega (arith, l, h)

pub use-in : (words : ℕ → Use) (j b : ℕ) → word j ≤ b → b < word j + 4 → use_by words b ≡ words j
use-in words j b l h = ap (λ t. cond t Control (words ((b - data_start) / 4))) (below-data b (omega (arith, l))) ∙ ap words (word-number j b l h)

-- the word in which a byte is that is not just for control
pub in-word : (words : ℕ → Use) (b : ℕ) → (use_by words b ≡ Control → ⊥) → (j : ℕ) × ((word j ≤ b) × (b < word j + 4))
in-word words b n = elim (cases_Bool (nat_lt b data_start)) [
  | inl t ↦ absurd (n (ap (λ q. cond q Control (words ((b - data_start) / 4))) t))
  | inr f ↦ let l = ltb-false b data_start f in ((b - data_start) / 4, (omega (arith, l), omega (arith, l)))
]

pub each-byte : (P : ℕ → Type 0) (a : ℕ) → ((b : ℕ) → a ≤ b → b < a + 4 → P b) → Within P (touched (one_access Word a))
each-byte P a f = (
  f a (omega arith) (omega arith),
  (
    f (a + 1) (omega arith) (omega arith),
    (
      f (a + 2) (omega arith) (omega arith),
      (
        f (a + 3) (omega arith)
            (omega arith),
        tt,
      ),
    ),
  ),
)

same-test : (a b : ℕ) → a ≡ b → (a == b) ≡ true
same-test a b e = grind (arith, nat_tests)

other-test : (a b : ℕ) → a ≢ b → (a == b) ≡ false
other-test a b e = grind (arith, nat_tests)

is-in-cons : (b q : ℕ) (qs : List ℕ) → (b ≢ q → is_in b qs ≡ true) → is_in b (q ∷ qs) ≡ true
is-in-cons b q qs f = elim (cases_eq b q) [
  | inl e ↦ ap (λ t. cond t true (is_in b qs)) (same-test b q e)
  | inr n ↦ ap (λ t. cond t true (is_in b qs)) (other-test b q n) ∙ f n
]

pub in-touched : (b a : ℕ) → a ≤ b → b < a + 4 → is_in b (touched (one_access Word a)) ≡ true
in-touched b a l h =
    is-in-cons b a ((a + 1) ∷ (a + 2) ∷ (a + 3) ∷ []) (λ n. is-in-cons b (a + 1) ((a + 2) ∷ (a + 3) ∷ []) (λ n1. is-in-cons b (a + 2) ((a + 3) ∷ [])
    (λ n2. is-in-cons b (a + 3) [] (λ n3. absurd (omega (arith, l, h, n, n1, n2, n3))))))

-- a byte of a word that is put
byte-of-four : (f : ℕ → ℕ) (a v d : ℕ) → map f (a ∷ (a + 1) ∷ (a + 2) ∷ (a + 3) ∷ []) ≡ to_le_bytes w32 v → d < 4
    → f (a + d) ≡ slice_index (to_le_bytes w32 v) d
byte-of-four f a v zero e l = ap f (let q : a + 0 ≡ a = omega arith in q) ∙ ap (λ bs. slice_index bs 0) e
byte-of-four f a v (suc zero) e l = ap f (let q : a + suc zero ≡ a + 1 = omega arith in q) ∙ ap (λ bs. slice_index bs 1) e
byte-of-four f a v (suc (suc zero)) e l = ap f (let q : a + suc (suc zero) ≡ a + 2 = omega arith in q) ∙ ap (λ bs. slice_index bs 2) e
byte-of-four f a v (suc (suc (suc zero))) e l = ap f (let q : a + suc (suc (suc zero)) ≡ a + 3 = omega arith in q) ∙ ap (λ bs. slice_index bs 3) e
byte-of-four f a v (suc (suc (suc (suc d)))) e l = absurd (omega (arith, l))

pub byte-put-in : (words : ℕ → ℕ) (text m : List ℕ) (j v b : ℕ) → word j + 4 ≤ data_start + length m → word j ≤ b → b < word j + 4 → v ≡ words j
    → byte_at text (put_number m Word (word j) v) b ≡ byte_by words b
byte-put-in words text m j v b s l h e =
    let m1 = put_number m Word (word j) v in
    let q : b ≡ word j + (b - word j) = omega (arith, l) in
    ap (byte_at text m1) q
    ∙ byte-of-four (byte_at text m1) (word j) v (b - word j) (bytes-put text m Word (word j) v (omega arith) s) (omega (arith, l, h))
    ∙ ap (λ n. slice_index (to_le_bytes w32 n) (b - word j)) (e ∙ ap words (sym (word-number j b l h)))
    ∙ ap (slice_index (to_le_bytes w32 (words ((b - data_start) / 4)))) (sym (byte-number j b l h))

-- a word whose bytes are known
pub word-by : (words : ℕ → ℕ) (text m : List ℕ) (j : ℕ) → ((b : ℕ) → word j ≤ b → b < word j + 4 → byte_at text m b ≡ byte_by words b) → words j < 2 ^ 32
    → word_at text m (word j) ≡ words j
word-by words text m j f h =
    let n = words j in
    let byte : (d : ℕ) → d < 4 → byte_at text m (word j + d) ≡ slice_index (to_le_bytes w32 n) d = λ d l.
    f (word j + d) (omega arith) (omega (arith, l))
    ∙ ap (λ k. slice_index (to_le_bytes w32 (words k)) ((word j + d - data_start) % 4)) (word-number j (word j + d) (omega arith) (omega (arith, l)))
    ∙ ap (slice_index (to_le_bytes w32 n)) (byte-number j (word j + d) (omega arith) (omega (arith, l)) ∙ (let q : word j + d - word j ≡ d = omega arith in q))
    in
    let z : word j + 0 ≡ word j = omega arith in
    let e0 : byte_at text m (word j) ≡ slice_index (to_le_bytes w32 n) 0 = ap (byte_at text m) (sym z) ∙ byte 0 (omega arith) in
    let e1 = byte 1 (omega arith) in
    let e2 = byte 2 (omega arith) in
    let e3 = byte 3 (omega arith) in
    let a = word j in
    ap (from_le_bytes w32) (ap (λ q. q ∷ byte_at text m (a + 1) ∷ byte_at text m (a + 2) ∷ byte_at text m (a + 3) ∷ []) e0
    ∙ ap (λ q. slice_index (to_le_bytes w32 n) 0 ∷ q ∷ byte_at text m (a + 2) ∷ byte_at text m (a + 3) ∷ []) e1
    ∙ ap (λ q. slice_index (to_le_bytes w32 n) 0 ∷ slice_index (to_le_bytes w32 n) 1 ∷ q ∷ byte_at text m (a + 3) ∷ []) e2
    ∙ ap (λ q. slice_index (to_le_bytes w32 n) 0 ∷ slice_index (to_le_bytes w32 n) 1 ∷ slice_index (to_le_bytes w32 n) 2 ∷ q ∷ []) e3)
    ∙ from_le_bytes-to_le_bytes_4 n h

-- zeros
pub zeros : (n i : ℕ) → slice_index (replicate n 0) i ≡ 0
zeros zero i = refl
zeros (suc n) zero = refl
zeros (suc n) (suc i) = zeros n i

pub zero-by : (words : ℕ → ℕ) (j b : ℕ) → word j ≤ b → b < word j + 4 → words j ≡ 0 → byte_by words b ≡ 0
zero-by words j b l h e = ap (λ n. slice_index (to_le_bytes w32 n) ((b - data_start) % 4)) (ap words (word-number j b l h) ∙ e) ∙ zeros 4 ((b - data_start) % 4)

-- ---- what the words are for

pub first-owned : (t : ℕ) → t < 2 → first_uses (4 + t) ≡ Owned t
first-owned zero l = refl
first-owned (suc zero) l = refl
first-owned (suc (suc t)) l = absurd (omega (arith, l))

pub second-owned : (t : ℕ) → t < 2 → second_uses (6 + t) ≡ Owned t
second-owned zero l = refl
second-owned (suc zero) l = refl
second-owned (suc (suc t)) l = absurd (omega (arith, l))

pub first-private : (k : ℕ) → k < 8 → first_uses (8 + k) ≡ Private k
first-private k l = grind (arith, nat_tests)

pub first-owner : (j t : ℕ) → first_uses j ≡ Owned t → j ≡ 4 + t
first-owner j t e = grind (arith, nat_tests)

pub second-owner : (j t : ℕ) → second_uses j ≡ Owned t → j ≡ 6 + t
second-owner j t e = grind (arith, nat_tests)

pub first-left : (t : ℕ) → t < 2 → t + 5 ≡ first_result (4 + t)
first-left zero l = refl
first-left (suc zero) l = refl
first-left (suc (suc t)) l = absurd (omega (arith, l))

pub second-left : (t : ℕ) → t < 2 → 16 - t ≡ second_result (6 + t)
second-left zero l = refl
second-left (suc zero) l = refl
second-left (suc (suc t)) l = absurd (omega (arith, l))
