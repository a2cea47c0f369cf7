-- Words of data and their bytes.
use Rattle.std.proofs.Common.{◌≡◌, ℕ, zero, suc, ◌+◌, ◌-◌, ◌/◌, ◌%◌, ◌^◌, ◌<◌, List, [], ◌∷◌, get_or, true, false, refl, ap, ◌∙◌, sym, arith, inl, inr}
use Rattle.std.specs.Prelude.{slice_index, nat_lt}
use Rattle.std.specs.Int.{w32, from_le_bytes, to_le_bytes}
use Rattle.std.proofs.lemmas.Bool.{cases_lt}
use Rattle.std.proofs.lemmas.Bool.Decides.{nat_tests}
use Rattle.std.proofs.lemmas.Nat.{from_le_bytes-to_le_bytes_4, le_bytes_4}
use Rattle.memory.specs.Access.{data_start, text_start, byte_at, AreBytes, word_at}
use Rattle.vector_codegen_laws.specs.Uses.{byte_of}

remainder-below : (n : ℕ) → n % 256 < 256
remainder-below n = omega arith

pub byte-below : (text memory : List ℕ) (a : ℕ) → AreBytes memory → byte_at text memory a < 256
byte-below text memory a b = elim (cases_lt a data_start) [
  | inl l ↦
      let t : nat_lt a data_start ≡ true = grind (arith, nat_tests) in
      rw t (remainder-below (slice_index text ((a - text_start) / 4) / 256 ^ ((a - text_start) % 4)))
  | inr l ↦
      let t : nat_lt a data_start ≡ false = grind (arith, nat_tests) in
      rw t (b (a - data_start))
]

abbrev four : (ℕ → ℕ) → ℕ → List ℕ
four f a = f a ∷ f (a + 1) ∷ f (a + 2) ∷ f (a + 3) ∷ []

four-below : (f : ℕ → ℕ) (a : ℕ) → ((k : ℕ) → f k < 256) → (i : ℕ) → get_or (four f a) i 0 < 256
four-below f a g zero = g a
four-below f a g (suc zero) = g (a + 1)
four-below f a g (suc (suc zero)) = g (a + 2)
four-below f a g (suc (suc (suc zero))) = g (a + 3)
four-below f a g (suc (suc (suc (suc i)))) = omega arith

four-at : (f : ℕ → ℕ) (a i : ℕ) → i < 4 → f (a + i) ≡ slice_index (four f a) i
four-at f a zero l = ap f (let e : a + 0 ≡ a = omega arith in e)
four-at f a (suc zero) l = refl
four-at f a (suc (suc zero)) l = refl
four-at f a (suc (suc (suc zero))) l = refl
four-at f a (suc (suc (suc (suc i)))) l = absurd (omega (arith, l))

-- the bytes of a word's number
pub word-bytes : (text memory : List ℕ) (a n i : ℕ) → AreBytes memory → word_at text memory a ≡ n → i < 4 → byte_at text memory (a + i) ≡ byte_of n i
word-bytes text memory a n i b e l =
    let f = byte_at text memory in
    let bytes : to_le_bytes w32 n ≡ four f a = le_bytes_4 (four f a) n refl (four-below f a (λ k. byte-below text memory k b)) (sym e) in
    four-at f a i l ∙ ap (λ z. slice_index z i) (sym bytes)

-- and the other way
pub bytes-word : (text memory : List ℕ) (a n : ℕ) → n < 2 ^ 32 → ((i : ℕ) → i < 4 → byte_at text memory (a + i) ≡ byte_of n i) → word_at text memory a ≡ n
bytes-word text memory a n l f =
    let z : a + 0 ≡ a = omega arith in
    let e0 : byte_at text memory a ≡ byte_of n 0 = ap (byte_at text memory) (sym z) ∙ f 0 (omega arith) in
    let e1 = f 1 (omega arith) in
    let e2 = f 2 (omega arith) in
    let e3 = f 3 (omega arith) in
    let bytes : four (byte_at text memory) a ≡ to_le_bytes w32 n =
    ap (λ x. x ∷ byte_at text memory (a + 1) ∷ byte_at text memory (a + 2) ∷ byte_at text memory (a + 3) ∷ []) e0
    ∙ ap (λ x. byte_of n 0 ∷ x ∷ byte_at text memory (a + 2) ∷ byte_at text memory (a + 3) ∷ []) e1
    ∙ ap (λ x. byte_of n 0 ∷ byte_of n 1 ∷ x ∷ byte_at text memory (a + 3) ∷ []) e2
    ∙ ap (λ x. byte_of n 0 ∷ byte_of n 1 ∷ byte_of n 2 ∷ x ∷ []) e3 in
    ap (from_le_bytes w32) bytes ∙ from_le_bytes-to_le_bytes_4 n l

four-small : (x y z w : ℕ) → x < 256 → y < 256 → z < 256 → w < 256 → from_le_bytes w32 (x ∷ y ∷ z ∷ w ∷ []) < 2 ^ 32
four-small x y z w a b c d = omega (arith, a, b, c, d)

pub word-small : (text memory : List ℕ) (a : ℕ) → AreBytes memory → word_at text memory a < 2 ^ 32
word-small text memory a b =
    four-small (byte_at text memory a) (byte_at text memory (a + 1)) (byte_at text memory (a + 2)) (byte_at text memory (a + 3))
    (byte-below text memory a b) (byte-below text memory (a + 1) b) (byte-below text memory (a + 2) b) (byte-below text memory (a + 3) b)
