-- Numbers that are read one after the other, and their bytes.
use Rattle.std.proofs.Common.{◌≡◌, ℕ, zero, suc, ◌+◌, ◌*◌, ◌^◌, ◌<◌, ◌≤◌, List, [], ◌∷◌, ◌++◌, length, get_or, take, drop, refl, sym, ap, ◌∙◌, append_assoc}
use Rattle.std.proofs.Common.{arith, inl, inr}
use Rattle.std.specs.List.{AllByRecursion}
use Rattle.std.specs.Int.{w32, to_le_bytes, from_le_bytes}
use Rattle.std.proofs.lemmas.Bool.{cases_lt}
use Rattle.std.proofs.lemmas.List.{drop-drop, take-append-drop, length-take, length-drop, get_or-drop, get_or-take, get_or_past}
use Rattle.std.proofs.lemmas.Nat.{le_bytes_4, from_le_bytes-to_le_bytes_4}
use Rattle.loader.specs.Spelling.{number_at, numbers_in, spelled_numbers}

abbrev pub IsBytes : List ℕ → Type 0
IsBytes bytes = (i : ℕ) → get_or bytes i 0 < 256

pub IsBytes-drop : (n : ℕ) (bytes : List ℕ) → IsBytes bytes → IsBytes (drop n bytes)
IsBytes-drop n bytes fits i = rw get_or-drop (fits (n + i))

IsBytes-take : (n : ℕ) (bytes : List ℕ) → IsBytes bytes → IsBytes (take n bytes)
IsBytes-take n bytes fits i =
    elim (cases_lt i n) [
      | inl lt ↦ rw (get_or-take n bytes i 0 lt) (fits i)
      | inr le ↦ rw (get_or_past (take n bytes) i 0 (omega (arith, length-take n bytes))) (omega arith)
    ]

-- what is read in two steps is read in one
pub drop_twice : (m n k : ℕ) (bytes : List ℕ) → m + n ≡ k → drop n (drop m bytes) ≡ drop k bytes
drop_twice m n k bytes e = drop-drop n m bytes ∙ ap (λ (place : ℕ). drop place bytes) e

-- ---- reading

-- one more number is the number at the next place
pub numbers_in-suc : (count : ℕ) (bytes : List ℕ) → numbers_in (suc count) bytes ≡ numbers_in count bytes ++ number_at bytes (4 * count) ∷ []
unfolding number_at
numbers_in-suc zero bytes = refl
numbers_in-suc (suc count) bytes =
    let here : number_at (drop 4 bytes) (4 * count) ≡ number_at bytes (4 * suc count) =
    ap (λ (rest : List ℕ). from_le_bytes w32 (take 4 rest)) (drop_twice 4 (4 * count) (4 * suc count) bytes (omega arith)) in
    rw (numbers_in-suc count (drop 4 bytes), here) refl

-- the same with `+ 1`, as a loop counts
pub numbers_in_more : (count : ℕ) (bytes : List ℕ) → numbers_in (count + 1) bytes ≡ numbers_in count bytes ++ number_at bytes (4 * count) ∷ []
numbers_in_more count bytes =
    let next : count + 1 ≡ suc count = omega arith in
    rw next (numbers_in-suc count bytes)

pub length-numbers_in : (count : ℕ) (bytes : List ℕ) → length (numbers_in count bytes) ≡ count
length-numbers_in zero bytes = refl
length-numbers_in (suc count) bytes = ap suc (length-numbers_in count (drop 4 bytes))

-- a number that is read is spelled by the bytes at its place
pub number_cut : (bytes : List ℕ) (place next : ℕ) → IsBytes bytes → place + 4 ≡ next → next ≤ length bytes
    → drop place bytes ≡ to_le_bytes w32 (number_at bytes place) ++ drop next bytes
unfolding number_at
number_cut bytes place next fits e le =
    let front = take 4 (drop place bytes) in
    let len : length front ≡ 4 = omega (arith, length-take 4 (drop place bytes), length-drop place bytes) in
    let is_spelled : to_le_bytes w32 (number_at bytes place) ≡ front = le_bytes_4 front (number_at bytes place) len (IsBytes-take 4 (drop place bytes)
    (IsBytes-drop place bytes fits)) refl in
    sym (take-append-drop 4 (drop place bytes)) ∙ ap (λ (xs : List ℕ). xs ++ drop 4 (drop place bytes)) (sym is_spelled)
    ∙ ap (λ (xs : List ℕ). to_le_bytes w32 (number_at bytes place) ++ xs) (drop_twice place 4 next bytes e)

-- and so are numbers
pub numbers_cut : (count : ℕ) (bytes : List ℕ) → IsBytes bytes → 4 * count ≤ length bytes → bytes ≡ spelled_numbers (numbers_in count bytes)
    ++ drop (4 * count) bytes
numbers_cut zero bytes fits le = refl
numbers_cut (suc count) bytes fits le =
    let first : bytes ≡ to_le_bytes w32 (number_at bytes 0) ++ drop 4 bytes = number_cut bytes 0 4 fits refl (omega arith) in
    let others = numbers_cut count (drop 4 bytes) (IsBytes-drop 4 bytes fits) (omega (arith, length-drop 4 bytes)) in
    let rest : drop (4 * count) (drop 4 bytes) ≡ drop (4 * suc count) bytes = drop_twice 4 (4 * count) (4 * suc count) bytes (omega arith) in
    first
    ∙ ap (λ (xs : List ℕ). to_le_bytes w32 (number_at bytes 0) ++ xs) (others ∙ ap (λ (xs : List ℕ). spelled_numbers (numbers_in count (drop 4 bytes)) ++ xs)
    rest)
    ∙ sym (append_assoc (to_le_bytes w32 (number_at bytes 0)) (spelled_numbers (numbers_in count (drop 4 bytes))) (drop (4 * suc count) bytes))

-- ---- what is spelled is read again

pub number_again : (n : ℕ) (rest : List ℕ) → n < 2 ^ 32 → number_at (to_le_bytes w32 n ++ rest) 0 ≡ n
unfolding number_at
number_again n rest lt = from_le_bytes-to_le_bytes_4 n lt

pub length-spelled_numbers : (numbers : List ℕ) → length (spelled_numbers numbers) ≡ 4 * length numbers
length-spelled_numbers [] = refl
length-spelled_numbers (n ∷ numbers) = omega (arith, length-spelled_numbers numbers)

pub numbers_again : (numbers rest : List ℕ) → AllByRecursion (λ n. n < 2 ^ 32) numbers → numbers_in (length numbers) (spelled_numbers numbers ++ rest) ≡ numbers
numbers_again [] rest fits = refl
numbers_again (n ∷ numbers) rest fits = rw (number_again n (spelled_numbers numbers ++ rest) fits.0, numbers_again numbers rest fits.1) refl
