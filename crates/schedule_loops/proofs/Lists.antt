-- Places of lists.
use Rattle.std.proofs.Common.{◌≡◌, ℕ, zero, suc, ◌-◌, ◌<◌, ◌≤◌, List, [], ◌∷◌, ◌++◌, length, get_or, take, drop, Some, refl, sym, ap, ◌∙◌, arith, inl, inr}
use Rattle.std.specs.Prelude.{slice_get}
use Rattle.std.proofs.lemmas.Bool.{cases_lt}
use Rattle.std.proofs.Math.Seq.{take-length}

-- a list that isn't empty, as code takes its first element
pub first_of_rest : {A : Type 0} (rest : List A) (other : A) → 1 ≤ length rest → rest ≡ get_or rest 0 other ∷ take (length rest - 1) (drop 1 rest)
first_of_rest [] other some = absurd (omega arith)
first_of_rest {A} (x ∷ rest) other some =
    let e : suc (length rest) - 1 ≡ length rest = omega arith in
    ap (λ (xs : List A). x ∷ xs) (sym (ap (λ (n : ℕ). take n rest) e ∙ take-length rest))

-- ---- one more at the end

pub get_last : {A : Type 0} (xs : List A) (x : A) → slice_get (xs ++ x ∷ []) (length xs) ≡ Some x
get_last [] x = refl
get_last (y ∷ xs) x = get_last xs x

pub get_before : {A : Type 0} (xs : List A) (x : A) (i : ℕ) → i < length xs → slice_get (xs ++ x ∷ []) i ≡ slice_get xs i
get_before [] x i l = absurd (omega arith)
get_before (y ∷ xs) x zero l = refl
get_before (y ∷ xs) x (suc i) l = get_before xs x i (omega arith)

pub get_behind : {A : Type 0} (xs : List A) (x : A) (i : ℕ) → length xs < i → slice_get (xs ++ x ∷ []) i ≡ slice_get xs i
get_behind [] x zero l = absurd (omega arith)
get_behind [] x (suc i) l = refl
get_behind (y ∷ xs) x zero l = absurd (omega arith)
get_behind (y ∷ xs) x (suc i) l = get_behind xs x i (omega arith)

pub get_other : {A : Type 0} (xs : List A) (x : A) (i : ℕ) → (length xs ≡ i → ⊥) → slice_get (xs ++ x ∷ []) i ≡ slice_get xs i
get_other xs x i d = elim (cases_lt i (length xs)) [ inl l ↦ get_before xs x i l | inr g ↦ get_behind xs x i (omega (arith, d)) ]
