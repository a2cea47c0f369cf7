-- The search among candidates finds what the search among all forms does, and mnemonics tell forms apart.
use Rattle.std.proofs.Common.{◌≡◌, ℕ, ◌==◌, ◌&&◌, List, [], ◌∷◌, refl, sym, ap, subst, arith, Some, Bool, true, false, cond}
use Rattle.std.specs.Prelude.{find, filter}
use Rattle.std.proofs.lemmas.Slice.Eq.{bytes_eq-Decides}
use Rattle.assembler_mnemonics.specs.Forms.{mnemonic}
use Rattle.assembler_mnemonics.specs.Named.{forms, form_among, form_named, forms_in, is_in, group_number, group_of}

-- ---- tests

pub both_true : (a b : Bool) → (a && b) ≡ true → (a ≡ true) × (b ≡ true)
both_true true b h = (refl, h)
both_true false b h = absurd cc

pub some_same : {X : Type 0} (x y : X) → Some x ≡ Some y → x ≡ y
some_same x y e = cc

-- what `find` finds passes the test
pub find_passes : {X : Type 0} (test : X → Bool) (xs : List X) (x : X) → find test xs ≡ Some x → test x ≡ true
find_passes test [] x e = absurd cc
find_passes test (y ∷ ys) x e = elim (test y) as (λ t. (test y ≡ t) → cond t (Some y) (find test ys) ≡ Some x → test x ≡ true) [
  | true ↦ λ passes same. subst (λ z. test z ≡ true) (some_same y x same) passes
  | false ↦ λ fails later. find_passes test ys x later
] refl e

-- ---- where to look

not_both : (b : Bool) → b ≡ true → b ≡ false → ⊥
not_both b h k = cc

-- what passes a test is found among those that pass another, if each that passes the first passes that one
find_filtered : {X : Type 0} (test kept : X → Bool) (xs : List X) → ((x : X) → test x ≡ true → kept x ≡ true) → find test (filter kept xs) ≡ find test xs
find_filtered test kept [] h = refl
find_filtered test kept (x ∷ xs) h =
    let later = find_filtered test kept xs h in
    elim (kept x) as (λ k. (kept x ≡ k) → find test (cond k (x ∷ filter kept xs) (filter kept xs)) ≡ cond (test x) (Some x) (find test xs)) [
      | true ↦ λ is. ap (λ rest. cond (test x) (Some x) rest) later
      | false ↦ λ is. elim (test x) as (λ t. (test x ≡ t) → find test (filter kept xs) ≡ cond t (Some x) (find test xs)) [
        | true ↦ λ passes. absurd (not_both (kept x) (h x passes) is)
        | false ↦ λ fails. later
      ] refl
    ] refl

same_number : (n : ℕ) → (n == n) ≡ true
same_number n = grind arith

pub among_candidates : (name : List ℕ) → form_among (forms_in (group_of name)) name ≡ form_named name
unfolding form_among forms_in is_in
among_candidates name = find_filtered _ _ forms (λ form same. subst (λ n. (group_number (group_of n) == group_number (group_of name)) ≡ true)
    (sym ((bytes_eq-Decides (mnemonic form) name).0 same)) (same_number (group_number (group_of name))))
