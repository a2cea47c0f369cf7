-- Tests over lists, and what their answers say.
use Rattle.std.proofs.Common.{◌≡◌, zero, suc, List, [], ◌∷◌, refl, arith, subst, Some, Bool, true, false, cond, not, ◌&&◌, ◌||◌, ◌⊎◌, inl, inr}
use Rattle.std.specs.Prelude.{All, AllPairs, Contains, find}
use Rattle.std.specs.List.{list_all}
use Rattle.std.proofs.lemmas.List.Kept.{AllPairs-cons}

-- the test passes at each element and each later one
abbrev pub pairs_pass : {X : Type 0} → (X → X → Bool) → List X → Bool
pairs_pass test [] = true
pairs_pass test (x ∷ xs) = list_all (test x) xs && pairs_pass test xs

pub both_true : (a b : Bool) → (a && b) ≡ true → (a ≡ true) × (b ≡ true)
both_true true b h = (refl, h)
both_true false b h = absurd cc

pub one_true : (a b : Bool) → (a || b) ≡ true → (a ≡ true) ⊎ (b ≡ true)
one_true true b h = inl refl
one_true false b h = inr h

pub not_true : (a : Bool) → not a ≡ true → a ≡ true → ⊥
not_true true h k = cc
not_true false h k = cc

pub some_same : {X : Type 0} (x y : X) → Some x ≡ Some y → x ≡ y
some_same x y e = cc

-- what `find` finds passes the test
pub find_passes : {X : Type 0} (test : X → Bool) (xs : List X) (x : X) → find test xs ≡ Some x → test x ≡ true
find_passes test [] x e = absurd cc
find_passes test (y ∷ ys) x e = elim (test y) as (λ t. (test y ≡ t) → cond t (Some y) (find test ys) ≡ Some x → test x ≡ true) [
  | true ↦ λ passes same. subst (λ z. test z ≡ true) (some_same y x same) passes
  | false ↦ λ fails later. find_passes test ys x later
] refl e

-- what `find` finds is an element
pub Contains-find : {X : Type 0} (test : X → Bool) (xs : List X) (x : X) → find test xs ≡ Some x → Contains xs x
Contains-find test [] x h = absurd cc
Contains-find test (y ∷ ys) x h = elim (test y) as (λ t. cond t (Some y) (find test ys) ≡ Some x → Contains (y ∷ ys) x) [
  | true ↦ λ here. (0, omega arith, some_same y x here)
  | false ↦ λ later. let rest = Contains-find test ys x later in (suc rest.0, omega (arith, rest.1), rest.2)
] h

-- a test of each element, and of each two
pub All-from_test : {X : Type 0} (test : X → Bool) (P : X → Type 0) → ((x : X) → test x ≡ true → P x) → (xs : List X) → list_all test xs ≡ true → All P xs
All-from_test test P means [] h k d within = absurd (omega arith)
All-from_test test P means (x ∷ xs) h zero d within = means x (both_true _ _ h).0
All-from_test test P means (x ∷ xs) h (suc k) d within = All-from_test test P means xs (both_true _ _ h).1 k d (omega arith)

pub AllPairs-from_test : {X : Type 0} (test : X → X → Bool) (R : X → X → Type 0) → ((x y : X) → test x y ≡ true → R x y) → (xs : List X)
    → pairs_pass test xs ≡ true → AllPairs R xs
AllPairs-from_test test R means [] h = λ i j d lt within. absurd (omega arith)
AllPairs-from_test test R means (x ∷ xs) h =
    let parts = both_true _ _ h in
    AllPairs-cons R x xs (All-from_test (test x) (R x) (means x) xs parts.0) (AllPairs-from_test test R means xs parts.1)
