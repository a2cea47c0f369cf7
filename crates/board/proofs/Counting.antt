-- Counting over the tokens of a board, and what a token knows of words of which one changes.
use Rattle.std.proofs.Common.{◌≡◌, ◌≢◌, ℕ, zero, suc, ◌+◌, ◌<◌, ◌≤◌, Bool, if◌then◌else◌, List, [], ◌∷◌, ◌++◌, length, set, refl, sym, ap, ◌∙◌, arith, eq-eqb}
use Rattle.std.proofs.Common.{ne_eqb}
use Rattle.std.specs.Prelude.{slice_index}
use Rattle.std.proofs.lemmas.List.{get_or-set_same, get_or-set_other}
use mathlib.Core.Option.{some, some-injective, some-ne-none}
use mathlib.Core.Logic.{dite}
use native.Mathlib.Decide.{ℕ_discrete}
use lib.ListN.{get_elem?}
use Rattle.board.specs.Steps.{last_found}
use Rattle.board.specs.Rule.{times, total, AreWords, AreSeen}

pub total-set : {A : Type 0} (f : A → ℕ) (xs : List A) (i : ℕ) (x y : A) → get_elem? xs i ≡ some x → total f (set xs i y) + f x ≡ total f xs + f y
total-set f [] i x y e = absurd (some-ne-none x (sym e))
total-set f (a ∷ xs) zero x y e = let p = ap f (some-injective a x e) in omega (arith)
total-set f (a ∷ xs) (suc i) x y e = let h = total-set f xs i x y e in omega (arith)

pub total-append : {A : Type 0} (f : A → ℕ) (xs ys : List A) → total f (xs ++ ys) ≡ total f xs + total f ys
total-append f [] ys = omega (arith)
total-append f (x ∷ xs) ys = let h = total-append f xs ys in omega (arith)

pub total-one : {A : Type 0} (f : A → ℕ) (xs : List A) (i : ℕ) (x : A) → get_elem? xs i ≡ some x → f x ≤ total f xs
total-one f [] i x e = absurd (some-ne-none x (sym e))
total-one f (a ∷ xs) zero x e = let p = ap f (some-injective a x e) in omega (arith)
total-one f (a ∷ xs) (suc i) x e = let h = total-one f xs i x e in omega (arith)

pub total-two : {A : Type 0} (f : A → ℕ) (xs : List A) (i j : ℕ) (x y : A) → get_elem? xs i ≡ some x → get_elem? xs j ≡ some y → j ≢ i → f x + f y ≤ total f xs
total-two f [] i j x y e d n = absurd (some-ne-none x (sym e))
total-two f (a ∷ xs) zero zero x y e d n = absurd (n refl)
total-two f (a ∷ xs) zero (suc j) x y e d n = let p = ap f (some-injective a x e) in let h = total-one f xs j y d in omega (arith)
total-two f (a ∷ xs) (suc i) zero x y e d n = let p = ap f (some-injective a y d) in let h = total-one f xs i x e in omega (arith)
total-two f (a ∷ xs) (suc i) (suc j) x y e d n = let h = total-two f xs i j x y e d (λ s. n (ap suc s)) in omega (arith)

pub times-append : (hart : ℕ) (xs ys : List (ℕ × ℕ)) → times hart (xs ++ ys) ≡ times hart xs + times hart ys
times-append hart [] ys = omega (arith)
times-append hart (x ∷ xs) ys = let h = times-append hart xs ys in omega (arith)

pub times-here : (hart : ℕ) (one : ℕ × ℕ) (others : List (ℕ × ℕ)) → one.0 ≡ hart → times hart (one ∷ others) ≡ 1 + times hart others
times-here hart one others e = ap (λ (b : Bool). (if b then 1 else 0) + times hart others) (eq-eqb one.0 hart e)

pub times-apart : (hart : ℕ) (one : ℕ × ℕ) (others : List (ℕ × ℕ)) → one.0 ≢ hart → times hart (one ∷ others) ≡ times hart others
times-apart hart one others n = let e = ap (λ (b : Bool). (if b then 1 else 0) + times hart others) (ne_eqb one.0 hart n) in omega (arith, e)

-- a token that doesn't count the hart knows its words still
pub counts-set : (words : List ℕ) (i value : ℕ) (counts : List (ℕ × ℕ)) → times i counts ≡ 0 → AreWords words counts → AreWords (set words i value) counts
counts-set words i value [] z a = tt
counts-set words i value (one ∷ others) z a =
    dite (ℕ_discrete one.0 i)
    (λ e. absurd (let h = times-here i one others e in omega (arith)))
    (λ n. let h = times-apart i one others n in (get_or-set_other words i one.0 value 0 n ∙ a.0, counts-set words i value others (sym h ∙ z) a.1))

-- a word that becomes no less is no less than what was found
pub sights-set : (words : List ℕ) (i value : ℕ) (sights : List (ℕ × ℕ)) → i < length words → slice_index words i ≤ value → AreSeen words sights
    → AreSeen (set words i value) sights
sights-set words i value [] there more a = tt
sights-set words i value (one ∷ others) there more a = (
  dite (ℕ_discrete one.0 i)
      (λ e. let h = ap (slice_index (set words i value)) e ∙ get_or-set_same words i value 0 there in let p = a.0 in let q = ap (slice_index words) e in
      omega (arith, h, p, q))
      (λ n. let h = get_or-set_other words i one.0 value 0 n in let p = a.0 in omega (arith, h, p)),
  sights-set words i value others there more a.1,
)

pub last_found-here : (one : ℕ × ℕ) (others : List (ℕ × ℕ)) (hart : ℕ) → one.0 ≡ hart → last_found (one ∷ others) hart ≡ one.1
last_found-here one others hart e = ap (λ (b : Bool). if b then one.1 else last_found others hart) (eq-eqb one.0 hart e)

pub last_found-apart : (one : ℕ × ℕ) (others : List (ℕ × ℕ)) (hart : ℕ) → one.0 ≢ hart → last_found (one ∷ others) hart ≡ last_found others hart
last_found-apart one others hart n = ap (λ (b : Bool). if b then one.1 else last_found others hart) (ne_eqb one.0 hart n)
