-- Lists in which some pass a test.
use Rattle.std.proofs.Common.{◌≡◌, ℕ, zero, suc, ◌-◌, ◌<◌, ◌≤◌, Bool, true, false, cond, List, [], ◌∷◌, ◌++◌, length, get_or, take, map, filter, refl, sym, ap}
use Rattle.std.proofs.Common.{subst, ◌∙◌, arith, inl, inr, length-append, length-take-le}
use Rattle.std.specs.Prelude.{◌||◌}
use Rattle.std.specs.List.{AllByRecursion, list_all, list_any}
use Rattle.std.proofs.lemmas.Bool.{and_from, cases_eq, or_parts}
use Rattle.std.proofs.lemmas.List.Folds.{list_any-append}
use Rattle.halide_pipeline.proofs.Seeing.{all_parts}
use Rattle.schedule_loops.specs.Visits.{upto}

pub any_map : {A B : Type 0} (test : B → Bool) (f : A → B) (xs : List A) → list_any test (map f xs) ≡ list_any (λ x. test (f x)) xs
any_map test f [] = refl
any_map test f (x ∷ xs) = ap (λ (b : Bool). test (f x) || b) (any_map test f xs)

pub all_map : {A B : Type 0} (P : B → Type 0) (Q : A → Type 0) (f : A → B) → ((x : A) → P (f x) → Q x) → (xs : List A) → AllByRecursion P (map f xs)
    → AllByRecursion Q xs
all_map P Q f step [] all = tt
all_map P Q f step (x ∷ xs) all = (step x all.0, all_map P Q f step xs all.1)

-- all pass a test
pub all_pass : {A : Type 0} (test : A → Bool) (xs : List A) → AllByRecursion (λ x. test x ≡ true) xs → list_all test xs ≡ true
all_pass test [] all = refl
all_pass test (x ∷ xs) all = and_from (test x) (list_all test xs) all.0 (all_pass test xs all.1)

-- one that passes has what all have that pass
pub any_gives : {A : Type 0} (P : A → Type 0) (C : Type 0) (test : A → Bool) → ((x : A) → P x → test x ≡ true → C) → (xs : List A) → AllByRecursion P xs
    → list_any test xs ≡ true → C
any_gives P C test step [] all e = absurd cc
any_gives {A} P C test step (x ∷ xs) all e = by_test (test x) refl e (any_gives P C test step xs all.1)
  where
    by_test : (b : Bool) → test x ≡ b → (b || list_any test xs) ≡ true → (list_any test xs ≡ true → C) → C
    by_test true is f later = step x all.0 is
    by_test false is f later = later f

pub none_passes : {A : Type 0} (test : A → Bool) (xs : List A) → list_any test xs ≡ false → AllByRecursion (λ x. test x ≡ false) xs
none_passes test [] e = tt
none_passes test (x ∷ xs) e = let p = or_parts (test x) (list_any test xs) e in (p.0, none_passes test xs p.1)

pub none_kept : {A : Type 0} (test : A → Bool) (xs : List A) → filter test xs ≡ [] → list_any test xs ≡ false
none_kept test [] e = refl
none_kept {A} test (x ∷ xs) e = by_test (test x) e (none_kept test xs)
  where
    by_test : (b : Bool) → cond b (x ∷ filter test xs) (filter test xs) ≡ [] → (filter test xs ≡ [] → list_any test xs ≡ false)
        → (b || list_any test xs) ≡ false
    by_test true f later = absurd cc
    by_test false f later = later f

pub none_upto : {A : Type 0} (test : A → Bool) (list : ℕ → List A) (n : ℕ) → ((k : ℕ) → k < n → list_any test (list k) ≡ false)
    → list_any test (upto n list) ≡ false
unfolding upto
none_upto test list zero none = refl
none_upto test list (suc n) none =
    list_any-append test (upto n list) (list n)
    ∙ ap (λ (b : Bool). b || list_any test (list n)) (none_upto test list n (λ k l. none k (omega (arith, l))))
    ∙ none n (omega arith)

pub all_upto : {A : Type 0} (P : A → Type 0) (list : ℕ → List A) (n : ℕ) → AllByRecursion P (upto n list) → (k : ℕ) → k < n → AllByRecursion P (list k)
unfolding upto
all_upto P list zero all k l = absurd (omega (arith, l))
all_upto P list (suc n) all k l =
    let parts = all_parts P (upto n list) (list n) all in
    elim (cases_eq k n) [
      | inl same ↦ subst (λ (m : ℕ). AllByRecursion P (list m)) (sym same) parts.1
      | inr other ↦ all_upto P list n parts.0 k (omega (arith, l, other))
    ]

-- without the last one
all_taken : {A : Type 0} (xs : List A) (y : A) → take (length xs) (xs ++ y ∷ []) ≡ xs
all_taken [] y = refl
all_taken {A} (x ∷ xs) y = ap (λ (zs : List A). x ∷ zs) (all_taken xs y)

pub before_last : {A : Type 0} (xs : List A) (y : A) → take (length (xs ++ y ∷ []) - 1) (xs ++ y ∷ []) ≡ xs
before_last {A} xs y =
    let n : length (xs ++ y ∷ []) - 1 ≡ length xs = omega (arith, length-append xs (y ∷ [])) in
    ap (λ (k : ℕ). take k (xs ++ y ∷ [])) n ∙ all_taken xs y

-- the last one, after those before it
last_by : {A : Type 0} (xs : List A) (x : A) (n : ℕ) → length xs ≡ suc n → x ≡ get_or xs n x → take n xs ++ x ∷ [] ≡ xs
last_by [] x n e is = absurd (omega (arith, e))
last_by {A} (y ∷ []) x zero e is = ap (λ (z : A). z ∷ []) is
last_by (y ∷ []) x (suc n) e is = absurd (omega (arith, e))
last_by (y ∷ z ∷ zs) x zero e is = absurd (omega (arith, e))
last_by {A} (y ∷ z ∷ zs) x (suc n) e is = ap (λ (ws : List A). y ∷ ws) (last_by (z ∷ zs) x n (omega (arith, e)) is)

pub last_of : {A : Type 0} (xs : List A) (x : A) → 1 ≤ length xs → x ≡ get_or xs (length xs - 1) x → take (length xs - 1) xs ++ x ∷ [] ≡ xs
last_of xs x some is = last_by xs x (length xs - 1) (omega (arith, some)) is

pub none_below : {A : Type 0} (xs : List A) → length xs < 1 → [] ≡ xs
none_below [] few = refl
none_below (x ∷ xs) few = absurd (omega (arith, few))

pub fewer_taken : {A : Type 0} (xs : List A) → 1 ≤ length xs → length (take (length xs - 1) xs) < length xs
fewer_taken xs some = omega (arith, some, length-take-le (length xs - 1) xs (omega (arith, some)))
