-- Iterations, one after the other.
use Rattle.std.proofs.Common.{◌≡◌, ◌≢◌, ℕ, zero, suc, ◌+◌, ◌-◌, ◌*◌, ◌<◌, ◌≤◌, Bool, cond, List, [], ◌∷◌, ◌++◌, refl, sym, ap, ◌∙◌, arith, add-zero, add-suc}
use Rattle.std.proofs.Common.{append_assoc, inl, inr}
use Rattle.std.specs.Prelude.{nat_lt, filter}
use Rattle.std.proofs.lemmas.List.{append-nil}
use Rattle.std.proofs.lemmas.List.Elements.{filter-append}
use Rattle.std.proofs.lemmas.Bool.{cases_eq, lt-ltb, le-ltb}
use Rattle.schedule_loops.specs.Visits.{upto}

pub upto_same : {A : Type 0} (n : ℕ) (f g : ℕ → List A) → ((v : ℕ) → v < n → f v ≡ g v) → upto n f ≡ upto n g
unfolding upto
upto_same zero f g same = refl
upto_same {A} (suc n) f g same =
    ap (λ (xs : List A). xs ++ f n) (upto_same n f g (λ v l. same v (omega arith))) ∙ ap (λ (xs : List A). upto n g ++ xs) (same n (omega arith))

pub upto-add : {A : Type 0} (m n : ℕ) (f : ℕ → List A) → upto (m + n) f ≡ upto m f ++ upto n (λ v. f (m + v))
unfolding upto
upto-add m zero f = ap (λ k. upto k f) (add-zero m) ∙ sym (append-nil (upto m f))
upto-add {A} m (suc n) f =
    ap (λ k. upto k f) (add-suc m n) ∙ ap (λ (xs : List A). xs ++ f (m + n)) (upto-add m n f) ∙ append_assoc (upto m f) (upto n (λ v. f (m + v))) (f (m + n))

-- iterations in strips of the same length
pub upto_split : {A : Type 0} (c s : ℕ) (f : ℕ → List A) → upto (c * s) f ≡ upto c (λ o. upto s (λ i. f (o * s + i)))
unfolding upto
upto_split zero s f = let e : 0 * s ≡ 0 = omega arith in ap (λ k. upto k f) e
upto_split {A} (suc c) s f =
    let e : suc c * s ≡ c * s + s = omega arith in
    ap (λ k. upto k f) e ∙ upto-add (c * s) s f ∙ ap (λ (xs : List A). xs ++ upto s (λ i. f (c * s + i))) (upto_split c s f)

pub upto_none : {A : Type 0} (n : ℕ) (f : ℕ → List A) → ((v : ℕ) → v < n → f v ≡ []) → upto n f ≡ []
unfolding upto
upto_none zero f none = refl
upto_none {A} (suc n) f none =
    ap (λ (xs : List A). xs ++ f n) (upto_none n f (λ v l. none v (omega arith))) ∙ none n (omega arith)

-- only one iteration lists anything
pub upto_one : {A : Type 0} (n k : ℕ) (f : ℕ → List A) → k < n → ((v : ℕ) → v < n → v ≢ k → f v ≡ []) → upto n f ≡ f k
unfolding upto
upto_one zero k f lk none = absurd (omega arith)
upto_one {A} (suc n) k f lk none = elim (cases_eq k n) [
  | inl e ↦
      ap (λ (xs : List A). xs ++ f n) (upto_none n f (λ v l. none v (omega arith) (omega arith))) ∙ ap f (sym e)
  | inr d ↦
      ap (λ (xs : List A). xs ++ f n) (upto_one n k f (omega (arith, d)) (λ v l. none v (omega arith)))
      ∙ ap (λ (xs : List A). f k ++ xs) (none n (omega arith) (λ e. d (sym e)))
      ∙ append-nil (f k)
]

pub first_iteration : {A : Type 0} (f : ℕ → List A) → f 0 ≡ upto 1 f
unfolding upto
first_iteration f = refl

nil_parts : {A : Type 0} (xs ys : List A) → xs ++ ys ≡ [] → (xs ≡ []) × (ys ≡ [])
nil_parts [] ys e = (refl, e)
nil_parts (x ∷ xs) ys e = cc

-- where iterations list nothing, none of them does
pub upto_nil : {A : Type 0} (n : ℕ) (f : ℕ → List A) → upto n f ≡ [] → (v : ℕ) → v < n → f v ≡ []
unfolding upto
upto_nil zero f e v l = absurd (omega arith)
upto_nil {A} (suc n) f e v l =
    let p = nil_parts (upto n f) (f n) e in
    elim (cases_eq v n) [ inl same ↦ ap f same ∙ p.1 | inr d ↦ upto_nil n f p.0 v (omega (arith, d)) ]

-- iterations past the bound list nothing
below : {A : Type 0} → ℕ → (ℕ → List A) → ℕ → List A
below e f v = cond (nat_lt v e) (f v) []

below_lt : {A : Type 0} (e : ℕ) (f : ℕ → List A) (v : ℕ) → v < e → below e f v ≡ f v
unfolding below
below_lt e f v l = rw (lt-ltb v e l) refl

below_ge : {A : Type 0} (e : ℕ) (f : ℕ → List A) (v : ℕ) → e ≤ v → below e f v ≡ []
unfolding below
below_ge e f v l = rw (le-ltb v e l) refl

-- iterations in strips, the last of which may be cut short
pub upto_guard : {A : Type 0} (e c s : ℕ) (f : ℕ → List A) → e ≤ c * s → upto c (λ o. upto s (λ i. cond (nat_lt (o * s + i) e) (f (o * s + i)) [])) ≡ upto e f
unfolding below
upto_guard {A} e c s f l =
    let n : c * s ≡ e + (c * s - e) = omega arith in
    sym (upto_split c s (below e f)) ∙ ap (λ k. upto k (below e f)) n ∙ upto-add e (c * s - e) (below e f)
    ∙ ap (λ (xs : List A). xs ++ upto (c * s - e) (λ v. below e f (e + v))) (upto_same e (below e f) f (λ v lt. below_lt e f v lt))
    ∙ ap (λ (xs : List A). upto e f ++ xs) (upto_none (c * s - e) (λ v. below e f (e + v)) (λ v lt. below_ge e f (e + v) (omega arith)))
    ∙ append-nil (upto e f)

-- ---- what passes a test

pub filter-upto : {A : Type 0} (test : A → Bool) (n : ℕ) (f : ℕ → List A) → filter test (upto n f) ≡ upto n (λ v. filter test (f v))
unfolding upto
filter-upto test zero f = refl
filter-upto {A} test (suc n) f =
    filter-append test (upto n f) (f n) ∙ ap (λ (xs : List A). xs ++ filter test (f n)) (filter-upto test n f)
