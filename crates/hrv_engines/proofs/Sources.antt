-- Sources that gave their texts one after the other.
use Rattle.std.proofs.Common.{◌≡◌, ◌<◌, ◌≤◌, ◌+◌, ◌∙◌, ◌⊎◌, ℕ, zero, suc, arith, refl, sym, ap, subst, List, [], ◌∷◌, ◌++◌, length, inl, inr}
use Rattle.std.specs.Prelude.{IsErrAnd, Result, Some, slice_get}
use Rattle.std.proofs.Math.ListN.{set}
use Rattle.std.proofs.lemmas.List.{length-append}
use Rattle.std.proofs.lemmas.Option.{slice_get_within}
use Rattle.std.proofs.lemmas.Bool.{cases_lt}
use Rattle.std.specs.String.{string_bytes}
use Rattle.hrv_engines.specs.declared.faults.Fault.{Fault}
use Rattle.hrv_engines.specs.declared.faults.Fault.TheVariants.{Refused, File, Memory, Thread}
use Rattle.hrv_engines.specs.declared.texts.Extent.TheVariants.{Bytes}
use Rattle.hrv_engines.specs.Devices.{GaveEach, GaveNoText, GaveText, NamesFailed, NoneFailed, most_picture_bytes}
use Rattle.hrv_engines.specs.Engine.{Reads, Unread}
use Rattle.hrv_engines.specs.inner.Fronts.{GaveKept, kept_text_of, kept_texts_of}
use Rattle.hrv_engines.proofs.Steps.{passed, reads_not}

-- ---- lists

pub get-set_same : {X : Type 0} (xs : List X) (i : ℕ) (x y : X) → slice_get xs i ≡ Some x → slice_get (set xs i y) i ≡ Some y
get-set_same [] i x y e = cc
get-set_same (z ∷ xs) zero x y e = refl
get-set_same (z ∷ xs) (suc i) x y e = get-set_same xs i x y e

pub get-set_other : {X : Type 0} (xs : List X) (i j : ℕ) (y : X) → (i ≡ j → ⊥) → slice_get (set xs i y) j ≡ slice_get xs j
get-set_other [] i j y other = refl
get-set_other (x ∷ xs) zero zero y other = absurd (other refl)
get-set_other (x ∷ xs) zero (suc j) y other = refl
get-set_other (x ∷ xs) (suc i) zero y other = refl
get-set_other (x ∷ xs) (suc i) (suc j) y other = get-set_other xs i j y (λ e. other (ap suc e))

length-set : {X : Type 0} (xs : List X) (i : ℕ) (y : X) → length (set xs i y) ≡ length xs
length-set [] i y = refl
length-set (x ∷ xs) zero y = refl
length-set (x ∷ xs) (suc i) y = ap suc (length-set xs i y)

get-front : {X : Type 0} (xs ys : List X) (i : ℕ) (x : X) → slice_get xs i ≡ Some x → slice_get (xs ++ ys) i ≡ Some x
get-front [] ys i x e = cc
get-front (y ∷ xs) ys zero x e = e
get-front (y ∷ xs) ys (suc i) x e = get-front xs ys i x e

get-last : {X : Type 0} (xs : List X) (y : X) → slice_get (xs ++ y ∷ []) (length xs) ≡ Some y
get-last [] y = refl
get-last (x ∷ xs) y = get-last xs y

same : {X : Type 0} (x y : X) → Some x ≡ Some y → x ≡ y
same x y e = cc

-- ---- this many sources gave their texts, and the others are as they were

pub record GaveFirst {S : Type 0} (gave : S → List ℕ → S → Type 0) (first : List S) (texts : List (List ℕ)) (now : List S) (count : ℕ) : Type 0 where
  pub as_many : length texts ≡ count
  pub kept : length now ≡ length first
  pub each : (place : ℕ) (s t : S) → place < count → slice_get first place ≡ Some s → slice_get now place ≡ Some t
      → (text : List ℕ) × (slice_get texts place ≡ Some text) × gave s text t
  pub rest : (place : ℕ) → count ≤ place → slice_get now place ≡ slice_get first place

module _ {S : Type 0} (gave : S → List ℕ → S → Type 0) where
  pub none_gave : (first : List S) → GaveFirst gave first [] first 0
  none_gave first = record { as_many = refl; kept = refl; each = λ place s t lt is before. absurd (omega arith); rest = λ place le. refl }

  -- one more gives its text
  one_gave : (first : List S) (texts : List (List ℕ)) (now : List S) (count : ℕ) (s t : S) (text : List ℕ) → GaveFirst gave first texts now count
      → slice_get now count ≡ Some s → gave s text t → GaveFirst gave first (texts ++ text ∷ []) (set now count t) (count + 1)
  one_gave first texts now count s t text g here given = record {
    as_many = length-append texts (text ∷ []) ∙ omega arith;
    kept = length-set now count t ∙ g.kept;
    each = each;
    rest = λ place le. get-set_other now count place t (λ e. omega arith) ∙ g.rest place (omega arith);
  }
    where
      each : (place : ℕ) (a b : S) → place < count + 1 → slice_get first place ≡ Some a → slice_get (set now count t) place ≡ Some b
          → (found : List ℕ) × (slice_get (texts ++ text ∷ []) place ≡ Some found) × gave a found b
      each place a b lt is_a is_b = elim (cases_lt place count) [
        | inl below ↦
            let old = g.each place a b below is_a (sym (get-set_other now count place t (λ e. omega arith)) ∙ is_b) in
            (old.0, get-front texts (text ∷ []) place old.0 old.1, old.2)
        | inr above ↦
            let at : place ≡ count = omega arith in
            let is_s : a ≡ s = same a s (sym is_a ∙ ap (slice_get first) at ∙ sym (g.rest count (omega arith)) ∙ here) in
            let is_t : b ≡ t = same b t (sym is_b ∙ ap (slice_get (set now count t)) at ∙ get-set_same now count s t here) in (
              text,
              ap (slice_get (texts ++ text ∷ [])) (at ∙ sym g.as_many) ∙ get-last texts text,
              subst (λ x. gave x text b) (sym is_s) (subst (λ y. gave s text y) (sym is_t) given),
            )
      ]

  pub next_gave : (first : List S) (texts more : List (List ℕ)) (now : List S) (count : ℕ) (s t : S) (text : List ℕ) → more ≡ texts ++ text ∷ []
      → GaveFirst gave first texts now count → slice_get now count ≡ Some s → gave s text t → GaveFirst gave first more (set now count t) (count + 1)
  next_gave first texts more now count s t text is g here given =
      subst (λ all. GaveFirst gave first all (set now count t) (count + 1)) (sym is) (one_gave first texts now count s t text g here given)

  -- all gave theirs
  pub all_gave : (first : List S) (texts : List (List ℕ)) (now : List S) (count : ℕ) → GaveFirst gave first texts now count → length first ≤ count
      → count ≤ length first → GaveEach gave first texts now
  all_gave first texts now count g le ge = record {
    as_many = g.as_many ∙ omega arith;
    kept = g.kept;
    each = λ place s t is_s is_t. g.each place s t (below place s is_s) is_s is_t;
  }
    where
      below : (place : ℕ) (s : S) → slice_get first place ≡ Some s → place < count
      below place s is_s =
          let within : place < length first = slice_get_within first place s is_s in
          omega arith

-- ---- none of them failed

module _ {S : Type 0} (failures : S → ℕ) where
  pub all_well : (first : List S) → NoneFailed failures first first
  all_well first place s t is_s is_t = ap failures (same t s (sym is_t ∙ is_s))

  -- the next one didn't fail
  pub next_well : (first now : List S) (count : ℕ) (s t : S) → NoneFailed failures first now → slice_get now count ≡ Some s → failures t ≡ failures s
      → NoneFailed failures first (set now count t)
  next_well first now count s t old here well place a b is_a is_b = by (cases_lt place count) (cases_lt count place)
    where
      elsewhere : (count ≡ place → ⊥) → failures b ≡ failures a
      elsewhere other = old place a b is_a (sym (get-set_other now count place t other) ∙ is_b)

      by : (place < count) ⊎ (count ≤ place) → (count < place) ⊎ (place ≤ count) → failures b ≡ failures a
      by (inl below) _ = elsewhere (λ e. omega arith)
      by (inr le) (inl above) = elsewhere (λ e. omega arith)
      by (inr le) (inr ge) =
          let at : place ≡ count = omega arith in
          let is_t : b ≡ t = same b t (sym is_b ∙ ap (slice_get (set now count t)) at ∙ get-set_same now count s t here) in
          ap failures is_t ∙ well ∙ old place a s is_a (ap (slice_get now) at ∙ here)

-- ---- the next one was not read

module _ {S : Type 0} (place_of : S → List ℕ) (failures : S → ℕ) (gave : S → List ℕ → S → Type 0) (ended : S → Type 0) where
  next_failed : (first : List S) (texts : List (List ℕ)) (now : List S) (count : ℕ) (s t : S) (path : List ℕ)
      → GaveFirst (GaveKept (Bytes most_picture_bytes) gave ended) first texts now count → slice_get now count ≡ Some s → path ≡ place_of s
      → (failures s < failures t) ⊎ GaveNoText gave ended s t
      → NamesFailed place_of failures (GaveText gave ended) (GaveNoText gave ended) first (set now count t) path
  next_failed first texts now count s t path g here is there = record {
    place = count;
    before = s;
    after = t;
    is_before = sym (g.rest count (omega arith)) ∙ here;
    is_after = get-set_same now count s t here;
    is_path = is;
    failed_there = there;
    earlier = λ sooner a b lt is_a is_b.
        let old = g.each sooner a b lt is_a (sym (get-set_other now count sooner t (λ e. omega arith)) ∙ is_b) in
        (old.2.0, (old.2.2, old.2.3, old.2.4));
  }

  pub next_unread : (first : List S) (texts : List (List ℕ)) (now : List S) (count : ℕ) (s t : S) (fault : Fault)
      → GaveFirst (GaveKept (Bytes most_picture_bytes) gave ended) first texts now count → NoneFailed failures first now → slice_get now count ≡ Some s
      → Unread (kept_text_of (Bytes most_picture_bytes) place_of failures gave ended s t) fault → Unread (kept_texts_of place_of failures gave ended first (set now count t)) fault
  next_unread first texts now count s t (Refused refusal) g well here p = p
  next_unread first texts now count s t (File path) g well here p = next_failed first texts now count s t (string_bytes path) g here p.0 p.1
  next_unread first texts now count s t Memory g well here p = next_well failures first now count s t well here p
  next_unread first texts now count s t Thread g well here p = p

  pub reads_no_texts : {X : Type 0} (value : X → List (List ℕ)) (r : Result X Fault) (first : List S) (texts : List (List ℕ)) (now : List S) (count : ℕ)
      (s t : S) (fault : Fault)
      → IsErrAnd r (λ f. f ≡ fault)
      → GaveFirst (GaveKept (Bytes most_picture_bytes) gave ended) first texts now count → NoneFailed failures first now → slice_get now count ≡ Some s
      → Unread (kept_text_of (Bytes most_picture_bytes) place_of failures gave ended s t) fault → Reads value (kept_texts_of place_of failures gave ended first (set now count t)) r
  reads_no_texts value r first texts now count s t fault is g well here p =
      let sources = kept_texts_of place_of failures gave ended first (set now count t) in
      reads_not value sources r (passed (Unread sources) r fault is (next_unread first texts now count s t fault g well here p))

  pub texts_lost : {X : Type 0} (value : X → List (List ℕ)) (r : Result X Fault) (first later : List S) → IsErrAnd r (λ f. f ≡ Memory)
      → NoneFailed failures first later
      → Reads value (kept_texts_of place_of failures gave ended first later) r
  texts_lost value r first later is well =
      let sources = kept_texts_of place_of failures gave ended first later in
      reads_not value sources r (passed (Unread sources) r Memory is well)
