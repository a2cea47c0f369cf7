-- Which elements of an unmasked row are active: those below vl.
use Rattle.std.proofs.Common.{◌≡◌, ℕ, zero, suc, ◌+◌, ◌*◌, ◌<◌, ◌≤◌, List, [], ◌∷◌, length, get_or, Bool, true, false, refl, ap, ◌∙◌, arith, inl, inr}
use Rattle.std.specs.Prelude.{◌&&◌, nat_lt, map}
use Rattle.std.proofs.lemmas.Bool.{cases_lt}
use Rattle.std.proofs.lemmas.Bool.Decides.{nat_tests}
use Rattle.std.proofs.lemmas.List.FromFn.{length-map-range_with_len, get_or-map-range_with_len}
use Rattle.lanes.specs.Words.{active, is_active, chosen_of}
use Rattle.hart_core.specs.HartState.{HartState, vectors_of}
use Rattle.vector_unit.specs.Vector.{register as group_register, count, active_in}
use Rattle.multi_hart_laws.specs.Paths.{LanesConfigured, At}
use Rattle.multi_hart_laws.specs.LaneMemory.{firsts}
use Rattle.multi_hart_laws.proofs.VectorRows.{count-is}

beyond : (bs : List Bool) (k : ℕ) → length bs ≤ k → get_or bs k false ≡ false
beyond [] k l = refl
beyond (b ∷ bs) zero l = absurd (omega (arith, l))
beyond (b ∷ bs) (suc k) l = beyond bs k (omega (arith, l))

module _ (at g : ℕ) (f : ℕ → ℕ) (h : HartState) (a : At at f h) (c : LanesConfigured f g) where
  abbrev pub flags : List Bool
  flags = active_in (vectors_of h) true

  abbrev old : List ℕ
  old = group_register (vectors_of h) 0

  pub flags-length : length flags ≡ 4 * g
  unfolding active
  flags-length = length-map-range_with_len (λ i. is_active h.vl true old (0 + i)) 0 (count (vectors_of h)) ∙ count-is at g f h a c

  flag : (k : ℕ) → k < 4 * g → get_or flags k false ≡ nat_lt k h.vl && true
  unfolding active
  flag k l =
      let q : k < count (vectors_of h) = (let e = count-is at g f h a c in omega (arith, e, l)) in
      get_or-map-range_with_len (λ i. is_active h.vl true old (0 + i)) 0 (count (vectors_of h)) k k false q (omega arith)
      ∙ (let e : 0 + k ≡ k = omega arith in ap (is_active h.vl true old) e)

  pub flag-on : (k : ℕ) → k < f 32 → get_or flags k false ≡ true
  flag-on k s =
      let l : k < 4 * g = (let q = c.fits in omega (arith, s, q)) in
      let t : nat_lt k h.vl ≡ true = (let e = a.vl in grind (arith, nat_tests, e, s)) in
      flag k l ∙ ap (λ b. b && true) t

  pub flag-off : (k : ℕ) → f 32 ≤ k → get_or flags k false ≡ false
  flag-off k s = elim (cases_lt k (4 * g)) [
    | inl l ↦
        let t : nat_lt k h.vl ≡ false = (let e = a.vl in grind (arith, nat_tests, e, s)) in
        flag k l ∙ ap (λ b. b && true) t
    | inr l ↦ beyond flags k (let q = flags-length in omega (arith, q, l))
  ]

-- ---- what the active elements are

none-chosen : (bs : List Bool) (xs : List ℕ) → ((j : ℕ) → get_or bs j false ≡ false) → chosen_of bs xs ≡ []
none-chosen [] xs off = refl
none-chosen (b ∷ bs) [] off = refl
none-chosen (true ∷ bs) (x ∷ xs) off = absurd (let e : true ≡ false = off 0 in cc e)
none-chosen (false ∷ bs) (x ∷ xs) off = none-chosen bs xs (λ j. off (suc j))

pub first-chosen : (i n : ℕ) (bs : List Bool) (xs : List ℕ) (F : ℕ → ℕ) → n ≤ length bs → n ≤ length xs
    → ((j : ℕ) → j < n → get_or bs j false ≡ true) → ((j : ℕ) → n ≤ j → get_or bs j false ≡ false)
    → ((j : ℕ) → j < n → get_or xs j 0 ≡ F (i + j)) → chosen_of bs xs ≡ firsts i n F
first-chosen i zero bs xs F p q on off e = none-chosen bs xs (λ j. off j (omega arith))
first-chosen i (suc n) [] xs F p q on off e = absurd (omega (arith, p))
first-chosen i (suc n) (b ∷ bs) [] F p q on off e = absurd (omega (arith, q))
first-chosen i (suc n) (false ∷ bs) (x ∷ xs) F p q on off e = absurd (let t : false ≡ true = on 0 (omega arith) in cc t)
first-chosen i (suc n) (true ∷ bs) (x ∷ xs) F p q on off e =
    let here : x ≡ F i = e 0 (omega arith) ∙ (let z : i + 0 ≡ i = omega arith in ap F z) in
    ap (λ y. y ∷ chosen_of bs xs) here
    ∙ ap (λ ys. F i ∷ ys) (first-chosen (suc i) n bs xs F (omega (arith, p)) (omega (arith, q)) (λ j l. on (suc j) (omega (arith, l)))
    (λ j l. off (suc j) (omega (arith, l)))
    (λ j l. e (suc j) (omega (arith, l)) ∙ (let z : i + suc j ≡ suc i + j = omega arith in ap F z)))

-- ---- values of a function

pub firsts-same : (i n : ℕ) (f g : ℕ → ℕ) → ((k : ℕ) → i ≤ k → k < i + n → f k ≡ g k) → firsts i n f ≡ firsts i n g
firsts-same i zero f g e = refl
firsts-same i (suc n) f g e =
    ap (λ z. z ∷ firsts (suc i) n f) (e i (omega arith) (omega arith))
    ∙ ap (λ z. g i ∷ z) (firsts-same (suc i) n f g (λ k a b. e k (omega (arith, a)) (omega (arith, b))))

pub map-firsts : (i n : ℕ) (f : ℕ → ℕ) (g : ℕ → ℕ) → map g (firsts i n f) ≡ firsts i n (λ k. g (f k))
map-firsts i zero f g = refl
map-firsts i (suc n) f g = ap (λ z. g (f i) ∷ z) (map-firsts (suc i) n f g)
