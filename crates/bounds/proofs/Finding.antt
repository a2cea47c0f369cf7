-- Each byte is found where the layout has it.
use Rattle.std.proofs.Common.{◌≡◌, ℕ, zero, suc, ◌+◌, ◌-◌, ◌*◌, ◌/◌, ◌<◌, ◌≤◌, List, [], ◌∷◌, true, false, Option, Some, None, refl, sym, ap, subst, ◌∙◌, arith}
use Rattle.std.proofs.Common.{inl, inr}
use Rattle.std.specs.Prelude.{nat_lt, slice_index, if◌then◌else◌}
use Rattle.std.proofs.lemmas.Bool.{cases_lt}
use Rattle.std.proofs.lemmas.Bool.Decides.{nat_tests}
use Rattle.bounds.specs.Layout.{data_start, placed, total}
use Rattle.bounds.specs.Parts.{Sizes, Part, Control, Input, Root, Copies, Frame, Outside, Found, further, find, found_or, in_privates, in_roots, in_inputs}
use Rattle.bounds.specs.Parts.{in_data, part_at}
use Rattle.bounds.specs.Finding.{inputs_at, roots_at, privates_at, frames_at, ControlFound, InputsFound, RootsFound, CopiesFound, FramesFound, PartsEnd}
use Rattle.bounds.specs.Finding.{PartsAligned, LiesAt, RootsLie}

is-lt : (a b : ℕ) → a < b → nat_lt a b ≡ true
is-lt a b l = grind (arith, nat_tests)

no-lt : (a b : ℕ) → b ≤ a → nat_lt a b ≡ false
no-lt a b l = grind (arith, nat_tests)

-- ---- in a list

found : (start : ℕ) (sizes : List ℕ) (func_index offset n : ℕ) → offset < slice_index sizes func_index → start + n ≡ slice_index (placed start sizes) func_index + offset
    → find sizes n ≡ Some (record { place = func_index; offset = offset })
found start [] zero offset n l e = absurd (omega (arith, l))
found start [] (suc func_index) offset n l e = absurd (omega (arith, l))
found start (size ∷ sizes) zero offset n l e =
    let q : n ≡ offset = omega (arith, e) in
    rw (is-lt n size (omega (arith, q, l))) (ap (λ k. Some (record { place = 0; offset = k })) q)
found start (size ∷ sizes) (suc func_index) offset n l e =
    let b = begins (start + size) sizes func_index offset l in
    let q : start + size + (n - size) ≡ slice_index (placed (start + size) sizes) func_index + offset = omega (arith, e, b) in
    let r = found (start + size) sizes func_index offset (n - size) l q in
    rw (no-lt n size (omega (arith, e, b))) (ap further r)
  where
    begins : (start : ℕ) (sizes : List ℕ) (func_index offset : ℕ) → offset < slice_index sizes func_index → start ≤ slice_index (placed start sizes) func_index
    begins start [] zero offset l = absurd (omega (arith, l))
    begins start [] (suc func_index) offset l = absurd (omega (arith, l))
    begins start (size ∷ sizes) zero offset l = omega arith
    begins start (size ∷ sizes) (suc func_index) offset l = let b = begins (start + size) sizes func_index offset l in omega (arith, b)

passed : (sizes : List ℕ) (n : ℕ) → total sizes ≤ n → find sizes n ≡ None
passed [] n l = refl
passed (size ∷ sizes) n l = rw (no-lt n size (omega (arith, l))) (ap further (passed sizes (n - size) (omega (arith, l))))

pub parts-end : PartsEnd
parts-end start [] place l = absurd (omega (arith, l))
parts-end start (size ∷ sizes) zero l = (omega arith, omega arith)
parts-end start (size ∷ sizes) (suc place) l =
    let b = parts-end (start + size) sizes place (omega (arith, l)) in
    let b0 = b.0 in
    let b1 = b.1 in
    (omega (arith, b0), omega (arith, b1))

pub parts-aligned : PartsAligned
parts-aligned start [] place l e a = absurd (omega (arith, l))
parts-aligned start (size ∷ sizes) zero l e a = e
parts-aligned start (size ∷ sizes) (suc place) l e a = parts-aligned (start + size) sizes place (omega (arith, l)) (let f = a.0 in omega (arith, e, f)) a.1

-- a byte of a part lies in the list
within : (start : ℕ) (sizes : List ℕ) (func_index offset : ℕ) → offset < slice_index sizes func_index → (start ≤ slice_index (placed start sizes) func_index + offset)
    × (slice_index (placed start sizes) func_index + offset < start + total sizes)
within start [] zero offset l = absurd (omega (arith, l))
within start [] (suc func_index) offset l = absurd (omega (arith, l))
within start (size ∷ sizes) zero offset l = (omega (arith, l), omega (arith, l))
within start (size ∷ sizes) (suc func_index) offset l =
    let b = within (start + size) sizes func_index offset l in
    let b0 = b.0 in
    let b1 = b.1 in
    (omega (arith, b0), omega (arith, b1))

-- ---- in the data

module _ (s : Sizes) where
  from-data : (a n : ℕ) → a ≡ data_start + n → part_at s a ≡ in_data s n
  from-data a n e =
      let q : a - data_start ≡ n = omega (arith, e) in
      rw (no-lt a data_start (omega (arith, e))) (ap (in_data s) q)

  from-inputs : (n k : ℕ) → n ≡ 8 * s.phases + k → in_data s n ≡ in_inputs s k
  from-inputs n k e =
      let q : n - 8 * s.phases ≡ k = omega (arith, e) in
      rw (no-lt n (8 * s.phases) (omega (arith, e))) (ap (in_inputs s) q)

  from-roots : (n k : ℕ) → n ≡ total s.inputs + k → in_inputs s n ≡ in_roots s k
  from-roots n k e =
      let q : n - total s.inputs ≡ k = omega (arith, e) in
      rw (passed s.inputs n (omega (arith, e))) (ap (in_roots s) q)

  from-privates : (n k : ℕ) → n ≡ total s.roots + k → in_roots s n ≡ in_privates s k
  from-privates n k e =
      let q : n - total s.roots ≡ k = omega (arith, e) in
      rw (passed s.roots n (omega (arith, e))) (ap (in_privates s) q)

  from-frames : (n k : ℕ) → n ≡ total s.privates + k → in_privates s n ≡ Frame (k / 4096)
  from-frames n k e =
      let q : n - total s.privates ≡ k = omega (arith, e) in
      rw (passed s.privates n (omega (arith, e))) (ap (λ i. Frame (i / 4096)) q)

pub control-found : ControlFound
control-found s n l = from-data s (data_start + n) n refl ∙ (rw (is-lt n (8 * s.phases) l) refl)

pub inputs-found : InputsFound
inputs-found s place offset l =
    let start = inputs_at s in
    let a = slice_index (placed start s.inputs) place + offset in
    let w = within start s.inputs place offset l in
    let w0 = w.0 in
    let n = a - start in
    from-data s a (8 * s.phases + n) (omega (arith, w0)) ∙ from-inputs s (8 * s.phases + n) n refl
    ∙ ap (λ f. found_or Input f (in_roots s (n - total s.inputs))) (found start s.inputs place offset n l (omega (arith, w0)))

pub roots-found : RootsFound
roots-found s place offset l =
    let start = roots_at s in
    let a = slice_index (placed start s.roots) place + offset in
    let w = within start s.roots place offset l in
    let w0 = w.0 in
    let n = a - start in
    from-data s a (8 * s.phases + (total s.inputs + n)) (omega (arith, w0)) ∙ from-inputs s (8 * s.phases + (total s.inputs + n)) (total s.inputs + n) refl
    ∙ from-roots s (total s.inputs + n) n refl
    ∙ ap (λ f. found_or Root f (in_privates s (n - total s.roots))) (found start s.roots place offset n l (omega (arith, w0)))

pub copies-found : CopiesFound
copies-found s place offset l =
    let start = privates_at s in
    let a = slice_index (placed start s.privates) place + offset in
    let w = within start s.privates place offset l in
    let w0 = w.0 in
    let n = a - start in
    from-data s a (8 * s.phases + (total s.inputs + (total s.roots + n))) (omega (arith, w0))
    ∙ from-inputs s (8 * s.phases + (total s.inputs + (total s.roots + n))) (total s.inputs + (total s.roots + n)) refl
    ∙ from-roots s (total s.inputs + (total s.roots + n)) (total s.roots + n) refl ∙ from-privates s (total s.roots + n) n refl
    ∙ ap (λ f. found_or Copies f (Frame ((n - total s.privates) / 4096))) (found start s.privates place offset n l (omega (arith, w0)))

pub frames-found : FramesFound
frames-found s n =
    from-data s (frames_at s + n) (8 * s.phases + (total s.inputs + (total s.roots + (total s.privates + n)))) (omega arith)
    ∙ from-inputs s (8 * s.phases + (total s.inputs + (total s.roots + (total s.privates + n)))) (total s.inputs + (total s.roots + (total s.privates + n)))
    refl
    ∙ from-roots s (total s.inputs + (total s.roots + (total s.privates + n))) (total s.roots + (total s.privates + n)) refl
    ∙ from-privates s (total s.roots + (total s.privates + n)) (total s.privates + n) refl ∙ from-frames s (total s.privates + n) n refl

-- ---- and the other way

record LiesIn (start : ℕ) (sizes : List ℕ) (n func_index offset : ℕ) : Type 0 where
  below : offset < slice_index sizes func_index
  there : start + n ≡ slice_index (placed start sizes) func_index + offset

abbrev place_or : Option Found → ℕ
place_or None = 0
place_or (Some f) = f.place

abbrev offset_or : Option Found → ℕ
offset_or None = 0
offset_or (Some f) = f.offset

lies-later : (start size : ℕ) (sizes : List ℕ) (n func_index offset : ℕ) → size ≤ n → (f : Option Found) → find sizes (n - size) ≡ f
    → further f ≡ Some (record { place = func_index; offset = offset })
    → ((p o : ℕ) → find sizes (n - size) ≡ Some (record { place = p; offset = o }) → LiesIn (start + size) sizes (n - size) p o)
    → LiesIn start (size ∷ sizes) n func_index offset
lies-later start size sizes n func_index offset b None e q next = absurd (cc q)
lies-later start size sizes n func_index offset b (Some f) e q next =
    let place_is : suc f.place ≡ func_index = ap place_or q in
    let offset_is : f.offset ≡ offset = ap offset_or q in
    let r = next f.place f.offset e in
    let t = r.there in
    subst (λ p. LiesIn start (size ∷ sizes) n p offset) place_is
    (subst (λ o. LiesIn start (size ∷ sizes) n (suc f.place) o) offset_is (record { below = r.below; there = omega (arith, t, b) }))

lies-in : (start : ℕ) (sizes : List ℕ) (n func_index offset : ℕ) → find sizes n ≡ Some (record { place = func_index; offset = offset })
    → LiesIn start sizes n func_index offset
lies-in start [] n func_index offset e = absurd (cc e)
lies-in start (size ∷ sizes) n func_index offset e = elim (cases_lt n size) [
  | inl b ↦
      let q : Some (record { place = 0; offset = n }) ≡ Some (record { place = func_index; offset = offset }) =
      sym (ap (λ t. if t then Some (record { place = 0; offset = n }) else further (find sizes (n - size))) (is-lt n size b)) ∙ e in
      let place_is : 0 ≡ func_index = ap place_or q in
      let offset_is : n ≡ offset = ap offset_or q in
      subst (λ p. LiesIn start (size ∷ sizes) n p offset) place_is (subst (λ o. LiesIn start (size ∷ sizes) n 0 o) offset_is (record {
        below = b;
        there =
            refl;
      }))
  | inr b ↦
      let q : further (find sizes (n - size)) ≡ Some (record { place = func_index; offset = offset }) =
      sym (ap (λ t. if t then Some (record { place = 0; offset = n }) else further (find sizes (n - size))) (no-lt n size b)) ∙ e in
      lies-later start size sizes n func_index offset b (find sizes (n - size)) refl q (λ p o. lies-in (start + size) sizes (n - size) p o)
]

further-none : (f : Option Found) → further f ≡ None → f ≡ None
further-none None e = refl
further-none (Some f) e = absurd (cc e)

-- what no part of a list has is after the list
behind : (sizes : List ℕ) (n : ℕ) → find sizes n ≡ None → total sizes ≤ n
behind [] n e = omega arith
behind (size ∷ sizes) n e = elim (cases_lt n size) [
  | inl b ↦
      let q : Some (record { place = 0; offset = n }) ≡ None = sym (ap (λ t. if t then Some (record { place = 0; offset = n }) else further
      (find sizes (n - size))) (is-lt n size b)) ∙ e in
      absurd (cc q)
  | inr b ↦
      let q : further (find sizes (n - size)) ≡ None = sym (ap (λ t. if t then Some (record { place = 0; offset = n }) else further (find sizes (n - size)))
      (no-lt n size b)) ∙ e in
      let r = behind sizes (n - size) (further-none (find sizes (n - size)) q) in
      omega (arith, r, b)
]

abbrev root_place : Part → ℕ
root_place (Root place offset) = place
root_place _ = 0

abbrev root_offset : Part → ℕ
root_offset (Root place offset) = offset
root_offset _ = 0

module _ (s : Sizes) where
  no-private : (n func_index offset : ℕ) (f : Option Found) → found_or Copies f (Frame ((n - total s.privates) / 4096)) ≡ Root func_index offset → ⊥
  no-private n func_index offset None e = cc e
  no-private n func_index offset (Some f) e = cc e

  lies-roots : (n func_index offset : ℕ) (f : Option Found) → find s.roots n ≡ f → found_or Root f (in_privates s (n - total s.roots)) ≡ Root func_index offset
      → LiesIn (roots_at s) s.roots n func_index offset
  lies-roots n func_index offset None e q = absurd (no-private (n - total s.roots) func_index offset (find s.privates (n - total s.roots)) q)
  lies-roots n func_index offset (Some f) e q =
      let place_is : f.place ≡ func_index = ap root_place q in
      let offset_is : f.offset ≡ offset = ap root_offset q in
      subst (λ p. LiesIn (roots_at s) s.roots n p offset) place_is
      (subst (λ o. LiesIn (roots_at s) s.roots n f.place o) offset_is (lies-in (roots_at s) s.roots n f.place f.offset e))

  lies-inputs : (n func_index offset : ℕ) (f : Option Found) → find s.inputs n ≡ f → found_or Input f (in_roots s (n - total s.inputs)) ≡ Root func_index offset
      → (total s.inputs ≤ n) × LiesIn (roots_at s) s.roots (n - total s.inputs) func_index offset
  lies-inputs n func_index offset None e q = (behind s.inputs n e, lies-roots (n - total s.inputs) func_index offset (find s.roots (n - total s.inputs)) refl q)
  lies-inputs n func_index offset (Some f) e q = absurd (cc q)

  lies-data : (n func_index offset : ℕ) → in_data s n ≡ Root func_index offset
      → LiesAt s (data_start + n) func_index offset
  lies-data n func_index offset e = elim (cases_lt n (8 * s.phases)) [
    | inl b ↦
        let q : Control (n / 8) ≡ Root func_index offset = sym (ap (λ t. if t then Control (n / 8) else in_inputs s (n - 8 * s.phases)) (is-lt n (8 * s.phases) b))
        ∙ e in
        absurd (cc q)
    | inr b ↦
        let q : in_inputs s (n - 8 * s.phases) ≡ Root func_index offset = sym (ap (λ t. if t then Control (n / 8) else in_inputs s (n - 8 * s.phases))
        (no-lt n (8 * s.phases) b)) ∙ e in
        let r = lies-inputs (n - 8 * s.phases) func_index offset (find s.inputs (n - 8 * s.phases)) refl q in
        let l = r.0 in
        let t = r.1.there in
        record { below = r.1.below; address_is = omega (arith, b, l, t) }
  ]

pub roots-lie : RootsLie
roots-lie s a place offset e = elim (cases_lt a data_start) [
  | inl b ↦
      let q : Outside ≡ Root place offset = sym (ap (λ t. if t then Outside else in_data s (a - data_start)) (is-lt a data_start b)) ∙ e in
      absurd (cc q)
  | inr b ↦
      let q : in_data s (a - data_start) ≡ Root place offset = sym (ap (λ t. if t then Outside else in_data s (a - data_start)) (no-lt a data_start b)) ∙ e in
      let back : data_start + (a - data_start) ≡ a = omega (arith, b) in
      subst (λ n. LiesAt s n place offset) back (lies-data s (a - data_start) place offset q)
]
