-- Whole groups of words that lie one after the other in data.
use Rattle.std.proofs.Common.{◌≡◌, ℕ, zero, suc, ◌+◌, ◌*◌, ◌/◌, ◌%◌, ◌<◌, ◌≤◌, List, [], ◌∷◌, map, length, true, false, refl, sym, ◌∙◌, ap, arith}
use Rattle.std.proofs.Common.{◌&&◌, ◌==◌, ◌⊎◌, inl, inr, subst, Some}
use Rattle.std.specs.Prelude.{IsTrue, slice_index, nat_lt, not, ◌||◌}
use Rattle.std.proofs.lemmas.Bool.Decides.{nat_tests}
use Rattle.rv_insn.specs.declared.vector_instructions.VectorInsn.TheVariants.{LoadElements, StoreElements}
use Rattle.rv_insn.specs.declared.vector_instructions.Addressing.TheVariants as addressings
use Rattle.rv_insn.specs.declared.vector_operations.ElementWidth.TheVariants.{Bits32}
use Rattle.std.specs.List.{range_with_len}
use Rattle.memory.proofs.Putting.{length-put}
use Rattle.hart_core.specs.VectorRows.{accesses_at}
use Rattle.memory.specs.Access.{in_data, spread, touched, put_number, Access, access_at, Word}
use Rattle.vector_unit.specs.Vector.{Vectors, has_vill, width, count, group, is_refused, is_unfit}
use Rattle.vector_unit.specs.Accesses.{with_element_from}
use Rattle.vector_unit.specs.declared.accesses.Spacing.TheVariants.{UnitStride}
use Rattle.vector_unit.proofs.Actives.{all_active}
use Rattle.vector_unit.proofs.Whole.{place_inside, group_sizes}
use Rattle.hart_core.specs.HartState.{HartState, vectors_of, with_vectors}
use Rattle.hart_core.specs.inner.Pieces.{addresses_from, IsPiece, IsRun, LiesInData, words_filled, words_put}
use Rattle.hart_core.proofs.Quads.{loaded-four, stored-four, put-next}

pub count_of_words : (state : Vectors) → width state ≡ 32 → count state ≡ 4 * group state
count_of_words state e =
    ap (λ w. 128 * group state / w) e ∙ (let four : 128 * group state / 32 ≡ 4 * group state = omega arith in four)

pub lies_in_data : (bytes base n : ℕ) → base % 4 ≡ 0 → base < 4294967040 → n ≤ 64 → IsTrue (in_data bytes base (4 * n)) → LiesInData bytes Bits32 base n
lies_in_data bytes base n aligned low few inside = record {
  aligned = aligned;
  inside = let e : n * 4 ≡ 4 * n = omega arith in rw e inside;
  below = omega (arith, low, few);
}

-- a part of what lies in data
pub lies_part : (bytes base n k m : ℕ) → k + m ≤ n → LiesInData bytes Bits32 base n → LiesInData bytes Bits32 (base + 4 * k) m
lies_part bytes base n k m l lies = record {
  aligned = let q = lies.aligned in omega (arith, q);
  inside = let i = lies.inside in grind (arith, nat_tests, l, i);
  below = let q = lies.below in omega (arith, l, q);
}

pub lies_first : (bytes base n m : ℕ) → m ≤ n → LiesInData bytes Bits32 base n → LiesInData bytes Bits32 base m
lies_first bytes base n m l lies = record {
  aligned = lies.aligned;
  inside = let i = lies.inside in grind (arith, nat_tests, l, i);
  below = let q = lies.below in omega (arith, l, q);
}

-- ---- four words at a time, and one part after the other

pub words-loaded : (state : Vectors) (v part address : ℕ) (f : Access → ℕ) (words : List ℕ)
    → words ≡ f (access_at Word address) ∷ f (access_at Word (address + 4)) ∷ f (access_at Word (address + 8)) ∷ f (access_at Word (address + 12)) ∷ []
    → with_element_from (with_element_from (with_element_from (with_element_from state 32 v (4 * part) (slice_index words 0)) 32 v (4 * part + 1)
    (slice_index words 1)) 32 v (4 * part + 2) (slice_index words 2)) 32 v (4 * part + 3) (slice_index words 3)
    ≡ words_filled f v state (4 * part) address 4
words-loaded state v part address f words e =
    let all : ℕ → ℕ → Vectors = λ a3 a4. with_element_from (with_element_from (with_element_from (with_element_from state 32 v (4 * part)
    (f (access_at Word address))) 32 v (4 * part + 1) (f (access_at Word (address + 4)))) 32 v (4 * part + 2) (f (access_at Word a3))) 32 v (4 * part + 3)
    (f (access_at Word a4)) in
    let e3 : address + 8 ≡ address + 4 + 4 = omega arith in
    let e4 : address + 12 ≡ address + 4 + 4 + 4 = omega arith in
    ap (λ ws. with_element_from (with_element_from (with_element_from (with_element_from state 32 v (4 * part) (slice_index ws 0)) 32 v (4 * part + 1)
    (slice_index ws 1)) 32 v (4 * part + 2) (slice_index ws 2)) 32 v (4 * part + 3) (slice_index ws 3)) e
    ∙ ap (λ a. all a (address + 12)) e3
    ∙ ap (all (address + 4 + 4)) e4
    ∙ sym (loaded-four state Bits32 v address part 1 f (omega arith))

filled-on : (f : Access → ℕ) (v : ℕ) (state : Vectors) (i a m n j b t : ℕ) → j ≡ i + m → b ≡ a + 4 * m → m + n ≡ t
    → words_filled f v (words_filled f v state i a m) j b n ≡ words_filled f v state i a t
filled-on f v state i a zero n j b t e h l =
    let e0 : j ≡ i = omega (arith, e) in
    let h0 : b ≡ a = omega (arith, h) in
    let l0 : n ≡ t = omega (arith, l) in
    ap (λ k. words_filled f v state k b n) e0 ∙ ap (λ c. words_filled f v state i c n) h0 ∙ ap (words_filled f v state i a) l0
filled-on f v state i a (suc m) n j b t e h l =
    let more : suc (m + n) ≡ t = omega (arith, l) in
    filled-on f v (with_element_from state 32 v i (f (access_at Word a))) (i + 1) (a + 4) m n j b (m + n) (omega (arith, e)) (omega (arith, h)) refl
    ∙ ap (words_filled f v state i a) more

pub loaded-on : (f : Access → ℕ) (v : ℕ) (h0 h1 h2 : HartState) (i a m n j b t : ℕ) → j ≡ i + m → b ≡ a + 4 * m → m + n ≡ t
    → h1 ≡ with_vectors h0 (words_filled f v (vectors_of h0) i a m)
    → h2 ≡ with_vectors h1 (words_filled f v (vectors_of h1) j b n)
    → h2 ≡ with_vectors h0 (words_filled f v (vectors_of h0) i a t)
loaded-on f v h0 h1 h2 i a m n j b t e h l e1 e2 = rw (e2, e1) (ap (with_vectors h0) (filled-on f v (vectors_of h0) i a m n j b t e h l))

pub words-stored : (memory : List ℕ) (part address : ℕ) (f : ℕ → ℕ) (words : List ℕ)
    → words ≡ f (4 * part) ∷ f (4 * part + 1) ∷ f (4 * part + 2) ∷ f (4 * part + 3) ∷ []
    → put_number (put_number (put_number (put_number memory Word address (slice_index words 0)) Word (address + 4) (slice_index words 1)) Word (address + 8)
    (slice_index words 2)) Word (address + 12) (slice_index words 3)
    ≡ words_put f memory (4 * part) address 4
words-stored memory part address f words e =
    let two : List ℕ = put_number (put_number memory Word address (f (4 * part))) Word (address + 4) (f (4 * part + 1)) in
    let all : ℕ → ℕ → List ℕ = λ a3 a4. put_number (put_number two Word a3 (f (4 * part + 2))) Word a4 (f (4 * part + 3)) in
    let e3 : address + 8 ≡ address + 4 + 4 = omega arith in
    let e4 : address + 12 ≡ address + 4 + 4 + 4 = omega arith in
    ap (λ ws. put_number (put_number (put_number (put_number memory Word address (slice_index ws 0)) Word (address + 4) (slice_index ws 1)) Word (address + 8)
    (slice_index ws 2)) Word (address + 12) (slice_index ws 3)) e
    ∙ ap (λ a. all a (address + 12)) e3
    ∙ ap (all (address + 4 + 4)) e4
    ∙ sym (stored-four memory Bits32 address part 1 f (omega arith))

put-on : (f : ℕ → ℕ) (memory : List ℕ) (i a m n j b t : ℕ) → j ≡ i + m → b ≡ a + 4 * m → m + n ≡ t
    → words_put f (words_put f memory i a m) j b n ≡ words_put f memory i a t
put-on f memory i a zero n j b t e h l =
    let e0 : j ≡ i = omega (arith, e) in
    let h0 : b ≡ a = omega (arith, h) in
    let l0 : n ≡ t = omega (arith, l) in
    ap (λ k. words_put f memory k b n) e0 ∙ ap (λ c. words_put f memory i c n) h0 ∙ ap (words_put f memory i a) l0
put-on f memory i a (suc m) n j b t e h l =
    let more : suc (m + n) ≡ t = omega (arith, l) in
    ap (λ ms. words_put f ms j b n) (put-next Bits32 f memory i a m)
    ∙ put-on f (put_number memory Word a (f i)) (i + 1) (a + 4) m n j b (m + n) (omega (arith, e)) (omega (arith, h)) refl
    ∙ sym (put-next Bits32 f memory i a (m + n))
    ∙ ap (words_put f memory i a) more

pub length-words : (f : ℕ → ℕ) (memory memory' : List ℕ) (i a n : ℕ) → memory' ≡ words_put f memory i a n → length memory' ≡ length memory
length-words f memory memory' i a n e =
    ap length e ∙ length-put memory (touched (accesses_at Bits32 (addresses_from Bits32 a n))) (spread (accesses_at Bits32 (addresses_from Bits32 a n))
    (map f (range_with_len i n)))

pub stored-on : (f : ℕ → ℕ) (m0 m1 m2 : List ℕ) (i a m n j b t : ℕ) → j ≡ i + m → b ≡ a + 4 * m → m + n ≡ t
    → m1 ≡ words_put f m0 i a m → m2 ≡ words_put f m1 j b n → m2 ≡ words_put f m0 i a t
stored-on f m0 m1 m2 i a m n j b t e h l e1 e2 = rw (e2, e1) (put-on f m0 i a m n j b t e h l)

-- ---- whole groups

of_three : (state : Vectors) → has_vill state ≡ false → 2 < group state → group state ≡ 4
of_three state e more = by_size (group state) (group_sizes state e) more
  where
    by_size : (g : ℕ) → (g ≡ 1) ⊎ ((g ≡ 2) ⊎ (g ≡ 4)) → 2 < g → g ≡ 4
    by_size g (inl e) more = absurd (omega (arith, e, more))
    by_size g (inr (inl e)) more = absurd (omega (arith, e, more))
    by_size g (inr (inr e)) more = e

of_none : (state : Vectors) → has_vill state ≡ false → group state ≤ 1 → group state ≡ 1
of_none state e few = by_size (group state) (group_sizes state e) few
  where
    by_size : (g : ℕ) → (g ≡ 1) ⊎ ((g ≡ 2) ⊎ (g ≡ 4)) → g ≤ 1 → g ≡ 1
    by_size g (inl e) few = e
    by_size g (inr (inl e)) few = absurd (omega (arith, e, few))
    by_size g (inr (inr e)) few = absurd (omega (arith, e, few))

pub fitting : (v g : ℕ) → (g ≡ 1) ⊎ ((g ≡ 2) ⊎ (g ≡ 4)) → v % g ≡ 0 → (nat_lt 4 g || (nat_lt 1 g && not (v % g == 0))) ≡ false
fitting v g (inl e) at = rw e refl
fitting v g (inr (inl e)) at = rw at (rw e refl)
fitting v g (inr (inr e)) at = rw at (rw e refl)

module _ (bytes : ℕ) (state : Vectors) (v base : ℕ) (run : IsRun bytes state v base) where
  by-group : (g : ℕ) → group state ≡ g → count state ≡ 4 * g
  by-group g e = count_of_words state run.words ∙ ap (λ k. 4 * k) e

  pub count-four : 2 < group state → count state ≡ 16
  count-four more = by-group 4 (of_three state run.configured more)

  pub count-two : 1 < group state → group state ≤ 2 → count state ≡ 8
  count-two more few = by-group 2 (omega (arith, more, few))

  pub count-one : group state ≤ 1 → count state ≡ 4
  count-one few = by-group 1 (of_none state run.configured few)

  pub inside : (part : ℕ) → v < 32 → part < group state → v + part < 32
  inside part low few = place_inside state run.configured v part low run.placed few

  pub lies-all : (n : ℕ) → count state ≡ n → LiesInData bytes Bits32 base n
  lies-all n e = subst (LiesInData bytes Bits32 base) e run.lies

  own-group : 32 * group state / width state ≡ group state
  own-group = ap (λ w. 32 * group state / w) run.words ∙ (let one : 32 * group state / 32 ≡ group state = omega arith in one)

  is-fit : is_unfit state (Some (Bits32, v)) ≡ false
  is-fit = ap (λ g. nat_lt 4 g || (nat_lt 1 g && not (v % g == 0))) own-group ∙ fitting v (group state) (group_sizes state run.configured) run.placed

  pub is-load : (rs1 : ℕ) → is_refused (LoadElements Bits32 v rs1 addressings.UnitStride true) state ≡ false
  is-load rs1 = rw (run.configured, is-fit) refl

  pub is-store : (rs1 : ℕ) → is_refused (StoreElements Bits32 v rs1 addressings.UnitStride true) state ≡ false
  is-store rs1 = rw (run.configured, is-fit) refl

  pub run_piece : IsPiece bytes state Bits32 (UnitStride Bits32) true base
  run_piece = record { spacing_is = refl; full = all_active state run.full; lies = run.lies }

pub three_behind : (bytes : ℕ) (state : Vectors) (v base : ℕ) → IsRun bytes state v base → v < 32 → 2 < group state → v + 3 < 32
three_behind bytes state v base run low more = inside bytes state v base run 3 low (omega (arith, more, of_three state run.configured more))

pub one_behind : (bytes : ℕ) (state : Vectors) (v base : ℕ) → IsRun bytes state v base → v < 32 → 1 < group state → v + 1 < 32
one_behind bytes state v base run low more = inside bytes state v base run 1 low more
