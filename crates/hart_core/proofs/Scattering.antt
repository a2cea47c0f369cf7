-- Words that need not lie one after the other: where they lie, which trap the first that can't be loaded makes, and what they leave.
use Rattle.std.proofs.Common.{◌≡◌, ℕ, zero, suc, ◌+◌, ◌-◌, ◌*◌, ◌/◌, ◌%◌, ◌<◌, ◌≤◌, List, [], ◌∷◌, ◌++◌, map, take, length, true, false, refl, sym, ◌∙◌, ap}
use Rattle.std.proofs.Common.{arith, None, Some, Option}
use Rattle.std.specs.Prelude.{slice_index, slice_set, replicate, nat_lt, not, ◌||◌, Result, Ok, Err, IfErr, IsErrAnd}
use Rattle.std.proofs.Common.{◌&&◌, ◌==◌, ◌⊎◌, inl, inr}
use Rattle.std.specs.List.{range_with_len}
use Rattle.std.proofs.lemmas.List.{map-append}
use Rattle.std.proofs.lemmas.Grind.{take-set_at}
use Rattle.lanes.specs.Words as word
use Rattle.lanes.specs.Words.{chosen_of}
use Rattle.rv_insn.specs.declared.vector_operations.ElementWidth.TheVariants.{Bits32}
use Rattle.rv_insn.specs.declared.outcomes.Trap.{Trap}
use Rattle.memory.specs.Access.{Access, access_at, bytes_in, fault_of, first_fault, number_at, or_else, Kind, Reads, Word}
use Rattle.vector_unit.specs.Vector.{Vectors, count, group, is_refused, is_unfit, width}
use Rattle.vector_unit.specs.Accesses.{addresses_by, filled_from, loaded, offset, offsets_by, with_element_from}
use Rattle.vector_unit.specs.declared.accesses.Spacing.{Spacing}
use Rattle.vector_unit.specs.inner.Wholes.{IsWhole}
use Rattle.vector_unit.proofs.Actives.{all_active}
use Rattle.vector_unit.proofs.Whole.{place_inside, group_sizes}
use Rattle.hart_core.proofs.WordRuns.{count_of_words, fitting}
use Rattle.rv_insn.specs.declared.vector_instructions.VectorInsn.TheVariants.{LoadElements}
use Rattle.rv_insn.specs.declared.vector_instructions.Addressing.TheVariants as addressings
use Rattle.hart_core.specs.HartState.{HartState, vectors_of, with_vectors}
use Rattle.hart_core.specs.VectorRows.{accesses_at}
use Rattle.hart_core.specs.inner.Pieces.{spots, AreRead}
use Rattle.hart_core.proofs.Lying.{chosen-all}

-- ---- lists

split : {A : Type 0} (f : ℕ → A) (i m n t : ℕ) → m + n ≡ t → map f (range_with_len i t) ≡ map f (range_with_len i m) ++ map f (range_with_len (i + m) n)
split f i zero n t e =
    let same : n ≡ t = omega (arith, e) in
    let first : i + 0 ≡ i = omega arith in
    rw first (ap (λ k. map f (range_with_len i k)) (sym same))
split f i (suc m) n t e =
    let more : t ≡ suc (m + n) = omega (arith, e) in
    let next : i + 1 + m ≡ i + suc m = omega arith in
    ap (λ k. map f (range_with_len i k)) more
    ∙ ap (λ xs. f i ∷ xs) (split f (i + 1) m n (m + n) refl ∙ ap (λ k. map f (range_with_len (i + 1) m) ++ map f (range_with_len k n)) next)

map-twice : {A B : Type 0} (f : A → B) (g : ℕ → A) (i n : ℕ) → map f (map g (range_with_len i n)) ≡ map (λ k. f (g k)) (range_with_len i n)
map-twice f g i zero = refl
map-twice f g i (suc n) = ap (λ xs. f (g i) ∷ xs) (map-twice f g (i + 1) n)

-- ---- where they lie

pub spots-are : (state : Vectors) (spacing : Spacing) (base : ℕ) → count state ≤ state.vl
    → accesses_at Bits32 (addresses_by state spacing true base) ≡ spots state spacing base 0 (count state)
unfolding addresses_by
spots-are state spacing base full =
    let n = count state in
    ap (λ flags. accesses_at Bits32 (map (word.add 32 base) (chosen_of flags (offsets_by state spacing)))) (all_active state full)
    ∙ ap (λ os. accesses_at Bits32 (map (word.add 32 base) os)) (chosen-all n (offset state spacing) 0)
    ∙ ap (accesses_at Bits32) (map-twice (word.add 32 base) (offset state spacing) 0 n)
    ∙ map-twice (access_at Word) (λ k. word.add 32 base (offset state spacing k)) 0 n

-- ---- the first fault

or_none : (t : Option Trap) → or_else t None ≡ t
or_none None = refl
or_none (Some t) = refl

or_assoc : (a b c : Option Trap) → or_else a (or_else b c) ≡ or_else (or_else a b) c
or_assoc None b c = refl
or_assoc (Some t) b c = refl

fault-append : (words bytes : ℕ) (kind : Kind) (xs ys : List Access)
    → first_fault words bytes kind (xs ++ ys) ≡ or_else (first_fault words bytes kind xs) (first_fault words bytes kind ys)
fault-append words bytes kind [] ys = refl
fault-append words bytes kind (x ∷ xs) ys =
    ap (or_else (fault_of words bytes kind x.address (bytes_in x.size))) (fault-append words bytes kind xs ys)
    ∙ or_assoc (fault_of words bytes kind x.address (bytes_in x.size)) (first_fault words bytes kind xs) (first_fault words bytes kind ys)

module _ (words bytes : ℕ) (state : Vectors) (spacing : Spacing) (base : ℕ) where
  at : ℕ → ℕ
  at k = word.add 32 base (offset state spacing k)

  -- one more that can be loaded
  pub none-more : (i j : ℕ) → j ≡ i + 1 → first_fault words bytes Reads (spots state spacing base 0 i) ≡ None
      → fault_of words bytes Reads (word.add 32 base (offset state spacing i)) 4 ≡ None
      → first_fault words bytes Reads (spots state spacing base 0 j) ≡ None
  none-more i j e so_far here =
      ap (first_fault words bytes Reads) (split (λ k. access_at Word (word.add 32 base (offset state spacing k))) 0 i 1 j (sym e))
      ∙ fault-append words bytes Reads (spots state spacing base 0 i) (spots state spacing base (0 + i) 1)
      ∙ ap (λ t. or_else t (first_fault words bytes Reads (spots state spacing base (0 + i) 1))) so_far
      ∙ (let same : 0 + i ≡ i = omega arith in rw same (rw here refl))

  -- the first that can't
  pub some-here : (i n : ℕ) (trap : Trap) → i < n → first_fault words bytes Reads (spots state spacing base 0 i) ≡ None
      → fault_of words bytes Reads (word.add 32 base (offset state spacing i)) 4 ≡ Some trap
      → first_fault words bytes Reads (spots state spacing base 0 n) ≡ Some trap
  some-here i n trap l so_far here =
      let rest : i + suc (n - (i + 1)) ≡ n = omega (arith, l) in
      ap (first_fault words bytes Reads) (split (λ k. access_at Word (word.add 32 base (offset state spacing k))) 0 i (suc (n - (i + 1))) n rest)
      ∙ fault-append words bytes Reads (spots state spacing base 0 i) (spots state spacing base (0 + i) (suc (n - (i + 1))))
      ∙ ap (λ t. or_else t (first_fault words bytes Reads (spots state spacing base (0 + i) (suc (n - (i + 1)))))) so_far
      ∙ (let same : 0 + i ≡ i = omega arith in rw same (rw here refl))

-- ---- what is read, and what it leaves

pub read-more : (f : Access → ℕ) (state : Vectors) (spacing : Spacing) (base i j : ℕ) (words : List ℕ) (word_here : ℕ) → j ≡ i + 1 → i < length words
    → take i words ≡ map f (spots state spacing base 0 i) → word_here ≡ f (access_at Word (word.add 32 base (offset state spacing i)))
    → take j (slice_set words i word_here) ≡ map f (spots state spacing base 0 j)
read-more f state spacing base i j words word_here e l so_far here =
    let last : 0 + i ≡ i = omega arith in
    take-set_at words i j word_here e l
    ∙ ap (λ xs. xs ++ word_here ∷ []) so_far
    ∙ ap (λ x. map f (spots state spacing base 0 i) ++ x ∷ []) here
    ∙ sym (ap (map f) (split (λ k. access_at Word (word.add 32 base (offset state spacing k))) 0 i 1 j (sym e))
    ∙ map-append f (spots state spacing base 0 i) (spots state spacing base (0 + i) 1)
    ∙ ap (λ k. map f (spots state spacing base 0 i) ++ map f (spots state spacing base k 1)) last)

pub more-read : (text memory : List ℕ) (state : Vectors) (spacing : Spacing) (base i j : ℕ) (words : List ℕ) (word_here : ℕ) → j ≡ i + 1 → i < length words
    → AreRead text memory state spacing base i words
    → fault_of (length text) (length memory) Reads (word.add 32 base (offset state spacing i)) 4 ≡ None
    → word_here ≡ number_at text memory (access_at Word (word.add 32 base (offset state spacing i)))
    → AreRead text memory state spacing base j (slice_set words i word_here)
more-read text memory state spacing base i j words word_here e l so_far fits here = record {
  read = read-more (number_at text memory) state spacing base i j words word_here e l so_far.read here;
  fits = none-more (length text) (length memory) state spacing base i j e so_far.fits fits;
}

-- the trap that ends it
pub trap-passed : {T : Type 0} (result : Result T Trap) (fault : Option Trap) (trap : Trap) → IsErrAnd result (λ t. t ≡ trap) → fault ≡ Some trap
    → IfErr result (λ t. fault ≡ Some t)
trap-passed (Ok x) fault trap is e = absurd is
trap-passed (Err t) fault trap is e = e ∙ ap (λ u. Some u) (sym is)

fill-more : (v : ℕ) (state : Vectors) (i n : ℕ) (numbers : List ℕ) → n < length numbers
    → filled_from i state 32 v (replicate (suc n) true) numbers
    ≡ with_element_from (filled_from i state 32 v (replicate n true) numbers) 32 v (i + n) (slice_index numbers n)
fill-more v state i n [] l = absurd (omega (arith, l))
fill-more v state i zero (x ∷ numbers) l = let same : i + 0 ≡ i = omega arith in rw same refl
fill-more v state i (suc n) (x ∷ numbers) l =
    let next : i + 1 + n ≡ i + suc n = omega arith in
    fill-more v (with_element_from state 32 v i x) (i + 1) n numbers (omega (arith, l))
    ∙ ap (λ k. with_element_from (filled_from (i + 1) (with_element_from state 32 v i x) 32 v (replicate n true) numbers) 32 v k (slice_index numbers n)) next

fill-taken : (v : ℕ) (state : Vectors) (i n : ℕ) (numbers : List ℕ)
    → filled_from i state 32 v (replicate n true) numbers ≡ filled_from i state 32 v (replicate n true) (take n numbers)
fill-taken v state i zero numbers = refl
fill-taken v state i (suc n) [] = refl
fill-taken v state i (suc n) (x ∷ numbers) = fill-taken v (with_element_from state 32 v i x) (i + 1) n numbers

module _ (v : ℕ) (state : Vectors) (words : List ℕ) where
  abbrev filled : ℕ → Vectors
  filled n = filled_from 0 state 32 v (replicate n true) words

  one-more : (k j : ℕ) → k < length words → j ≡ k + 1 → with_element_from (filled k) 32 v k (slice_index words k) ≡ filled j
  one-more k j l e =
      let same : 0 + k ≡ k = omega arith in
      let next : suc k ≡ j = omega (arith, e) in
      sym (fill-more v state 0 k words l ∙ ap (λ i. with_element_from (filled k) 32 v i (slice_index words k)) same) ∙ ap filled next

  pub fill-four : (n m : ℕ) → m ≡ n + 4 → n + 3 < length words
      → with_element_from (with_element_from (with_element_from (with_element_from (filled n) 32 v n (slice_index words n)) 32 v (n + 1) (slice_index words (n + 1)))
      32 v (n + 2) (slice_index words (n + 2))) 32 v (n + 3) (slice_index words (n + 3))
      ≡ filled m
  fill-four n m e l =
      ap (λ s. with_element_from (with_element_from (with_element_from s 32 v (n + 1) (slice_index words (n + 1))) 32 v (n + 2) (slice_index words (n + 2)))
      32 v (n + 3) (slice_index words (n + 3))) (one-more n (n + 1) (omega (arith, l)) refl)
      ∙ ap (λ s. with_element_from (with_element_from s 32 v (n + 2) (slice_index words (n + 2))) 32 v (n + 3) (slice_index words (n + 3)))
      (one-more (n + 1) (n + 2) (omega (arith, l)) (omega arith))
      ∙ ap (λ s. with_element_from s 32 v (n + 3) (slice_index words (n + 3))) (one-more (n + 2) (n + 3) (omega (arith, l)) (omega arith))
      ∙ one-more (n + 3) m l (omega (arith, e))

pub loaded-words : (f : Access → ℕ) (state : Vectors) (v : ℕ) (spacing : Spacing) (base : ℕ) (words : List ℕ) → count state ≤ state.vl
    → take (count state) words ≡ map f (spots state spacing base 0 (count state))
    → filled_from 0 state 32 v (replicate (count state) true) words
    ≡ loaded state Bits32 v true (map f (accesses_at Bits32 (addresses_by state spacing true base)))
loaded-words f state v spacing base words full e =
    let n = count state in
    fill-taken v state 0 n words
    ∙ ap (filled_from 0 state 32 v (replicate n true)) e
    ∙ ap (λ places. filled_from 0 state 32 v (replicate n true) (map f places)) (sym (spots-are state spacing base full))
    ∙ ap (λ flags. filled_from 0 state 32 v flags (map f (accesses_at Bits32 (addresses_by state spacing true base)))) (sym (all_active state full))

-- ---- which are legal

module _ (state : Vectors) (whole : IsWhole state) (v : ℕ) (placed : v % group state ≡ 0) where
  own-group : 32 * group state / width state ≡ group state
  own-group = ap (λ w. 32 * group state / w) whole.words ∙ (let one : 32 * group state / 32 ≡ group state = omega arith in one)

  is-fit : is_unfit state (Some (Bits32, v)) ≡ false
  is-fit = ap (λ g. nat_lt 4 g || (nat_lt 1 g && not (v % g == 0))) own-group ∙ fitting v (group state) (group_sizes state whole.configured) placed

  pub is-strided : (rs1 rs2 : ℕ) → is_refused (LoadElements Bits32 v rs1 (addressings.Strided rs2) true) state ≡ false
  is-strided rs1 rs2 = rw (whole.configured, is-fit) refl

  pub is-indexed : (rs1 vs2 : ℕ) → vs2 % group state ≡ 0 → is_refused (LoadElements Bits32 v rs1 (addressings.Indexed vs2) true) state ≡ false
  is-indexed rs1 vs2 offsets = rw (whole.configured, whole.words, placed, offsets) refl

pub held_all : (state : Vectors) → IsWhole state → (vs2 : ℕ) → vs2 < 32 → vs2 % group state ≡ 0 → (index : ℕ) → index < count state → vs2 + index / 4 < 32
held_all state whole vs2 low placed index l =
    let all = count_of_words state whole.words in
    let below : index / 4 < group state = omega (arith, all, l) in
    place_inside state whole.configured vs2 (index / 4) low placed below

pub part_inside : (state : Vectors) → IsWhole state → (v part : ℕ) → v < 32 → v % group state ≡ 0 → part < group state → v + part < 32
part_inside state whole v part low placed few = place_inside state whole.configured v part low placed few

-- a loop has written this many registers, and one more
pub words-written : (v : ℕ) (h0 h1 h2 : HartState) (part : ℕ) (words : List ℕ) → length words ≡ 16 → part < 4
    → h1 ≡ with_vectors h0 (filled_from 0 (vectors_of h0) 32 v (replicate (4 * part) true) words)
    → h2 ≡ with_vectors h1 (with_element_from (with_element_from (with_element_from (with_element_from (vectors_of h1) 32 v (4 * part) (slice_index words (4 * part)))
    32 v (4 * part + 1) (slice_index words (4 * part + 1))) 32 v (4 * part + 2) (slice_index words (4 * part + 2))) 32 v (4 * part + 3)
    (slice_index words (4 * part + 3)))
    → h2 ≡ with_vectors h0 (filled_from 0 (vectors_of h0) 32 v (replicate (4 * (part + 1)) true) words)
words-written v h0 h1 h2 part words long few e1 e2 =
    rw (e2, e1) (ap (with_vectors h0) (fill-four v (vectors_of h0) words (4 * part) (4 * (part + 1)) (omega arith) (omega (arith, long, few))))

pub few_words : (state : Vectors) → IsWhole state → count state ≤ 16
few_words state whole = let all = count_of_words state whole.words in by_size (group state) (group_sizes state whole.configured) all
  where
    by_size : (g : ℕ) → (g ≡ 1) ⊎ ((g ≡ 2) ⊎ (g ≡ 4)) → count state ≡ 4 * g → count state ≤ 16
    by_size g (inl e) all = omega (arith, e, all)
    by_size g (inr (inl e)) all = omega (arith, e, all)
    by_size g (inr (inr e)) all = omega (arith, e, all)
