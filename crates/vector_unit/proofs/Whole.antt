-- What is made of a whole group of words register by register is what the rows say of its elements.
use Rattle.std.proofs.Common.{◌≡◌, ℕ, zero, suc, ◌+◌, ◌*◌, ◌/◌, ◌%◌, ◌^◌, ◌<◌, ◌≤◌, ◌==◌, ◌&&◌, ◌⊎◌, true, false, List, [], ◌∷◌, take, drop, length, Bool}
use Rattle.std.proofs.Common.{refl, sym, ◌∙◌, ap, arith, inl, inr}
use Rattle.std.specs.Prelude.{nat_le, nat_lt, not, ℤ, slice_index}
use Rattle.std.proofs.lemmas.Bool.Decides.{nat_tests}
use Rattle.std.proofs.Math.ListN.{replicate}
use Rattle.std.proofs.lemmas.Bool.{and_parts, leb-true, not-false}
use Rattle.std.proofs.lemmas.List.FromFn.{length-map-range_with_len, length-range_with_len}
use Rattle.std.proofs.lemmas.List.{length-replicate}
use Rattle.std.proofs.Math.Nat.{mod-eq_of_lt}
use Rattle.lanes.specs.Words.{element, elements, with_element, zip_with, merged, mask_bit, mask_bits, with_mask_bits_from, wrapped}
use Rattle.vector_unit.specs.Operations as op
use Rattle.vector_unit.specs.declared.elements.NewElements.{NewElements}
use Rattle.vector_unit.specs.declared.elements.NewElements.TheVariants.{Arithmetic, Multiply, Merge, Copy, Numbers, Bytes}
use Rattle.rv_insn.specs.declared.vector_operations.CompareVxOp.{CompareVxOp}
use Rattle.vector_unit.specs.declared.operands.OtherOperand.{OtherOperand}
use Rattle.vector_unit.specs.declared.operands.OtherOperand.TheVariants.{Register, Number, Immediate, Amount}
use Rattle.vector_unit.specs.Accesses.{with_element_from}
use Rattle.vector_unit.specs.Vector.{Vectors, register, with_register, with_registers, with_elements, is_supported, vsew_of, vlmul_of, most_elements}
use Rattle.vector_unit.specs.Vector.{width, count, group, of_group, element_from, has_vill, is_misplaced}
use Rattle.vector_unit.specs.Operands.{operand_elements}
use Rattle.vector_unit.specs.inner.Parts.{active_part, own_count, operand_part, new_elements, new_part, with_part_bits}
use Rattle.vector_unit.specs.inner.Wholes.{IsWhole, is_whole_of, with_each, paired_words, words_in, words_of}
use Rattle.vector_unit.proofs.Actives.{all_active}
use Rattle.vector_unit.proofs.Groups.{is_cut, part-active, within, part-new, part-group, part-operand, next_part, from_none}
use Rattle.vector_unit.proofs.Parts.{part_of, part-replicate, part-zip}

-- ---- all are written

merged_all : (n : ℕ) (new old : List ℕ) → length new ≡ n → length old ≡ n → merged (replicate n true) new old ≡ new
merged_all zero [] old l m = refl
merged_all zero (x ∷ new) old l m = absurd (omega (arith, l))
merged_all (suc n) [] old l m = absurd (omega (arith, l))
merged_all (suc n) (x ∷ new) [] l m = absurd (omega (arith, m))
merged_all (suc n) (x ∷ new) (y ∷ old) l m = ap (λ xs. x ∷ xs) (merged_all n new old (omega (arith, l)) (omega (arith, m)))

zip_length : (f : ℕ → ℕ → ℕ) (n : ℕ) (xs ys : List ℕ) → length xs ≡ n → length ys ≡ n → length (zip_with f xs ys) ≡ n
zip_length f zero [] ys l m = refl
zip_length f zero (x ∷ xs) ys l m = absurd (omega (arith, l))
zip_length f (suc n) [] ys l m = absurd (omega (arith, l))
zip_length f (suc n) (x ∷ xs) [] l m = absurd (omega (arith, m))
zip_length f (suc n) (x ∷ xs) (y ∷ ys) l m = let others = zip_length f n xs ys (omega (arith, l)) (omega (arith, m)) in omega (arith, others)

group_length : (state : Vectors) (v : ℕ) → length (of_group state v) ≡ count state
group_length state v = length-map-range_with_len (element_from state (width state) v) 0 (count state)

operand_length : (state : Vectors) (other : OtherOperand) → length (operand_elements state other) ≡ count state
operand_length state (Register v) = group_length state v
operand_length state (Number n) = length-replicate (count state) _
operand_length state (Immediate imm) = length-replicate (count state) _
operand_length state (Amount amount) = length-replicate (count state) _

-- ---- register by register

in_each : (state : Vectors) (w n vd : ℕ) (all : List ℕ) (each : ℕ → List ℕ) → n ≡ 128 / w → (group : ℕ)
    → ((part : ℕ) → part < group → part_of n part all ≡ each part) → (others part : ℕ) → part + others ≤ group
    → with_registers state w (vd + part) others (drop (part * n) all) ≡ with_each state w vd each part others
in_each state w n vd all each e group same zero part l = refl
in_each state w n vd all each e group same (suc others) part l =
    let after : vd + part + 1 ≡ vd + (part + 1) = omega arith in
    let here : take n (drop (part * n) all) ≡ each part = same part (omega (arith, l)) in
    let there : with_registers state w (vd + part + 1) others (drop n (drop (part * n) all)) ≡ with_each state w vd each (part + 1) others =
    rw (next_part n part all, after) (in_each state w n vd all each e group same others (part + 1) (omega (arith, l))) in
    rw (← e) (rw (here, there) refl)

-- a list of as many words as a whole group has, by what each register gets of it
pub written_each : (state : Vectors) → IsWhole state → (vd : ℕ) (all : List ℕ) (each : ℕ → List ℕ) → length all ≡ count state
    → ((part : ℕ) → part < group state → part_of (own_count state) part all ≡ each part)
    → with_each state 32 vd each 0 (group state) ≡ with_elements state vd true all
written_each state whole vd all each long same =
    let n = own_count state in
    let first : vd + 0 ≡ vd = omega arith in
    let parts : with_registers state (width state) (vd + 0) (group state) (drop (0 * n) all) ≡ with_each state (width state) vd each 0 (group state) =
    in_each state (width state) n vd all each refl (group state) same (group state) 0 (omega arith) in
    let active = all_active state whole.full in
    let new : merged (replicate (count state) true) all (of_group state vd) ≡ all = merged_all (count state) all (of_group state vd) long (group_length state vd) in
    let words = whole.words in
    sym (ap (λ flags. with_registers state (width state) vd (group state) (merged flags all (of_group state vd))) active
    ∙ ap (with_registers state (width state) vd (group state)) new
    ∙ rw (from_none n, first) at parts
    ∙ ap (λ w. with_each state w vd each 0 (group state)) words)

pub operand_words : (state : Vectors) → IsWhole state → (other : OtherOperand) (part : ℕ) → operand_part state other part ≡ words_of state other part
operand_words state whole (Register v) part = rw whole.words refl
operand_words state whole (Number n) part = rw whole.words refl
operand_words state whole (Immediate imm) part = rw whole.words refl
operand_words state whole (Amount amount) part = rw whole.words refl

pub written_pairs : (state : Vectors) → IsWhole state → (f : ℕ → ℕ → ℕ) (vd vs2 : ℕ) (other : OtherOperand)
    → with_each state 32 vd (paired_words state f vs2 other) 0 (group state)
    ≡ with_elements state vd true (zip_with f (of_group state vs2) (operand_elements state other))
written_pairs state whole f vd vs2 other =
    let cut = is_cut state whole.configured in
    written_each state whole vd (zip_with f (of_group state vs2) (operand_elements state other)) (paired_words state f vs2 other)
    (zip_length f (count state) (of_group state vs2) (operand_elements state other) (group_length state vs2) (operand_length state other))
    (λ part l. part-zip f (own_count state) part (of_group state vs2) (operand_elements state other)
    ∙ rw (part-group state cut vs2 part l, part-operand state cut other part l, operand_words state whole other part)
    (ap (λ w. zip_with f (elements w (register state (vs2 + part))) (words_of state other part)) whole.words))

-- what is not made of pairs: as many as a group has
merged_length : (n : ℕ) (flags : List Bool) (xs ys : List ℕ) → length flags ≡ n → length xs ≡ n → length ys ≡ n → length (merged flags xs ys) ≡ n
merged_length zero [] xs ys k l m = refl
merged_length zero (b ∷ flags) xs ys k l m = absurd (omega (arith, k))
merged_length (suc n) [] xs ys k l m = absurd (omega (arith, k))
merged_length (suc n) (b ∷ flags) [] ys k l m = absurd (omega (arith, l))
merged_length (suc n) (b ∷ flags) (x ∷ xs) [] k l m = absurd (omega (arith, m))
merged_length (suc n) (b ∷ flags) (x ∷ xs) (y ∷ ys) k l m =
    let others = merged_length n flags xs ys (omega (arith, k)) (omega (arith, l)) (omega (arith, m)) in omega (arith, others)

mask_length : (state : Vectors) → length (mask_bits 0 (count state) (register state 0)) ≡ count state
unfolding mask_bits
mask_length state = length-map-range_with_len (λ i. mask_bit (register state 0) (0 + i)) 0 (count state)

new_length : (state : Vectors) (new : NewElements) → length (new_elements state new) ≡ count state
new_length state (Arithmetic o vs2 other) = zip_length (op.arithmetic_vx o (width state)) (count state) (of_group state vs2) (operand_elements state other)
    (group_length state vs2) (operand_length state other)
new_length state (Multiply o vs2 other) = zip_length (op.multiply o (width state)) (count state) (of_group state vs2) (operand_elements state other)
    (group_length state vs2) (operand_length state other)
new_length state (Merge vs2 other) = merged_length (count state) (mask_bits 0 (count state) (register state 0)) (operand_elements state other)
    (of_group state vs2) (mask_length state) (operand_length state other) (group_length state vs2)
new_length state (Copy other) = operand_length state other
new_length state Numbers = length-range_with_len 0 (count state)
new_length state (Bytes vs2) = length-map-range_with_len (slice_index (register state vs2)) 0 (count state)

pub written_new : (state : Vectors) → IsWhole state → (n : ℕ) → group state ≡ n → (vd : ℕ) (new : NewElements)
    → with_each state 32 vd (new_part state new) 0 n ≡ with_elements state vd true (new_elements state new)
written_new state whole n e vd new =
    let cut = is_cut state whole.configured in
    ap (with_each state 32 vd (new_part state new) 0) (sym e)
    ∙ written_each state whole vd (new_elements state new) (new_part state new) (new_length state new) (λ part l. part-new state cut new part l)

-- ---- which groups are whole

sizes : (k : ℕ) → k ≤ 2 → (2 ^ k ≡ 1) ⊎ ((2 ^ k ≡ 2) ⊎ (2 ^ k ≡ 4))
sizes zero l = inl refl
sizes (suc zero) l = inr (inl refl)
sizes (suc (suc zero)) l = inr (inr refl)
sizes (suc (suc (suc k))) l = absurd (omega (arith, l))

small_group : (vtype : ℕ) → is_supported vtype ≡ true → vlmul_of vtype ≤ 2
small_group vtype e = leb-true (vlmul_of vtype) 2 (and_parts (nat_lt vtype 256) (nat_le (vlmul_of vtype) 2) (and_parts (nat_lt vtype 256
    && nat_le (vlmul_of vtype) 2) (nat_le (vsew_of vtype) 2) e).0).1

pub group_sizes : (state : Vectors) → has_vill state ≡ false → (group state ≡ 1) ⊎ ((group state ≡ 2) ⊎ (group state ≡ 4))
group_sizes state e = sizes (vlmul_of state.vtype) (small_group state.vtype (not-false (is_supported state.vtype) e))

inside : (g v part : ℕ) → (g ≡ 1) ⊎ ((g ≡ 2) ⊎ (g ≡ 4)) → v < 32 → v % g ≡ 0 → part < g → v + part < 32
inside g v part (inl e) low at few = let few1 : part < 1 = rw e at few in omega (arith, low, few1)
inside g v part (inr (inl e)) low at few =
    let few2 : part < 2 = rw e at few in
    let at2 : v % 2 ≡ 0 = rw e at at in
    omega (arith, low, few2, at2)
inside g v part (inr (inr e)) low at few =
    let few4 : part < 4 = rw e at few in
    let at4 : v % 4 ≡ 0 = rw e at at in
    omega (arith, low, few4, at4)

pub place_inside : (state : Vectors) → has_vill state ≡ false → (v part : ℕ) → v < 32 → v % group state ≡ 0 → part < group state → v + part < 32
place_inside state e v part low at few = inside (group state) v part (group_sizes state e) low at few

pub is_multiple : (v g : ℕ) → not (v % g == 0) ≡ false → v % g ≡ 0
is_multiple v g e = grind (arith, nat_tests, e)

pub one_placed : (state : Vectors) (vd : ℕ) → vd % group state ≡ 0 → is_misplaced state (vd ∷ []) ≡ false
one_placed state vd d = rw d refl

pub two_placed : (state : Vectors) (vd vs2 : ℕ) → vd % group state ≡ 0 → vs2 % group state ≡ 0 → is_misplaced state (vd ∷ vs2 ∷ []) ≡ false
two_placed state vd vs2 d e = rw (d, e) refl

pub three_placed : (state : Vectors) (vd vs2 vs1 : ℕ) → vd % group state ≡ 0 → vs2 % group state ≡ 0 → vs1 % group state ≡ 0
    → is_misplaced state (vd ∷ vs2 ∷ vs1 ∷ []) ≡ false
three_placed state vd vs2 vs1 d e f = rw (d, e, f) refl

pub four_registers : (state : Vectors) → IsWhole state → 2 < group state → group state ≡ 4
four_registers state whole more = by_size (group state) (group_sizes state whole.configured) more
  where
    by_size : (g : ℕ) → (g ≡ 1) ⊎ ((g ≡ 2) ⊎ (g ≡ 4)) → 2 < g → g ≡ 4
    by_size g (inl e) more = absurd (omega (arith, e, more))
    by_size g (inr (inl e)) more = absurd (omega (arith, e, more))
    by_size g (inr (inr e)) more = e

pub two_registers : (state : Vectors) → 1 < group state → group state ≤ 2 → group state ≡ 2
two_registers state more few = omega (arith, more, few)

pub one_register : (state : Vectors) → IsWhole state → group state ≤ 1 → group state ≡ 1
one_register state whole few = by_size (group state) (group_sizes state whole.configured) few
  where
    by_size : (g : ℕ) → (g ≡ 1) ⊎ ((g ≡ 2) ⊎ (g ≡ 4)) → g ≤ 1 → g ≡ 1
    by_size g (inl e) few = e
    by_size g (inr (inl e)) few = absurd (omega (arith, e, few))
    by_size g (inr (inr e)) few = absurd (omega (arith, e, few))

pub written_by_size : (state : Vectors) → IsWhole state → (n : ℕ) → group state ≡ n → (f : ℕ → ℕ → ℕ → ℕ) (vd vs2 : ℕ) (other : OtherOperand)
    → with_each state 32 vd (paired_words state (f 32) vs2 other) 0 n
    ≡ with_elements state vd true (zip_with (f (width state)) (of_group state vs2) (operand_elements state other))
written_by_size state whole n e f vd vs2 other =
    ap (with_each state 32 vd (paired_words state (f 32) vs2 other) 0) (sym e)
    ∙ written_pairs state whole (f 32) vd vs2 other
    ∙ ap (λ w. with_elements state vd true (zip_with (f w) (of_group state vs2) (operand_elements state other))) (sym whole.words)

of_words : (k : ℕ) → (k == 2) ≡ true → 8 * 2 ^ k ≡ 32
of_words k e = let two : k ≡ 2 = grind (arith, nat_tests, e) in rw two refl

pub known_whole : (state : Vectors) → is_whole_of state.vtype state.vl ≡ true → IsWhole state
known_whole state e =
    let parts = and_parts (is_supported state.vtype) (vsew_of state.vtype == 2 && nat_le (most_elements state.vtype) state.vl) e in
    let others = and_parts (vsew_of state.vtype == 2) (nat_le (most_elements state.vtype) state.vl) parts.1 in
    record {
      configured = ap not parts.0;
      words = of_words (vsew_of state.vtype) others.0;
      full = leb-true (most_elements state.vtype) state.vl others.1;
    }

-- a number whose low bits are given at the width of words has them at that of a state
pub low_bits : (state : Vectors) → IsWhole state → (n a : ℕ) → n % 2 ^ 32 ≡ a → n % 2 ^ width state ≡ a
low_bits state whole n a e = rw whole.words e

pub low_bits_of : (state : Vectors) → IsWhole state → (n : ℕ) (imm : ℤ) → n % 2 ^ 32 ≡ wrapped 32 imm → n % 2 ^ width state ≡ wrapped (width state) imm
low_bits_of state whole n imm e = rw whole.words e

-- ---- a word of a register of a group

pub word_held : (state : Vectors) (v part index : ℕ) → index < 4
    → element_from state 32 v (4 * part + index) ≡ element 32 (register state (v + part)) index
word_held state v part index l =
    let q : (4 * part + index) / 4 ≡ part = omega (arith, l) in
    let r : (4 * part + index) % 4 ≡ index = omega (arith, l) in
    ap (λ p. element 32 (register state (v + p)) ((4 * part + index) % 4)) q ∙ ap (element 32 (register state (v + part))) r

pub word_put : (state : Vectors) (v part index n : ℕ) → index < 4 → n < 2 ^ 32
    → with_element_from state 32 v (4 * part + index) n ≡ with_register state (v + part) (with_element 32 (register state (v + part)) index n)
word_put state v part index n l small =
    let q : (4 * part + index) / 4 ≡ part = omega (arith, l) in
    let r : (4 * part + index) % 4 ≡ index = omega (arith, l) in
    let m : n % 2 ^ 32 ≡ n = mod-eq_of_lt small in
    ap (λ p. with_register state (v + p) (with_element 32 (register state (v + p)) ((4 * part + index) % 4) (n % 2 ^ 32))) q
    ∙ ap (λ i. with_register state (v + part) (with_element 32 (register state (v + part)) i (n % 2 ^ 32))) r
    ∙ ap (λ a. with_register state (v + part) (with_element 32 (register state (v + part)) index a)) m

-- the offset of an element, among those of a group
pub word_lies : (state : Vectors) (v i : ℕ) → width state ≡ 32 → element_from state (width state) v i ≡ element_from state 32 v (4 * (i / 4) + i % 4)
word_lies state v i e =
    let same : i ≡ 4 * (i / 4) + i % 4 = omega arith in
    ap (λ w. element_from state w v i) e ∙ ap (element_from state 32 v) same

-- ---- comparisons

part_active_whole : (state : Vectors) → IsWhole state → (part : ℕ) → part < group state → active_part state true part ≡ true ∷ true ∷ true ∷ true ∷ []
part_active_whole state whole part l =
    let cut = is_cut state whole.configured in
    sym (part-active state cut true part l)
    ∙ ap (part_of (own_count state) part) (all_active state whole.full)
    ∙ part-replicate true (own_count state) part (count state) (within state cut part l)
    ∙ ap (λ w. replicate (128 / w) true) whole.words

pub compared_words : (state : Vectors) → IsWhole state → (o : CompareVxOp) (vs2 : ℕ) (other : OtherOperand) (part : ℕ) (bytes : List ℕ) → part < group state
    → with_mask_bits_from (part * 4) (true ∷ true ∷ true ∷ true ∷ []) (zip_with (op.compare_vx o 32) (words_in state vs2 part) (words_of state other part)) bytes
    ≡ with_part_bits state o vs2 other true part bytes
compared_words state whole o vs2 other part bytes l =
    let bits : ℕ → List Bool → List ℕ → List ℕ = λ w flags others. with_mask_bits_from (part * (128 / w)) flags
    (zip_with (op.compare_vx o w) (elements w (register state (vs2 + part))) others) bytes in
    sym (ap (λ flags. bits (width state) flags (operand_part state other part)) (part_active_whole state whole part l)
    ∙ ap (bits (width state) (true ∷ true ∷ true ∷ true ∷ [])) (operand_words state whole other part)
    ∙ ap (λ w. bits w (true ∷ true ∷ true ∷ true ∷ []) (words_of state other part)) whole.words)

pub compared_count : (state : Vectors) (f : ℕ → ℕ → Bool) (vs2 : ℕ) (other : OtherOperand) (part : ℕ) → length (zip_with f (words_in state vs2 part) (words_of state other part)) ≡ 4
unfolding elements
compared_count state f vs2 (Register v) part = refl
compared_count state f vs2 (Number n) part = refl
compared_count state f vs2 (Immediate imm) part = refl
compared_count state f vs2 (Amount amount) part = refl
