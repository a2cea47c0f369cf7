-- What is made of a group register by register is what the rows say of its elements.
use Rattle.std.proofs.Common.{◌≡◌, ℕ, zero, suc, ◌+◌, ◌*◌, ◌/◌, ◌%◌, ◌^◌, ◌<◌, ◌≤◌, Bool, false, List, [], take, drop, refl, sym, ◌∙◌, ap, arith, inl, inr}
use Rattle.std.specs.Prelude.{slice_index}
use Rattle.std.specs.List.{range_with_len}
use Rattle.std.proofs.Math.Nat.{mul-le-mul_right, suc-mul}
use Rattle.std.proofs.lemmas.List.{drop-drop, drop_all, map-id}
use Rattle.std.proofs.lemmas.List.FromFn.{length-map-range_with_len}
use Rattle.lanes.specs.Words.{IsWidth, element, elements, zip_with, merged, reduced, active, mask_bit, mask_bits, is_active, with_mask_bits_from}
use Rattle.rv_insn.specs.declared.vector_operations.CompareVxOp.{CompareVxOp}
use Rattle.rv_insn.specs.declared.vector_operations.ReductionOp.{ReductionOp}
use Rattle.vector_unit.specs.declared.elements.NewElements.{NewElements}
use Rattle.vector_unit.specs.declared.elements.NewElements.TheVariants.{Arithmetic, Multiply, Merge, Copy, Numbers, Bytes}
use Rattle.vector_unit.specs.declared.operands.OtherOperand.{OtherOperand}
use Rattle.vector_unit.specs.declared.operands.OtherOperand.TheVariants.{Register, Number, Immediate, Amount}
use Rattle.vector_unit.specs.Vector.{Vectors, register, with_register, has_vill, width, count, group, of_group, element_from, active_in, with_registers}
use Rattle.vector_unit.specs.Vector.{with_elements}
use Rattle.vector_unit.specs.Operands.{operand_elements}
use Rattle.vector_unit.specs.Operations as op
use Rattle.vector_unit.specs.inner.Parts.{own_count, register_part, operand_part, active_part, new_part, new_elements, merged_register, with_parts}
use Rattle.vector_unit.specs.inner.Parts.{with_part_bits, with_parts_bits, reduced_parts}
use Rattle.vector_unit.proofs.Configurations.{is_width, is_small}
use Rattle.vector_unit.proofs.Parts.{part_of, part-zip, part-merged, part-range, part-replicate, same-below, from-start, bits-cut, reduced-cut}

-- ---- how elements lie in the registers of a group

pub record IsCut (state : Vectors) : Type 0 where
  pub all : count state ≡ group state * own_count state
  pub place : (part i : ℕ) → i < own_count state → ((part * own_count state + i) / own_count state ≡ part) × ((part * own_count state + i) % own_count state
      ≡ i)
  pub few : group state * own_count state ≤ 64
  pub low : (k : ℕ) → k < 64 → k % 2 ^ width state ≡ k

cut_8 : (state : Vectors) → width state ≡ 8 → (g : ℕ) → g ≤ 4 → group state ≡ g → IsCut state
cut_8 state e g l same = record {
  all = rw (e, same) (omega arith);
  place = λ part i below. let low : i < 16 = rw e at below in rw e (omega arith, omega arith);
  few = rw (e, same) (omega arith);
  low = λ k below. rw e (omega arith);
}

cut_16 : (state : Vectors) → width state ≡ 16 → (g : ℕ) → g ≤ 4 → group state ≡ g → IsCut state
cut_16 state e g l same = record {
  all = rw (e, same) (omega arith);
  place = λ part i below. let low : i < 8 = rw e at below in rw e (omega arith, omega arith);
  few = rw (e, same) (omega arith);
  low = λ k below. rw e (omega arith);
}

cut_32 : (state : Vectors) → width state ≡ 32 → (g : ℕ) → g ≤ 4 → group state ≡ g → IsCut state
cut_32 state e g l same = record {
  all = rw (e, same) (omega arith);
  place = λ part i below. let low : i < 4 = rw e at below in rw e (omega arith, omega arith);
  few = rw (e, same) (omega arith);
  low = λ k below. rw e (omega arith);
}

cut_by : (state : Vectors) → IsWidth (width state) → group state ≤ 4 → IsCut state
cut_by state (inl e) l = cut_8 state e (group state) l refl
cut_by state (inr (inl e)) l = cut_16 state e (group state) l refl
cut_by state (inr (inr e)) l = cut_32 state e (group state) l refl

pub is_cut : (state : Vectors) → has_vill state ≡ false → IsCut state
is_cut state e = cut_by state (is_width state e) (is_small state e)

-- a part of a group lies in it
pub within : (state : Vectors) → IsCut state → (part : ℕ) → part < group state → part * own_count state + own_count state ≤ count state
within state cut part l =
    let n = own_count state in
    let le : suc part * n ≤ group state * n = mul-le-mul_right n l in
    let next : suc part * n ≡ part * n + n = suc-mul part n in
    rw cut.all (omega (arith, le, next))

-- ---- parts of operands

own : (state : Vectors) → IsCut state → (v part i : ℕ) → i < own_count state
    → element_from state (width state) v (part * own_count state + i) ≡ element (width state) (register state (v + part)) i
own state cut v part i l = let place = cut.place part i l in rw (place.0, place.1) refl

pub part-group : (state : Vectors) → IsCut state → (v part : ℕ) → part < group state → part_of (own_count state) part (of_group state v)
    ≡ register_part state v part
unfolding elements
part-group state cut v part l =
    part-range (element_from state (width state) v) (own_count state) part (count state) (within state cut part l)
    ∙ same-below (λ i. element_from state (width state) v (part * own_count state + i)) (element (width state) (register state (v + part))) (own_count state)
    (λ i low. own state cut v part i low)

pub part-operand : (state : Vectors) → IsCut state → (other : OtherOperand) (part : ℕ) → part < group state
    → part_of (own_count state) part (operand_elements state other) ≡ operand_part state other part
part-operand state cut (Register v) part l = part-group state cut v part l
part-operand state cut (Number n) part l = part-replicate _ (own_count state) part (count state) (within state cut part l)
part-operand state cut (Immediate imm) part l = part-replicate _ (own_count state) part (count state) (within state cut part l)
part-operand state cut (Amount amount) part l = part-replicate _ (own_count state) part (count state) (within state cut part l)

pub part-active : (state : Vectors) → IsCut state → (vm : Bool) (part : ℕ) → part < group state → part_of (own_count state) part (active_in state vm)
    ≡ active_part state vm part
unfolding active
part-active state cut vm part l =
    ap (part_of (own_count state) part) (from-start (is_active state.vl vm (register state 0)) (count state))
    ∙ part-range (is_active state.vl vm (register state 0)) (own_count state) part (count state) (within state cut part l)

part-mask : (state : Vectors) → IsCut state → (part : ℕ) → part < group state
    → part_of (own_count state) part (mask_bits 0 (count state) (register state 0)) ≡ mask_bits (part * own_count state) (own_count state) (register state 0)
unfolding mask_bits
part-mask state cut part l =
    ap (part_of (own_count state) part) (from-start (mask_bit (register state 0)) (count state))
    ∙ part-range (mask_bit (register state 0)) (own_count state) part (count state) (within state cut part l)

part-numbers : (state : Vectors) → IsCut state → (part : ℕ) → part < group state → part_of (own_count state) part (range_with_len 0 (count state))
    ≡ new_part state Numbers part
part-numbers state cut part l =
    let n = own_count state in
    let in_all : part * n + n ≤ count state = within state cut part l in
    let most : count state ≤ 64 = rw cut.all cut.few in
    ap (part_of n part) (sym (map-id (range_with_len 0 (count state))))
    ∙ part-range (λ i. i) n part (count state) in_all
    ∙ same-below (λ i. part * n + i) (λ i. (part * n + i) % 2 ^ width state) n (λ i low. sym (cut.low (part * n + i) (omega (arith, low, in_all, most))))

pub part-new : (state : Vectors) → IsCut state → (new : NewElements) (part : ℕ) → part < group state → part_of (own_count state) part (new_elements state new)
    ≡ new_part state new part
part-new state cut (Arithmetic o vs2 other) part l =
    part-zip (op.arithmetic_vx o (width state)) (own_count state) part (of_group state vs2) (operand_elements state other)
    ∙ rw (part-group state cut vs2 part l, part-operand state cut other part l) refl
part-new state cut (Multiply o vs2 other) part l =
    part-zip (op.multiply o (width state)) (own_count state) part (of_group state vs2) (operand_elements state other)
    ∙ rw (part-group state cut vs2 part l, part-operand state cut other part l) refl
part-new state cut (Merge vs2 other) part l =
    part-merged (own_count state) part (mask_bits 0 (count state) (register state 0)) (operand_elements state other) (of_group state vs2)
    ∙ rw (part-mask state cut part l, part-operand state cut other part l, part-group state cut vs2 part l) refl
part-new state cut (Copy other) part l = part-operand state cut other part l
part-new state cut Numbers part l = part-numbers state cut part l
part-new state cut (Bytes vs2) part l = part-range (slice_index (register state vs2)) (own_count state) part (count state) (within state cut part l)

-- ---- elements

pub next_part : {A : Type 0} (n part : ℕ) (xs : List A) → drop n (drop (part * n) xs) ≡ drop ((part + 1) * n) xs
next_part n part xs =
    let one : part + 1 ≡ suc part = omega arith in
    let more : part * n + n ≡ (part + 1) * n = rw one (sym (suc-mul part n)) in
    drop-drop n (part * n) xs ∙ ap (λ k. drop k xs) more

in_parts : (state : Vectors) → IsCut state → (vd : ℕ) (vm : Bool) (new : NewElements) (others part : ℕ) → part + others ≤ group state
    → with_registers state (width state) (vd + part) others (drop (part * own_count state) (merged (active_in state vm) (new_elements state new)
    (of_group state vd)))
    ≡ with_parts state vd vm new part others
in_parts state cut vd vm new zero part l = refl
in_parts state cut vd vm new (suc others) part l =
    let n = own_count state in
    let all = merged (active_in state vm) (new_elements state new) (of_group state vd) in
    let below : part < group state = omega arith in
    let after : vd + part + 1 ≡ vd + (part + 1) = omega arith in
    let here : take n (drop (part * n) all) ≡ merged (active_part state vm part) (new_part state new part) (register_part state vd part) =
    part-merged n part (active_in state vm) (new_elements state new) (of_group state vd)
    ∙ rw (part-active state cut vm part below, part-new state cut new part below, part-group state cut vd part below) refl in
    let there : with_registers state (width state) (vd + part + 1) others (drop n (drop (part * n) all)) ≡ with_parts state vd vm new (part + 1) others =
    rw (next_part n part all, after) (in_parts state cut vd vm new others (part + 1) (omega arith)) in
    rw (here, there) refl

pub from_none : (n : ℕ) → 0 * n ≡ 0
from_none n = omega arith

pub written : (state : Vectors) → has_vill state ≡ false → (vd : ℕ) (vm : Bool) (new : NewElements)
    → with_parts state vd vm new 0 (group state) ≡ with_elements state vd vm (new_elements state new)
written state e vd vm new =
    let same : vd + 0 ≡ vd = omega arith in
    let parts = in_parts state (is_cut state e) vd vm new (group state) 0 (omega arith) in
    sym (rw (same, from_none (own_count state)) at parts)

-- the same of a group of one register
pub written_alone : (state : Vectors) → has_vill state ≡ false → group state ≡ 1 → (vd : ℕ) (vm : Bool) (new : NewElements)
    → with_register state (vd + 0) (merged_register state vd vm new 0) ≡ with_elements state vd vm (new_elements state new)
written_alone state e one vd vm new = ap (with_parts state vd vm new 0) (sym one) ∙ written state e vd vm new

-- ---- bits

bits_in_parts : (state : Vectors) → IsCut state → (o : CompareVxOp) (vs2 : ℕ) (other : OtherOperand) (vm : Bool) (others part : ℕ) (bytes : List ℕ)
    → part + others ≡ group state
    → with_mask_bits_from (part * own_count state) (drop (part * own_count state) (active_in state vm))
    (drop (part * own_count state) (zip_with (op.compare_vx o (width state)) (of_group state vs2) (operand_elements state other))) bytes
    ≡ with_parts_bits state o vs2 other vm part others bytes
unfolding active
bits_in_parts state cut o vs2 other vm zero part bytes l =
    let last : part ≡ group state = omega (arith, l) in
    let end : drop (part * own_count state) (active_in state vm) ≡ [] =
    drop_all (part * own_count state) (active_in state vm) (rw (
      length-map-range_with_len (λ i. is_active state.vl vm (register state 0) (0 + i)) 0
          (count state),
      last,
      cut.all,
    ) (omega arith)) in
    rw end refl
bits_in_parts state cut o vs2 other vm (suc others) part bytes l =
    let n = own_count state in
    let bits = zip_with (op.compare_vx o (width state)) (of_group state vs2) (operand_elements state other) in
    let below : part < group state = omega (arith, l) in
    let one : part + 1 ≡ suc part = omega arith in
    let more : part * n + n ≡ (part + 1) * n = rw one (sym (suc-mul part n)) in
    let here : take n (drop (part * n) bits) ≡ zip_with (op.compare_vx o (width state)) (register_part state vs2 part) (operand_part state other part) =
    part-zip (op.compare_vx o (width state)) n part (of_group state vs2) (operand_elements state other)
    ∙ rw (part-group state cut vs2 part below, part-operand state cut other part below) refl in
    bits-cut n (part * n) (drop (part * n) (active_in state vm)) (drop (part * n) bits) bytes
    ∙ rw (more, next_part n part (active_in state vm), next_part n part bits, part-active state cut vm part below, here)
    (bits_in_parts state cut o vs2 other vm others (part + 1) (with_part_bits state o vs2 other vm part bytes) (omega (arith, l)))

pub compared_bits : (state : Vectors) → has_vill state ≡ false → (o : CompareVxOp) (vs2 : ℕ) (other : OtherOperand) (vm : Bool) (bytes : List ℕ)
    → with_parts_bits state o vs2 other vm 0 (group state) bytes
    ≡ with_mask_bits_from 0 (active_in state vm) (zip_with (op.compare_vx o (width state)) (of_group state vs2) (operand_elements state other)) bytes
compared_bits state e o vs2 other vm bytes =
    let parts = bits_in_parts state (is_cut state e) o vs2 other vm (group state) 0 bytes (omega arith) in
    sym (rw (from_none (own_count state)) at parts)

-- ---- reductions

reduced_in_parts : (state : Vectors) → IsCut state → (o : ReductionOp) (vs2 : ℕ) (vm : Bool) (others part start : ℕ) → part + others ≡ group state
    → reduced (op.reduction o (width state)) (drop (part * own_count state) (active_in state vm)) start (drop (part * own_count state) (of_group state vs2))
    ≡ reduced_parts state o vs2 vm part others start
unfolding active
reduced_in_parts state cut o vs2 vm zero part start l =
    let last : part ≡ group state = omega (arith, l) in
    let end : drop (part * own_count state) (active_in state vm) ≡ [] =
    drop_all (part * own_count state) (active_in state vm) (rw (
      length-map-range_with_len (λ i. is_active state.vl vm (register state 0) (0 + i)) 0
          (count state),
      last,
      cut.all,
    ) (omega arith)) in
    rw end refl
reduced_in_parts state cut o vs2 vm (suc others) part start l =
    let n = own_count state in
    let below : part < group state = omega (arith, l) in
    reduced-cut (op.reduction o (width state)) n (drop (part * n) (active_in state vm)) start (drop (part * n) (of_group state vs2))
    ∙ rw (
      next_part n part (active_in state vm),
      next_part n part (of_group state vs2),
      part-active state cut vm part below,
      part-group state cut vs2 part
          below,
    )
    (reduced_in_parts state cut o vs2 vm others (part + 1) (reduced (op.reduction o (width state)) (active_part state vm part) start (register_part state vs2
    part)) (omega (arith, l)))

pub joined_all : (state : Vectors) → has_vill state ≡ false → (o : ReductionOp) (vs2 : ℕ) (vm : Bool) (start : ℕ)
    → reduced_parts state o vs2 vm 0 (group state) start ≡ reduced (op.reduction o (width state)) (active_in state vm) start (of_group state vs2)
joined_all state e o vs2 vm start =
    let parts = reduced_in_parts state (is_cut state e) o vs2 vm (group state) 0 start (omega arith) in
    sym (rw (from_none (own_count state)) at parts)
