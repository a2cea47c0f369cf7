-- The active elements, index by index, and what they give.
use Rattle.std.proofs.Common.{◌≡◌, ℕ, zero, suc, ◌+◌, ◌≤◌, Bool, true, List, map, take, refl, sym, ◌∙◌, ap, arith}
use Rattle.std.specs.Prelude.{replicate}
use Rattle.std.proofs.lemmas.Bool.Decides.{nat_tests}
use Rattle.std.proofs.lemmas.List.{map-id}
use Rattle.std.proofs.lemmas.List.FromFn.{take-map-range_with_len}
use Rattle.std.specs.List.{range_with_len}
use Rattle.lanes.specs.Words.{chosen_of, active, is_active}
use Rattle.lanes.specs.Words as word
use Rattle.rv_insn.specs.declared.vector_operations.ElementWidth.{ElementWidth}
use Rattle.vector_unit.specs.declared.accesses.Spacing.{Spacing}
use Rattle.vector_unit.specs.Vector.{Vectors, register, bits_of, count, element_from, active_in}
use Rattle.vector_unit.specs.Accesses.{offset, offsets_by, addresses_by, active_numbers}
use Rattle.vector_unit.proofs.Choices.{picked}
use Rattle.vector_unit.proofs.Parts.{from-start}

active_each : (state : Vectors) (vm : Bool) → active_in state vm ≡ map (is_active state.vl vm (register state 0)) (range_with_len 0 (count state))
unfolding active
active_each state vm = from-start (is_active state.vl vm (register state 0)) (count state)

pub numbers_each : (state : Vectors) (w : ElementWidth) (v : ℕ) (vm : Bool)
    → map (λ n. n) (picked (is_active state.vl vm (register state 0)) (element_from state (bits_of w) v) 0 (count state)) ≡ active_numbers state w v vm
numbers_each state w v vm =
    map-id (picked (is_active state.vl vm (register state 0)) (element_from state (bits_of w) v) 0 (count state))
    ∙ ap (λ flags. chosen_of flags (map (element_from state (bits_of w) v) (range_with_len 0 (count state)))) (sym (active_each state vm))

pub addresses_each : (state : Vectors) (spacing : Spacing) (vm : Bool) (base : ℕ)
    → map (word.add 32 base) (picked (is_active state.vl vm (register state 0)) (offset state spacing) 0 (count state)) ≡ addresses_by state spacing vm base
unfolding addresses_by
addresses_each state spacing vm base = ap (λ flags. map (word.add 32 base) (chosen_of flags (offsets_by state spacing))) (sym (active_each state vm))

-- those of as many elements as a group may have begin with those of the group
pub active_first : (state : Vectors) (vm : Bool) → count state ≤ 64 → take (count state) (active 0 64 state.vl vm (register state 0)) ≡ active_in state vm
unfolding active
active_first state vm l = take-map-range_with_len (λ i. is_active state.vl vm (register state 0) (0 + i)) 0 64 (count state) l

all_from : (vl : ℕ) (mask : List ℕ) (i n : ℕ) → i + n ≤ vl → map (λ k. is_active vl true mask (0 + k)) (range_with_len i n) ≡ replicate n true
all_from vl mask i zero l = refl
all_from vl mask i (suc n) l =
    let here : is_active vl true mask (0 + i) ≡ true = grind (arith, nat_tests, l) in
    rw (here, all_from vl mask (i + 1) n (omega (arith, l))) refl

-- where vl takes all elements, an unmasked instruction works on each
pub all_active : (state : Vectors) → count state ≤ state.vl → active_in state true ≡ replicate (count state) true
unfolding active
all_active state l = all_from state.vl (register state 0) 0 (count state) (omega (arith, l))
