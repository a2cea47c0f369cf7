-- Between which bytes elements lie that stand one after the other.
use Rattle.std.proofs.Common.{◌≡◌, ◌∙◌, ◌+◌, ◌*◌, ◌%◌, ◌^◌, ◌<◌, ◌≤◌, ◌||◌, ℕ, zero, suc, Bool, false, true, refl, sym, subst, arith, List, [], ◌∷◌}
use Rattle.std.specs.Prelude.{map}
use Rattle.std.specs.List.{range_with_len}
use Rattle.lanes.specs.Words as word
use Rattle.lanes.specs.Words.{chosen_of}
use Rattle.memory.specs.Access.{access_at, bytes_in, places_of, touched}
use Rattle.rv_insn.specs.declared.vector_operations.ElementWidth.{ElementWidth}
use Rattle.rv_insn.specs.declared.vector_operations.ElementWidth.TheVariants as widths
use Rattle.hart_core.specs.VectorRows.{accesses_at, size_of}
use Rattle.multi_hart.specs.Run.{Within, is_in}
use Rattle.vector_unit.specs.Accesses.{addresses_by, offset}
use Rattle.vector_unit.specs.Vector.{Vectors, active_in, count}
use Rattle.vector_unit.specs.declared.accesses.Spacing.TheVariants.{UnitStride}
use Rattle.turn_accesses.proofs.Spanning.{in_both, in_number}

either_of : (a b : Bool) (P : Type 0) → a || b ≡ true → (a ≡ true → P) → (b ≡ true → P) → P
either_of true b P is left right = left refl
either_of false b P is left right = right is

elements_lie : (w : ElementWidth) (base limit : ℕ) → base + limit ≤ 2 ^ 32 → (flags : List Bool) (offsets : List ℕ)
    → Within (λ o. o + bytes_in (size_of w) ≤ limit) offsets → (place : ℕ)
    → is_in place (touched (accesses_at w (map (word.add 32 base) (chosen_of flags offsets)))) ≡ true → (base ≤ place) × (place < base + limit)
elements_lie w base limit fits [] offsets below place is = absurd cc
elements_lie w base limit fits (true ∷ flags) [] below place is = absurd cc
elements_lie w base limit fits (false ∷ flags) [] below place is = absurd cc
elements_lie w base limit fits (false ∷ flags) (o ∷ offsets) below place is = elements_lie w base limit fits flags offsets below.1 place is
elements_lie w base limit fits (true ∷ flags) (o ∷ offsets) below place is =
    let own = places_of (access_at (size_of w) ((base + o) % 2 ^ 32)) in
    let rest = touched (accesses_at w (map (word.add 32 base) (chosen_of flags offsets))) in
    either_of (is_in place own) (is_in place rest) ((base ≤ place) × (place < base + limit)) (sym (in_both place own rest) ∙ is)
    (λ here. (let lies = in_number place ((base + o) % 2 ^ 32) w here in
    let from = lies.0 in
    let to = lies.1 in
    let first = below.0 in
    let some = some_bytes w in
    let same : (base + o) % 2 ^ 32 ≡ base + o = omega (arith, first, fits, some) in
    (omega (arith, from, same), omega (arith, to, same, first))))
    (λ later. elements_lie w base limit fits flags offsets below.1 place later)
  where
    some_bytes : (v : ElementWidth) → 1 ≤ bytes_in (size_of v)
    some_bytes widths.Bits8 = omega arith
    some_bytes widths.Bits16 = omega arith
    some_bytes widths.Bits32 = omega arith

offsets_below : (state : Vectors) (w : ElementWidth) (limit from n : ℕ) → (from + n) * bytes_in (size_of w) ≤ limit
    → Within (λ o. o + bytes_in (size_of w) ≤ limit) (map (offset state (UnitStride w)) (range_with_len from n))
offsets_below state w limit from zero most = tt
offsets_below state w limit from (suc n) most =
    (first w most, offsets_below state w limit (from + 1) n (subst (λ (k : ℕ). k * bytes_in (size_of w) ≤ limit) (omega arith) most))
  where
    first : (v : ElementWidth) → (from + suc n) * bytes_in (size_of v) ≤ limit → offset state (UnitStride v) from + bytes_in (size_of v) ≤ limit
    first widths.Bits8 few = omega (arith, few)
    first widths.Bits16 few = omega (arith, few)
    first widths.Bits32 few = omega (arith, few)

pub run_lies : (state : Vectors) (w : ElementWidth) (vm : Bool) (base : ℕ) → base + count state * bytes_in (size_of w) ≤ 2 ^ 32
    → (place : ℕ) → is_in place (touched (accesses_at w (addresses_by state (UnitStride w) vm base))) ≡ true
    → (base ≤ place) × (place < base + count state * bytes_in (size_of w))
unfolding addresses_by
run_lies state w vm base fits place is =
    let none : 0 + count state ≡ count state = omega arith in
    elements_lie w base (count state * bytes_in (size_of w)) fits (active_in state vm) (map (offset state (UnitStride w)) (range_with_len 0 (count state)))
    (offsets_below state w (count state * bytes_in (size_of w)) 0 (count state)
    (subst (λ (k : ℕ). k * bytes_in (size_of w) ≤ count state * bytes_in (size_of w)) (sym none) (omega arith))) place is
