-- All elements of a group that lie one after the other in data: their addresses, that none faults, and what is moved.
use Rattle.std.proofs.Common.{◌≡◌, ℕ, zero, suc, ◌+◌, ◌*◌, ◌/◌, ◌^◌, ◌<◌, List, ◌∷◌, map, None, Bool, true, false, refl, ◌∙◌, ap, arith}
use Rattle.std.specs.Prelude.{◌||◌, replicate, IsTrue}
use Rattle.std.specs.List.{range_with_len}
use Rattle.std.proofs.Math.Nat.{mod-eq_of_lt}
use Rattle.std.proofs.lemmas.Bool.Decides.{nat_tests}
use Rattle.lanes.specs.Words as word
use Rattle.lanes.specs.Words.{chosen_of}
use Rattle.rv_insn.specs.declared.vector_operations.ElementWidth.{ElementWidth}
use Rattle.rv_insn.specs.declared.vector_operations.ElementWidth.TheVariants as widths
use Rattle.memory.specs.Access.{in_data, in_text, covers_load, Reads, Writes, bytes_in, fault_of, first_fault, or_else}
use Rattle.vector_unit.specs.Vector.{Vectors, bits_of, count, active_in, element_from}
use Rattle.vector_unit.specs.Accesses.{offsets_by, addresses_by, active_numbers, filled_from, loaded}
use Rattle.vector_unit.specs.declared.accesses.Spacing.{Spacing}
use Rattle.vector_unit.specs.declared.accesses.Spacing.TheVariants.{UnitStride}
use Rattle.hart_core.specs.VectorRows.{accesses_at, size_of}
use Rattle.hart_core.specs.inner.Pieces.{addresses_from, IsPiece, LiesInData}

or-true : (b : Bool) → (b || true) ≡ true
or-true true = refl
or-true false = refl

-- ---- one element and those after it

module _ (bytes : ℕ) where
  pub first-lies : (w : ElementWidth) (address others : ℕ) → LiesInData bytes w address (suc others) → IsTrue (in_data bytes address (bytes_in (size_of w)))
  first-lies widths.Bits8 address others l = grind (arith, nat_tests, l.inside)
  first-lies widths.Bits16 address others l = grind (arith, nat_tests, l.inside)
  first-lies widths.Bits32 address others l = grind (arith, nat_tests, l.inside)

  pub others-lie : (w : ElementWidth) (address others : ℕ) → LiesInData bytes w address (suc others)
      → LiesInData bytes w (address + bytes_in (size_of w)) others
  others-lie widths.Bits8 address others l = record {
    aligned = omega arith;
    inside = grind (arith, nat_tests, l.inside);
    below = let q = l.below in
        omega (arith, q);
  }
  others-lie widths.Bits16 address others l = record {
    aligned = let q = l.aligned in omega (arith, q);
    inside = grind (arith, nat_tests, l.inside);
    below =
        let q = l.below in omega (arith, q);
  }
  others-lie widths.Bits32 address others l = record {
    aligned = let q = l.aligned in omega (arith, q);
    inside = grind (arith, nat_tests, l.inside);
    below =
        let q = l.below in omega (arith, q);
  }

  write-free : (words : ℕ) (w : ElementWidth) (address others : ℕ) → LiesInData bytes w address (suc others)
      → fault_of words bytes Writes address (bytes_in (size_of w)) ≡ None
  write-free words w address others l = let a = l.aligned in let i = first-lies w address others l in search (a, i)

  read-free : (words : ℕ) (w : ElementWidth) (address others : ℕ) → LiesInData bytes w address (suc others)
      → fault_of words bytes Reads address (bytes_in (size_of w)) ≡ None
  read-free words w address others l =
      let size = bytes_in (size_of w) in
      let a = l.aligned in
      let c : covers_load words bytes address size ≡ true = ap (λ t. in_text words address size || t) (first-lies w address others l)
      ∙ or-true (in_text words address size) in
      search (a, c)

  pub writes-free : (words : ℕ) (w : ElementWidth) (address others : ℕ) → LiesInData bytes w address others
      → first_fault words bytes Writes (accesses_at w (addresses_from w address others)) ≡ None
  writes-free words w address zero l = refl
  writes-free words w address (suc others) l =
      ap (λ t. or_else t (first_fault words bytes Writes (accesses_at w (addresses_from w (address + bytes_in (size_of w)) others))))
      (write-free words w address others l)
      ∙ writes-free words w (address + bytes_in (size_of w)) others (others-lie w address others l)

  pub reads-free : (words : ℕ) (w : ElementWidth) (address others : ℕ) → LiesInData bytes w address others
      → first_fault words bytes Reads (accesses_at w (addresses_from w address others)) ≡ None
  reads-free words w address zero l = refl
  reads-free words w address (suc others) l =
      ap (λ t. or_else t (first_fault words bytes Reads (accesses_at w (addresses_from w (address + bytes_in (size_of w)) others)))) (read-free words w address
      others l)
      ∙ reads-free words w (address + bytes_in (size_of w)) others (others-lie w address others l)

-- ---- all elements

pub chosen-all : (n : ℕ) (f : ℕ → ℕ) (i : ℕ) → chosen_of (replicate n true) (map f (range_with_len i n)) ≡ map f (range_with_len i n)
chosen-all zero f i = refl
chosen-all (suc n) f i = ap (λ xs. f i ∷ xs) (chosen-all n f (i + 1))

same-bytes : (w : ElementWidth) → bits_of w / 8 ≡ bytes_in (size_of w)
same-bytes widths.Bits8 = refl
same-bytes widths.Bits16 = refl
same-bytes widths.Bits32 = refl

lie-behind : (w : ElementWidth) (base i n : ℕ) → base + (i + n) * bytes_in (size_of w) < 2 ^ 32
    → map (word.add 32 base) (map (λ k. k * bytes_in (size_of w)) (range_with_len i n)) ≡ addresses_from w (base + i * bytes_in (size_of w)) n
lie-behind w base i zero l = refl
lie-behind w base i (suc n) l =
    let size = bytes_in (size_of w) in
    let here : base + i * size < 2 ^ 32 = omega (arith, l) in
    let next : base + (i + 1) * size ≡ base + i * size + size = omega arith in
    let more : base + (i + 1 + n) * size < 2 ^ 32 = omega (arith, l) in
    ap (λ x. x ∷ map (word.add 32 base) (map (λ k. k * size) (range_with_len (i + 1) n))) (mod-eq_of_lt here)
    ∙ ap (λ xs. (base + i * size) ∷ xs) (lie-behind w base (i + 1) n more ∙ ap (λ a. addresses_from w a n) next)

module _ (bytes : ℕ) (state : Vectors) (w : ElementWidth) (spacing : Spacing) (vm : Bool) (base : ℕ) (p : IsPiece bytes state w spacing vm base) where
  pub addresses-are : addresses_by state spacing vm base ≡ addresses_from w base (count state)
  unfolding addresses_by
  addresses-are =
      let n = count state in
      let l = p.lies.below in
      ap (λ s. map (word.add 32 base) (chosen_of (active_in state vm) (offsets_by state s))) p.spacing_is
      ∙ ap (λ flags. map (word.add 32 base) (chosen_of flags (offsets_by state (UnitStride w)))) p.full
      ∙ ap (map (word.add 32 base)) (chosen-all n (λ k. k * (bits_of w / 8)) 0)
      ∙ ap (λ size. map (word.add 32 base) (map (λ k. k * size) (range_with_len 0 n))) (same-bytes w)
      ∙ lie-behind w base 0 n (omega (arith, l))
      ∙ ap (λ a. addresses_from w a n) (let z : base + 0 * bytes_in (size_of w) ≡ base = omega arith in z)

  pub numbers-are : (v : ℕ) → active_numbers state w v vm ≡ map (element_from state (bits_of w) v) (range_with_len 0 (count state))
  numbers-are v =
      ap (λ flags. chosen_of flags (map (element_from state (bits_of w) v) (range_with_len 0 (count state)))) p.full
      ∙ chosen-all (count state) (element_from state (bits_of w) v) 0

  pub loaded-is : (v : ℕ) (numbers : List ℕ) → loaded state w v vm numbers ≡ filled_from 0 state (bits_of w) v (replicate (count state) true) numbers
  loaded-is v numbers = ap (λ flags. filled_from 0 state (bits_of w) v flags numbers) p.full
