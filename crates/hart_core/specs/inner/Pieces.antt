-- Accesses to all elements of a group that lie one after the other in data: the words of private functions, which a reader need
-- not believe.
use Rattle.std.specs.Prelude.{◌≡◌, ◌<◌, ◌≤◌, ℕ, zero, suc, ◌+◌, ◌*◌, ◌%◌, ◌^◌, Bool, true, false, IsTrue, List, [], ◌∷◌, map, replicate, take, length, None}
use Rattle.std.specs.List.{range_with_len}
use Rattle.rv_insn.specs.declared.vector_instructions.VectorInsn.{VectorInsn}
use Rattle.rv_insn.specs.declared.vector_instructions.VectorInsn.TheVariants as v
use Rattle.rv_insn.specs.declared.vector_operations.ElementWidth.{ElementWidth}
use Rattle.rv_insn.specs.declared.vector_operations.ElementWidth.TheVariants as widths
use Rattle.memory.specs.Access.{in_data, put, spread, touched, Access, Reads, Word, access_at, bytes_in, first_fault, number_at}
use Rattle.lanes.specs.Words as word
use Rattle.vector_unit.specs.Vector.{Vectors, count, group, has_vill, width, active_in}
use Rattle.vector_unit.specs.declared.accesses.Spacing.{Spacing}
use Rattle.vector_unit.specs.declared.accesses.Spacing.TheVariants.{UnitStride}
use Rattle.vector_unit.specs.Accesses.{addresses_by, filled_from, offset}
use Rattle.hart_core.specs.HartState.{HartState, register, vectors_of}
use Rattle.hart_core.specs.VectorRows.{accesses_at, size_of}
use Rattle.hart_core.specs.declared.vectors.VectorAccess.{VectorAccess}

-- what the active elements of a load or store touch
abbrev pub accesses_of : HartState → VectorAccess → List Access
accesses_of hart access = accesses_at access.group.width (addresses_by (vectors_of hart) access.spacing access.vm (register hart access.rs1))

-- this many addresses, of elements of a width one after the other
abbrev pub addresses_from : ElementWidth → ℕ → ℕ → List ℕ
addresses_from w address zero = []
addresses_from w address (suc others) = address ∷ addresses_from w (address + bytes_in (size_of w)) others

-- this many elements of a width from an address on are aligned and lie in a data of this many bytes
pub record LiesInData (bytes : ℕ) (w : ElementWidth) (address others : ℕ) : Type 0 where
  pub aligned : address % bytes_in (size_of w) ≡ 0
  pub inside : IsTrue (in_data bytes address (others * bytes_in (size_of w)))
  pub below : address + others * bytes_in (size_of w) < 2 ^ 32

-- an access to all elements, one after the other, that lies so
pub record IsPiece (bytes : ℕ) (state : Vectors) (w : ElementWidth) (spacing : Spacing) (vm : Bool) (base : ℕ) : Type 0 where
  pub spacing_is : spacing ≡ UnitStride w
  pub full : active_in state vm ≡ replicate (count state) true
  pub lies : LiesInData bytes w base (count state)

-- ---- whole groups of words

-- a whole group of words begins at a register, and as many words from an address on lie in a data of this many bytes
pub record IsRun (bytes : ℕ) (state : Vectors) (v base : ℕ) : Type 0 where
  pub configured : has_vill state ≡ false
  pub words : width state ≡ 32
  pub full : count state ≤ state.vl
  pub placed : v % group state ≡ 0
  pub lies : LiesInData bytes widths.Bits32 base (count state)

-- this many words from an element and an address on, loaded one after the other
abbrev pub words_filled : (Access → ℕ) → ℕ → Vectors → ℕ → ℕ → ℕ → Vectors
words_filled f v state i address n =
    filled_from i state 32 v (replicate n true) (map f (accesses_at widths.Bits32 (addresses_from widths.Bits32 address n)))

-- the same, stored
abbrev pub words_put : (ℕ → ℕ) → List ℕ → ℕ → ℕ → ℕ → List ℕ
words_put f memory i address n =
    put memory (touched (accesses_at widths.Bits32 (addresses_from widths.Bits32 address n)))
    (spread (accesses_at widths.Bits32 (addresses_from widths.Bits32 address n)) (map f (range_with_len i n)))

-- the instruction is a load or store
abbrev pub is_access : VectorInsn → Bool
is_access (v.LoadElements w vd rs1 addressing vm) = true
is_access (v.StoreElements w vs3 rs1 addressing vm) = true
is_access insn = false

-- the accesses to this many words from one on that lie so from a base on
abbrev pub spots : Vectors → Spacing → ℕ → ℕ → ℕ → List Access
spots state spacing base i n = map (λ k. access_at Word (word.add 32 base (offset state spacing k))) (range_with_len i n)

-- the first words are those of as many elements, none of which makes a trap
pub record AreRead (text memory : List ℕ) (state : Vectors) (spacing : Spacing) (base n : ℕ) (words : List ℕ) : Type 0 where
  pub read : take n words ≡ map (number_at text memory) (spots state spacing base 0 n)
  pub fits : first_fault (length text) (length memory) Reads (spots state spacing base 0 n) ≡ None
