-- The places of what an instruction stores, and of what a hart's next turn writes. This project's own.
use Rattle.std.specs.Prelude.{◌≡◌, ℕ, Bool, if◌then◌else◌, true, false, List, [], ◌∷◌, length, Option, Some, None}
use Rattle.memory.specs.Access.{touched, written_by}
use Rattle.rv_insn.specs.declared.instructions.Insn.{Insn}
use Rattle.rv_insn.specs.declared.instructions.Insn.TheVariants as i
use Rattle.rv_insn.specs.declared.vector_instructions.VectorInsn.TheVariants as v
use Rattle.rv_encoding.specs.Decoding.{decoded}
use Rattle.hart_core.specs.HartState.{HartState}
use Rattle.hart_core.specs.Scalar.{accesses, kind_of}
use Rattle.hart_core.specs.Turn.{next_of}
use Rattle.hart_core.specs.VectorRows.{accesses_at}
use Rattle.multi_hart.specs.Run.{writes, State, hart_at}
use Rattle.debugger_writes.specs.declared.stores.Stored.{Stored}
use Rattle.debugger_writes.specs.declared.stores.Stored.TheVariants.{Nothing, Number, Elements}

-- the places that an instruction writes in a hart's state, if it makes no trap
abbrev pub places_stored : Insn → HartState → List ℕ
places_stored insn hart = touched (written_by (kind_of insn) (accesses insn hart))

abbrev pub places_in : Stored → List ℕ
places_in Nothing = []
places_in (Number address width) = touched (accesses_at width (address ∷ []))
places_in (Elements addresses width) = touched (accesses_at width addresses)

abbrev pub is_vector : Insn → Bool
is_vector (i.Vector insn) = true
is_vector insn = false

-- ---- instructions that store

abbrev pub is_store : Insn → Bool
is_store (i.Store op rs1 rs2 imm) = true
is_store (i.AmoaddW rd rs1 rs2 aq rl) = true
is_store (i.Vector (v.StoreElements w vs3 rs1 addressing vm)) = true
is_store insn = false

abbrev pub if_store : Option Insn → Option Insn
if_store None = None
if_store (Some insn) = if is_store insn then Some insn else None

-- the instruction that a word means, if that stores
abbrev pub store_in : ℕ → Option Insn
store_in word = if_store (decoded word)

-- ---- turns

-- the places that the next turn of a hart writes that is there
abbrev pub written : State → ℕ → List ℕ
written state number = writes (next_of state.text (length state.memory) (hart_at state number)) (hart_at state number)
