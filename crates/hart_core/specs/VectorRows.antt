-- The rows of the vector instructions as a hart executes them: which numbers in memory each touches, and what it leaves of the hart.
-- What each makes of vector registers is the vector unit's (its definitions Vector and Accesses).
-- RISC-V Vector Extension 1.0, chapters 6 "Configuration-Setting Instructions" and 7 "Vector Loads and Stores", section 16.1 "Integer
-- Scalar Move Instructions". That a misaligned element is a trap (chapter 8 leaves it open), that a fault of one element leaves all as it
-- was, and that elements are touched in rising order, is this project's own.
use Rattle.std.specs.Prelude.{ℕ, List, [], Option, Some, None}
use Rattle.rv_insn.specs.declared.vector_instructions.VectorInsn.{VectorInsn}
use Rattle.rv_insn.specs.declared.vector_instructions.VectorInsn.TheVariants as v
use Rattle.rv_insn.specs.declared.vector_operations.ElementWidth.{ElementWidth}
use Rattle.memory.specs.Access.{Kind, NoAccess, Reads, Writes, Access}
pub use Rattle.memory_accesses.specs.Elements.{accesses_at, size_of}
use Rattle.vector_unit.specs.Vector.{asked_by, configured, vector_after, scalar_given}
use Rattle.vector_unit.specs.declared.configuration.RequestedLength.{RequestedLength}
use Rattle.vector_unit.specs.declared.configuration.RequestedLength.TheVariants.{AtMost}
use Rattle.vector_unit.specs.Accesses.{addresses, loaded_by, width_in}
use Rattle.hart_core.specs.HartState.{HartState, vectors_of, with_vectors, register, with_register, advanced, given}

abbrev pub vector_kind : VectorInsn → Kind
vector_kind (v.LoadElements w vd rs1 addressing vm) = Reads
vector_kind (v.StoreElements w vs3 rs1 addressing vm) = Writes
vector_kind insn = NoAccess

abbrev pub accesses_of : Option ElementWidth → List ℕ → List Access
accesses_of None at = []
accesses_of (Some w) at = accesses_at w at

-- those of the active elements alone
abbrev pub vector_accesses : VectorInsn → HartState → List Access
vector_accesses insn hart = accesses_of (width_in insn) (addresses insn (register hart) (vectors_of hart))

-- a number for an integer register, if there is one
abbrev pub with_scalar : HartState → Option (ℕ × ℕ) → HartState
with_scalar hart None = hart
with_scalar hart (Some scalar) = with_register hart scalar.0 scalar.1

-- a row that neither configures nor touches memory
abbrev pub computed_by : VectorInsn → HartState → HartState
computed_by insn hart =
    advanced (with_scalar (with_vectors hart (vector_after insn (register hart) (vectors_of hart))) (scalar_given insn (vectors_of hart)))

-- a configuration, with the number of elements that it leaves in rd
abbrev pub configured_by : HartState → ℕ → ℕ → RequestedLength → HartState
configured_by hart rd vtype asked =
    given (with_vectors hart (configured (vectors_of hart) vtype asked)) rd (configured (vectors_of hart) vtype asked).vl

-- a load, from the numbers that were read
abbrev pub loaded_with : VectorInsn → HartState → List ℕ → HartState
loaded_with insn hart read = advanced (with_vectors hart (loaded_by insn (vectors_of hart) read))

-- the hart afterwards, from the numbers that were read: one for each access that reads
abbrev pub vector_after_turn : VectorInsn → HartState → List ℕ → HartState
vector_after_turn (v.Vsetvli rd rs1 vtype) hart read = configured_by hart rd vtype (asked_by rd rs1 (register hart rs1))
vector_after_turn (v.Vsetivli rd length vtype) hart read = configured_by hart rd vtype (AtMost length)
vector_after_turn (v.Vsetvl rd rs1 rs2) hart read = configured_by hart rd (register hart rs2) (asked_by rd rs1 (register hart rs1))
vector_after_turn (v.LoadElements w vd rs1 addressing vm) hart read = loaded_with (v.LoadElements w vd rs1 addressing vm) hart read
vector_after_turn (v.StoreElements w vs3 rs1 addressing vm) hart read = advanced hart
vector_after_turn insn hart read = computed_by insn hart
