-- What the next turn of a hart touches, as a value: numbers of one width at addresses, which it loads, stores, or both. This project's own.
use Rattle.std.specs.Prelude.{◌≡◌, ℕ, ◌≤◌, ◌<◌, ◌&&◌, ◌||◌, nat_lt, Bool, if◌then◌else◌, true, false, List, [], ◌∷◌, Option, Some, None}
use Rattle.memory.specs.Access.{Kind, Reads, Writes, Updates, read_by, touched, written_by}
use Rattle.rv_insn.specs.declared.instructions.Insn.{Insn}
use Rattle.rv_insn.specs.declared.instructions.Insn.TheVariants as i
use Rattle.rv_insn.specs.declared.vector_instructions.VectorInsn.TheVariants as v
use Rattle.rv_encoding.specs.Decoding.{decoded}
use Rattle.hart_core.specs.VectorRows.{accesses_at}
use Rattle.multi_hart.specs.Run.{is_in}
use Rattle.turn_accesses.specs.declared.values.AccessKind.{AccessKind}
use Rattle.turn_accesses.specs.declared.values.AccessKind.TheVariants.{Loads, Stores, Adds}
use Rattle.turn_accesses.specs.declared.values.Accesses.{Accesses}
use Rattle.turn_accesses.specs.declared.values.Accesses.TheVariants.{Nothing, Number, Elements}
use Rattle.turn_accesses.specs.declared.spans.Span.{Span}

-- ---- the value

abbrev pub kind_in : AccessKind → Kind
kind_in Loads = Reads
kind_in Stores = Writes
kind_in Adds = Updates

-- the bytes that are read, and those that are written
abbrev pub reads_in : Accesses → List ℕ
reads_in Nothing = []
reads_in (Number kind address width) = touched (read_by (kind_in kind) (accesses_at width (address ∷ [])))
reads_in (Elements kind addresses width) = touched (read_by (kind_in kind) (accesses_at width addresses))

abbrev pub writes_in : Accesses → List ℕ
writes_in Nothing = []
writes_in (Number kind address width) = touched (written_by (kind_in kind) (accesses_at width (address ∷ [])))
writes_in (Elements kind addresses width) = touched (written_by (kind_in kind) (accesses_at width addresses))

-- ---- instructions that touch memory

abbrev pub is_access : Insn → Bool
is_access (i.Load op rd rs1 imm) = true
is_access (i.Store op rs1 rs2 imm) = true
is_access (i.AmoaddW rd rs1 rs2 aq rl) = true
is_access (i.Vector (v.LoadElements w vd rs1 addressing vm)) = true
is_access (i.Vector (v.StoreElements w vs3 rs1 addressing vm)) = true
is_access insn = false

abbrev pub if_access : Option Insn → Option Insn
if_access None = None
if_access (Some insn) = if is_access insn then Some insn else None

-- the instruction that a word means, if that touches memory
abbrev pub access_in : ℕ → Option Insn
access_in word = if_access (decoded word)

-- ---- from which byte to which they lie

-- All bytes that are touched lie in the span, and none is written where it doesn't store.
pub record Covers (span : Span) (reads writes : List ℕ) : Type 0 where
  pub read : (place : ℕ) → is_in place reads ≡ true → (span.first ≤ place) × (place < span.end)
  pub written : (place : ℕ) → is_in place writes ≡ true → (span.first ≤ place) × (place < span.end)
  pub silent : span.stores ≡ false → writes ≡ []

-- a byte may lie in both, which one of them stores
abbrev pub meet : Span → Span → Bool
meet one other = nat_lt one.first other.end && nat_lt other.first one.end && (one.stores || other.stores)
