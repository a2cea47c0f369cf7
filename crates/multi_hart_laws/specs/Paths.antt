-- Code that is in the text, and what it does with all that a hart holds: from one address, numbers and memory to others, in so
-- many turns of the hart alone. This project's own.
use Rattle.std.specs.Prelude.{◌≡◌, ◌<◌, ◌≤◌, ℕ, ◌+◌, ◌*◌, ◌/◌, ◌%◌, ◌^◌, ◌==◌, ◌-◌, ◌&&◌, nat_le, nat_lt, if◌then◌else◌, List, [], ◌∷◌, length, true}
use Rattle.rv_insn.specs.declared.instructions.Insn.{Insn}
use Rattle.memory.specs.Access.{data_start, AreBytes, put, Size, bytes_in, touched, spread}
use Rattle.lanes.specs.Words.{element, mask_bit}
use Rattle.hart_core.specs.declared.harts.Status.TheVariants.{Running}
use Rattle.hart_core.specs.HartState.{HartState, register, vector}
use Rattle.hart_core.specs.Scalar.{one_if, one_access}
use Rattle.multi_hart.specs.Run.{Within}
use Rattle.vector_unit.specs.Vector.{width_of, group_of, most_elements, is_supported}
use Rattle.multi_hart_laws.specs.Uses.{MayRead, MayWrite}
use Rattle.multi_hart_laws.specs.Alone.{World, Says, Keeps, Soon, Covers}

-- ---- words that stand in the text

-- where a word may begin
pub record Spot (at : ℕ) : Type 0 where
  pub low : at < 2 ^ 32
  pub aligned : at % 4 ≡ 0

-- these instructions stand in the text from an address on
abbrev pub Stand : List ℕ → ℕ → List Insn → Type 0
Stand text at [] = Spot at
Stand text at (insn ∷ insns) = Says text at insn × Stand text (at + 4) insns

-- the address after them
abbrev pub end : ℕ → List Insn → ℕ
end at [] = at
end at (insn ∷ insns) = end (at + 4) insns

-- ---- all that a hart holds, numbered through: x0 to x31, vl, vtype, four lanes of 32 bits in each vector register from v1 on, and the 128
-- bits of v0, of which the first ones are a mask's. Lane i of a group of registers that begins at v, up to 16 in four registers, is `lane v i` too.

abbrev pub vl_number : ℕ
vl_number = 32

abbrev pub vtype_number : ℕ
vtype_number = 33

abbrev pub lane : ℕ → ℕ → ℕ
lane v i = 34 + (4 * v + i)

abbrev pub bit : ℕ → ℕ
bit i = 162 + i

-- one number changed
unfoldable pub update : (ℕ → ℕ) → ℕ → ℕ → ℕ → ℕ
update f r v q = if q == r then v else f q

-- another length and another vtype
abbrev pub configure : (ℕ → ℕ) → ℕ → ℕ → ℕ → ℕ
configure f length vtype = update (update f vl_number length) vtype_number vtype

-- other lanes from a register on, as many as are given
unfoldable pub write_lanes : (ℕ → ℕ) → ℕ → ℕ → (ℕ → ℕ) → ℕ → ℕ
write_lanes f d n new q = if nat_le (lane d 0) q && nat_lt q (lane d n) then new (q - lane d 0) else f q

-- other mask bits, as many as are given: they stand where lanes of a register after v31 would
abbrev pub write_bits : (ℕ → ℕ) → ℕ → (ℕ → ℕ) → ℕ → ℕ
write_bits f n new = write_lanes f 32 n new

-- the word that four bytes spell, the lowest first
abbrev pub of_bytes : (ℕ → ℕ) → ℕ
of_bytes byte = byte 0 + 256 * (byte 1 + 256 * (byte 2 + 256 * byte 3))

-- a byte of a word
abbrev pub byte_of : ℕ → ℕ → ℕ
byte_of word k = word / 256 ^ k % 256

-- other bytes of a register, as many as are given; the bytes after them stay
abbrev pub write_bytes : (ℕ → ℕ) → ℕ → ℕ → (ℕ → ℕ) → ℕ → ℕ
write_bytes f d n new =
    write_lanes f d 4 (λ j. of_bytes (λ k. if nat_lt (4 * j + k) n then new (4 * j + k) else byte_of (f (lane d j)) k))

-- the configuration is a supported one of lanes of 32 bits, in groups of this many registers
pub record LanesConfigured (f : ℕ → ℕ) (registers : ℕ) : Type 0 where
  pub supported : is_supported (f vtype_number) ≡ true
  pub width : width_of (f vtype_number) ≡ 32
  pub group : group_of (f vtype_number) ≡ registers
  pub most : most_elements (f vtype_number) ≡ 4 * registers
  pub fits : f vl_number ≤ 4 * registers

-- a group of this many registers may begin at this one; what begins at v0 holds the mask
pub record IsGroup (registers v : ℕ) : Type 0 where
  pub above_mask : 1 ≤ v
  pub fits : v + registers ≤ 32
  pub placed : v % registers ≡ 0

-- the hart runs, and is at an address with these numbers
pub record At (at : ℕ) (f : ℕ → ℕ) (hart : HartState) : Type 0 where
  pub running : hart.status ≡ Running
  pub pc : hart.pc ≡ at
  pub full : length hart.registers ≡ 32
  pub same : (r : ℕ) → r < 32 → register hart r ≡ f r
  pub wide : length hart.vectors ≡ 32
  pub whole : (v : ℕ) → v < 32 → length (vector hart v) ≡ 16
  pub bytes : (v : ℕ) → v < 32 → AreBytes (vector hart v)
  pub vl : hart.vl ≡ f vl_number
  pub vtype : hart.vtype ≡ f vtype_number
  pub lanes : (v i : ℕ) → 1 ≤ v → v < 32 → i < 4 → element 32 (vector hart v) i ≡ f (lane v i)
  pub bits : (i : ℕ) → i < 128 → one_if (mask_bit (vector hart 0) i) ≡ f (bit i)

-- ---- paths

-- the hart has come to an address, with these numbers and this memory
abbrev pub Comes : ℕ → (ℕ → ℕ) → List ℕ → HartState → List ℕ → Type 0
Comes to g memory' after left = At to g after × (left ≡ memory')

-- from one address, numbers and memory to others in this many turns
abbrev pub Path : World → ℕ → ℕ → ℕ → (ℕ → ℕ) → List ℕ → (ℕ → ℕ) → List ℕ → Type 0
Path world from to turns f memory g memory' =
    (hart : HartState) → At from f hart → Soon world (Comes to g memory') turns hart memory

-- these instructions, wherever they stand
abbrev pub Block : World → List Insn → ℕ → (ℕ → ℕ) → List ℕ → (ℕ → ℕ) → List ℕ → Type 0
Block world insns turns f memory g memory' = (at : ℕ) → Stand world.text at insns → Path world at (end at insns) turns f memory g memory'

-- straight code: as many turns as instructions
abbrev pub Line : World → List Insn → (ℕ → ℕ) → List ℕ → (ℕ → ℕ) → List ℕ → Type 0
Line world insns f memory g memory' = Block world insns (length insns) f memory g memory'

-- in this many turns from there, the byte is written
abbrev pub Writes : World → ℕ → ℕ → (ℕ → ℕ) → List ℕ → ℕ → Type 0
Writes world from turns f memory address = (hart : HartState) → At from f hart → Covers world.text world.size turns hart memory address

-- ---- numbers of data, by their size

-- a number of data that the job may read
pub record Readable (world : World) (size : Size) (address : ℕ) : Type 0 where
  pub aligned : address % bytes_in size ≡ 0
  pub above : data_start ≤ address
  pub below : address + bytes_in size ≤ data_start + world.size
  pub may : Within (λ a. MayRead world.job world.hart (world.uses a)) (touched (one_access size address))

-- and one that it may write: by which turns, the rule says
pub record MayBeWritten (world : World) (size : Size) (address : ℕ) : Type 0 where
  pub aligned : address % bytes_in size ≡ 0
  pub above : data_start ≤ address
  pub below : address + bytes_in size ≤ data_start + world.size
  pub may : Within (λ a. MayWrite world.job world.hart (world.uses a)) (touched (one_access size address))

-- by one that writes no more
pub record Writable (world : World) (size : Size) (address : ℕ) : Type 0 where
  pub there : MayBeWritten world size address
  pub keeps : Keeps world (touched (one_access size address))

-- memory after a number is stored
abbrev pub stored_at : List ℕ → Size → ℕ → ℕ → List ℕ
stored_at memory size address n = put memory (touched (one_access size address)) (spread (one_access size address) (n ∷ []))
