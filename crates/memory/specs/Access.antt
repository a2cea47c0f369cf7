-- How an instruction reaches memory: the numbers that it reads or writes, each by its address and size, and
-- which trap an access makes.
-- RISC-V Unprivileged ISA 20191213, section 2.6 "Load and Store Instructions" and 8.4 "Atomic Memory
-- Operations". That accesses must be aligned, which trap comes first, that text may be loaded and not written, and the numbers of the
-- traps are this project's own.
use Rattle.std.specs.Prelude.{ℕ, ◌+◌, ◌%◌, ◌==◌, if◌then◌else◌, List, [], ◌∷◌, ◌++◌, map, Option, Some, None, ◌≢◌, ◌<◌, ◌-◌, ◌*◌, ◌/◌, ◌^◌, ◌&&◌, ◌||◌, Bool}
use Rattle.std.specs.Prelude.{nat_lt, nat_le, slice_index, slice_get, slice_set}
use Rattle.std.specs.Int.{w8, w16, w32, from_le_bytes, to_le_bytes}
use Rattle.rv_insn.specs.declared.outcomes.Trap.{Trap}
use Rattle.rv_insn.specs.declared.outcomes.Trap.TheVariants.{LoadMisaligned, LoadOutside, StoreMisaligned, StoreOutside}

-- ---- Text and data by their addresses: where they lie, what is at an address, and what a write leaves.
-- The addresses, the limits, and that a number lies with its lowest byte first (RISC-V Unprivileged ISA
-- 20191213, section 2.6, leaves the choice) are this project's own.

-- 0x0001_0000
abbrev pub text_start : ℕ
text_start = 65536

-- 0x0020_0000
abbrev pub data_start : ℕ
data_start = 2097152

-- text holds 1 to this many words, data 0 to this many bytes
abbrev pub most_words : ℕ
most_words = 262144

abbrev pub most_bytes : ℕ
most_bytes = 33554432

-- the byte at an address, of text or of data
abbrev pub byte_at : List ℕ → List ℕ → ℕ → ℕ
byte_at text memory address =
    if nat_lt address data_start
    then slice_index text ((address - text_start) / 4) / 256 ^ ((address - text_start) % 4) % 256
    else slice_index memory (address - data_start)

-- the word of text that begins at an address, where one does
abbrev pub fetched : List ℕ → ℕ → Option ℕ
fetched text pc =
    if nat_lt pc text_start || nat_lt 0 (pc % 4) then None else slice_get text ((pc - text_start) / 4)

-- an address where a word begins, in a text of this many words
abbrev pub is_text_word : ℕ → ℕ → Bool
is_text_word words address =
    address % 4 == 0 && nat_le text_start address && nat_lt address (text_start + 4 * words)

-- this many bytes from an address on lie in a text of this many words
abbrev pub in_text : ℕ → ℕ → ℕ → Bool
in_text words address count = nat_le text_start address && nat_le (address + count) (text_start + 4 * words)

-- this many bytes from an address on lie in a data of this many bytes
abbrev pub in_data : ℕ → ℕ → ℕ → Bool
in_data bytes address count = nat_le data_start address && nat_le (address + count) (data_start + bytes)

-- loads may touch text and data
abbrev pub covers_load : ℕ → ℕ → ℕ → ℕ → Bool
covers_load words bytes address count = in_text words address count || in_data bytes address count

-- data after one byte is put at an address; text is never written
abbrev pub put_byte : List ℕ → ℕ → ℕ → List ℕ
put_byte memory address byte = if nat_lt address data_start then memory else slice_set memory (address - data_start) byte

-- data after bytes are put at addresses, one after the other
abbrev pub put : List ℕ → List ℕ → List ℕ → List ℕ
put memory [] bytes = memory
put memory (place ∷ places) [] = memory
put memory (place ∷ places) (byte ∷ bytes) = put (put_byte memory place byte) places bytes

-- every number of the list is one of a byte
abbrev pub AreBytes : List ℕ → Type 0
AreBytes bytes = (i : ℕ) → slice_index bytes i < 256

-- the place is none of the others
abbrev pub NotIn : ℕ → List ℕ → Type 0
NotIn place [] = Unit {0}
NotIn place (other ∷ others) = (place ≢ other) × NotIn place others

-- what a memory holds: words of text and bytes of data
pub record Contents : Type 0 where
  pub text : List ℕ
  pub memory : List ℕ

-- ---- access

pub data Size : Type 0 where
  Byte : Size
  Half : Size
  Word : Size

abbrev pub bytes_in : Size → ℕ
bytes_in Byte = 1
bytes_in Half = 2
bytes_in Word = 4

-- what an instruction does with the numbers that it touches
pub data Kind : Type 0 where
  NoAccess : Kind
  Reads : Kind
  Writes : Kind
  Updates : Kind

pub record Access : Type 0 where
  pub address : ℕ
  pub size : Size

-- the places of a number's bytes, its lowest byte first
abbrev pub places_of : Access → List ℕ
places_of access = elim access.size [
  | Byte ↦ access.address ∷ []
  | Half ↦ access.address ∷ (access.address + 1) ∷ []
  | Word ↦ access.address ∷ (access.address + 1) ∷ (access.address + 2) ∷ (access.address + 3) ∷ []
]

-- every byte that is touched, in order
abbrev pub touched : List Access → List ℕ
touched [] = []
touched (access ∷ accesses) = places_of access ++ touched accesses

-- a number of a size, and its bytes, the lowest first
abbrev pub number_of : Size → List ℕ → ℕ
number_of Byte bytes = from_le_bytes w8 bytes
number_of Half bytes = from_le_bytes w16 bytes
number_of Word bytes = from_le_bytes w32 bytes

abbrev pub bytes_of : Size → ℕ → List ℕ
bytes_of Byte n = to_le_bytes w8 n
bytes_of Half n = to_le_bytes w16 n
bytes_of Word n = to_le_bytes w32 n

-- the number that an access finds
abbrev pub number_at : List ℕ → List ℕ → Access → ℕ
number_at text memory access = number_of access.size (map (byte_at text memory) (places_of access))

-- the bytes of the numbers that are stored, one for each access
abbrev pub spread : List Access → List ℕ → List ℕ
spread [] numbers = []
spread (access ∷ accesses) [] = []
spread (access ∷ accesses) (n ∷ numbers) = bytes_of access.size n ++ spread accesses numbers

-- which accesses read, and which write
abbrev pub read_by : Kind → List Access → List Access
read_by NoAccess accesses = []
read_by Reads accesses = accesses
read_by Writes accesses = []
read_by Updates accesses = accesses

abbrev pub written_by : Kind → List Access → List Access
written_by NoAccess accesses = []
written_by Reads accesses = []
written_by Writes accesses = accesses
written_by Updates accesses = accesses

-- The trap that an access makes in a text of this many words and a data of this many bytes: misaligned before
-- outside, and loads may touch text and data, stores and atomic additions data alone.
abbrev pub fault_of : ℕ → ℕ → Kind → ℕ → ℕ → Option Trap
fault_of words bytes NoAccess address count = None
fault_of words bytes Reads address count =
    if address % count == 0 then (if covers_load words bytes address count then None else Some LoadOutside) else Some LoadMisaligned
fault_of words bytes Writes address count =
    if address % count == 0 then (if in_data bytes address count then None else Some StoreOutside) else Some StoreMisaligned
fault_of words bytes Updates address count =
    if address % count == 0 then (if in_data bytes address count then None else Some StoreOutside) else Some StoreMisaligned

abbrev pub or_else : Option Trap → Option Trap → Option Trap
or_else None other = other
or_else (Some trap) other = Some trap

-- the first access that faults decides
abbrev pub first_fault : ℕ → ℕ → Kind → List Access → Option Trap
first_fault words bytes kind [] = None
first_fault words bytes kind (access ∷ accesses) =
    or_else (fault_of words bytes kind access.address (bytes_in access.size)) (first_fault words bytes kind accesses)

abbrev pub access_at : Size → ℕ → Access
access_at size address = record { address = address; size = size }

-- the number of a size at an address
abbrev pub number_in : List ℕ → List ℕ → Size → ℕ → ℕ
number_in text memory size address = number_at text memory (access_at size address)

-- data after a number of a size is put at an address
abbrev pub put_number : List ℕ → Size → ℕ → ℕ → List ℕ
put_number memory size address n = put memory (places_of (access_at size address)) (bytes_of size n)

abbrev pub word_at : List ℕ → List ℕ → ℕ → ℕ
word_at text memory address = number_in text memory Word address
