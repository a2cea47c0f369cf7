-- The bytes of an image, in either of two formats, and what is read from bytes.
-- The formats are this project's own. Numbers have 32 bits, the lowest byte first:
--   bytes 0 to 3    the letters HRV1 or HRV2
--   bytes 4 to 7    the entry
--   bytes 8 to 11   how many words text has
--   bytes 12 to 15  how many bytes data has
--   bytes 16 to 31  the output's address, width, height and stride; four zeros for no output
--   bytes 32 to 35  of HRV2 alone: how many data bytes are stored
--   then            the words, then the data bytes that are stored
-- HRV1 stores all data bytes, and HRV2 all but the zeros at their end.
use Rattle.std.specs.Prelude.{◌≡◌, ℕ, zero, suc, ◌+◌, ◌-◌, ◌*◌, ◌==◌, ◌&&◌, ◌||◌, Bool, true, false, nat_eq, nat_lt, if◌then◌else◌, List, [], ◌∷◌, ◌++◌, length}
use Rattle.std.specs.Prelude.{take, drop, replicate, slice_get, codes, Option, Some, None, Result, Ok, Err}
use Rattle.std.specs.List.{flat_map, starts_with}
use Rattle.std.specs.Int.{w32, to_le_bytes, from_le_bytes}
use Rattle.memory.specs.Access.{most_words, most_bytes}
use Rattle.loader.specs.declared.outputs.Output.{Output}
use Rattle.loader.specs.declared.formats.Format.{Format}
use Rattle.loader.specs.declared.formats.Format.TheVariants.{Hrv1, Hrv2}
use Rattle.loader.specs.declared.faults.LoadFault.{LoadFault}
use Rattle.loader.specs.declared.faults.LoadFault.TheVariants.{Magic, Truncated, TrailingBytes, OverLimit, StoredZero, OutOfMemory}
use Rattle.loader.specs.Image.{ImageContents, judged}

-- ---- the two formats

abbrev pub magic : Format → List ℕ
magic Hrv1 = codes "HRV1"
magic Hrv2 = codes "HRV2"

-- how many bytes stand before the words
abbrev pub header_length : Format → ℕ
header_length Hrv1 = 32
header_length Hrv2 = 36

-- a byte in front of bytes that don't end in zeros
abbrev pub in_front : ℕ → List ℕ → List ℕ
in_front byte [] = if byte == 0 then [] else byte ∷ []
in_front byte (next ∷ bytes) = byte ∷ next ∷ bytes

-- bytes without the zeros at their end
abbrev pub trimmed : List ℕ → List ℕ
trimmed [] = []
trimmed (byte ∷ bytes) = in_front byte (trimmed bytes)

-- the data bytes that are stored
abbrev pub stored : Format → List ℕ → List ℕ
stored Hrv1 bytes = bytes
stored Hrv2 bytes = trimmed bytes

-- ---- spelling

-- numbers, one after the other
abbrev pub spelled_numbers : List ℕ → List ℕ
spelled_numbers numbers = flat_map (to_le_bytes w32) numbers

abbrev pub output_fields : Option Output → List ℕ
output_fields None = 0 ∷ 0 ∷ 0 ∷ 0 ∷ []
output_fields (Some output) = output.address ∷ output.width ∷ output.height ∷ output.stride ∷ []

-- how many data bytes are stored, where the format says it
abbrev pub stored_field : Format → ℕ → List ℕ
stored_field Hrv1 count = []
stored_field Hrv2 count = to_le_bytes w32 count

-- 32 bytes
unfoldable pub spelled_start : Format → ImageContents → List ℕ
spelled_start format image =
    magic format ++ to_le_bytes w32 image.entry ++ to_le_bytes w32 (length image.words) ++ to_le_bytes w32 (length image.bytes)
    ++ spelled_numbers (output_fields image.output)

unfoldable pub spelled_header : Format → ImageContents → List ℕ
spelled_header format image = spelled_start format image ++ stored_field format (length (stored format image.bytes))

unfoldable pub spelled : Format → ImageContents → List ℕ
spelled format image = spelled_header format image ++ spelled_numbers image.words ++ stored format image.bytes

-- the bytes spell the image in one of the formats
pub record Spells (bytes : List ℕ) (image : ImageContents) : Type 0 where
  pub format : Format
  pub bytes_are : bytes ≡ spelled format image

-- ---- reading

-- the number at a place
unfoldable pub number_at : List ℕ → ℕ → ℕ
number_at bytes place = from_le_bytes w32 (take 4 (drop place bytes))

-- this many numbers, from the front
abbrev pub numbers_in : ℕ → List ℕ → List ℕ
numbers_in zero bytes = []
numbers_in (suc count) bytes = number_at bytes 0 ∷ numbers_in count (drop 4 bytes)

abbrev pub output_at : List ℕ → Option Output
output_at bytes =
    if number_at bytes 16 == 0 && number_at bytes 20 == 0 && number_at bytes 24 == 0 && number_at bytes 28 == 0
    then None
    else Some (record { address = number_at bytes 16; width = number_at bytes 20; height = number_at bytes 24; stride = number_at bytes 28 })

-- the format whose letters stand in front
unfoldable pub format_of : List ℕ → Option Format
format_of bytes =
    if starts_with nat_eq bytes (magic Hrv1) then Some Hrv1
    else if starts_with nat_eq bytes (magic Hrv2) then Some Hrv2
    else None

-- how many words and data bytes the header says
abbrev pub word_count : List ℕ → ℕ
word_count bytes = number_at bytes 8

abbrev pub byte_count : List ℕ → ℕ
byte_count bytes = number_at bytes 12

-- how many of the data bytes are stored
abbrev pub stored_count : Format → List ℕ → ℕ
stored_count Hrv1 bytes = byte_count bytes
stored_count Hrv2 bytes = number_at bytes 32

-- where they begin, and how long that makes the whole
abbrev pub stored_place : Format → List ℕ → ℕ
stored_place format bytes = header_length format + 4 * word_count bytes

abbrev pub whole_length : Format → List ℕ → ℕ
whole_length format bytes = stored_place format bytes + stored_count format bytes

-- the bytes of data that are stored
abbrev pub stored_in : Format → List ℕ → List ℕ
stored_in format bytes = take (stored_count format bytes) (drop (stored_place format bytes) bytes)

-- this many bytes: these, and zeros after them
abbrev pub padded : ℕ → List ℕ → List ℕ
padded count bytes = bytes ++ replicate (count - length bytes) 0

-- what is held by bytes that are long enough
abbrev pub contents_in : Format → List ℕ → ImageContents
contents_in format bytes = record {
  entry = number_at bytes 4;
  words = numbers_in (word_count bytes) (drop (header_length format) bytes);
  bytes = padded (byte_count bytes) (stored_in format bytes);
  output = output_at bytes;
}

abbrev pub is_zero : Option ℕ → Bool
is_zero None = false
is_zero (Some byte) = byte == 0

-- whether a zero is stored that the format leaves out
abbrev pub stores_zero : Format → List ℕ → Bool
stores_zero Hrv1 bytes = false
stores_zero Hrv2 bytes = is_zero (slice_get bytes (length bytes - 1))

-- what keeps the rules is refused for a zero that is stored
abbrev pub unless_zero : Bool → Result ImageContents LoadFault → Result ImageContents LoadFault
unless_zero has_zero (Err fault) = Err fault
unless_zero true (Ok image) = Err StoredZero
unless_zero false (Ok image) = Ok image

-- the rules for what is held
abbrev pub judged_in : Format → List ℕ → Result ImageContents LoadFault
judged_in format bytes = unless_zero (stores_zero format (stored_in format bytes)) (judged (contents_in format bytes))

-- the image that bytes spell in this format, or the first fault in the format's order
abbrev pub image_in : Format → List ℕ → Result ImageContents LoadFault
image_in format bytes =
    if nat_lt (length bytes) (header_length format) then Err Truncated
    else if nat_lt most_words (word_count bytes) || nat_lt most_bytes (byte_count bytes) || nat_lt (byte_count bytes) (stored_count format bytes)
    then Err OverLimit
    else if nat_lt (length bytes) (whole_length format bytes) then Err Truncated
    else if nat_lt (whole_length format bytes) (length bytes) then Err TrailingBytes
    else judged_in format bytes

abbrev pub image_by : Option Format → List ℕ → Result ImageContents LoadFault
image_by None bytes = Err Magic
image_by (Some format) bytes = image_in format bytes

-- the image that bytes spell in either format, or the first fault
unfoldable pub image_of : List ℕ → Result ImageContents LoadFault
image_of bytes = if nat_lt (length bytes) 4 then Err Truncated else image_by (format_of bytes) bytes

-- ---- what a call answers

-- a refusal is the wanted one, unless memory ran out
abbrev pub Refuses : {A : Type 0} → LoadFault → Result A LoadFault → Type 0
Refuses OutOfMemory wanted = Unit {0}
Refuses fault wanted = wanted ≡ Err fault

-- the answer is the wanted one, unless memory ran out
abbrev pub Answers : {A : Type 0} → Result A LoadFault → Result A LoadFault → Type 0
Answers (Ok x) wanted = wanted ≡ Ok x
Answers (Err fault) wanted = Refuses fault wanted
