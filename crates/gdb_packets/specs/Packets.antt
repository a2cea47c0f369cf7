-- Packets of gdb's remote serial protocol: frames, check sums, escapes, runs, and what a reader makes of bytes.
-- From gdb's manual, "Remote Protocol": "Overview", "Standard Replies" and "Packet Acknowledgment".
use Rattle.std.specs.Prelude.{◌≢◌, ℕ, ◌+◌, ◌-◌, ◌/◌, ◌%◌, ◌==◌, ◌&&◌, ◌||◌, not, nat_lt, if◌then◌else◌, bit_xor}
use Rattle.std.specs.Prelude.{Bool, true, false, List, [], ◌∷◌, ◌++◌, length, replicate, sum, Option, Some, None}
use Rattle.std.specs.List.{AllByRecursion, flat_map}
use Rattle.line_text.specs.Lines.{is_hexadecimal, hexadecimal_number}
use Rattle.gdb_packets.specs.declared.packet_reading.Stage.{Stage}
use Rattle.gdb_packets.specs.declared.packet_reading.Stage.TheVariants.{Outside, InData, BehindData, BehindDigit}
use Rattle.gdb_packets.specs.declared.packet_reading.PacketReader.{PacketReader}
use Rattle.gdb_packets.specs.declared.readings.Reading.{Reading as Seen}
use Rattle.gdb_packets.specs.declared.readings.Reading.TheVariants as seen

-- ---- frames: `$` (36), a body, `#` (35), and two digits of the body's check sum

-- the sum of the body's bytes, modulo 256
abbrev pub check_sum : List ℕ → ℕ
check_sum body = sum body % 256

-- a hexadecimal digit, in small letters
abbrev pub digit : ℕ → ℕ
digit value = if nat_lt value 10 then 48 + value else 87 + value

abbrev pub sum_digits : ℕ → List ℕ
sum_digits number = digit (number / 16) ∷ digit (number % 16) ∷ []

abbrev pub framed : List ℕ → List ℕ
framed body = 36 ∷ body ++ 35 ∷ sum_digits (check_sum body)

-- `#`, `$`, `*` (42) and `}` (125), which answers have to escape
abbrev pub is_special : ℕ → Bool
is_special byte = byte == 35 || byte == 36 || byte == 42 || byte == 125

-- `}`, and the byte XOR 32
abbrev pub escape_of : ℕ → List ℕ
escape_of byte = if is_special byte then 125 ∷ bit_xor byte 32 ∷ [] else byte ∷ []

abbrev pub escaped : List ℕ → List ℕ
escaped payload = flat_map escape_of payload

-- the frame of a payload
unfoldable pub frame : List ℕ → List ℕ
frame payload = framed (escaped payload)

-- ---- what a body means

abbrev pub in_front : ℕ → Option (List ℕ) → Option (List ℕ)
in_front byte None = None
in_front byte (Some payload) = Some (byte ∷ payload)

abbrev pub in_fronts : List ℕ → Option (List ℕ) → Option (List ℕ)
in_fronts front None = None
in_fronts front (Some payload) = Some (front ++ payload)

-- the payload that a body spells, after a `}` or not; none where the body ends after one
unfoldable pub unescaped_from : Bool → List ℕ → Option (List ℕ)
unescaped_from true [] = None
unescaped_from false [] = Some []
unescaped_from true (byte ∷ body) = in_front (bit_xor byte 32) (unescaped_from false body)
unescaped_from false (byte ∷ body) = if byte == 125 then unescaped_from true body else in_front byte (unescaped_from false body)

abbrev pub unescaped : List ℕ → Option (List ℕ)
unescaped body = unescaped_from false body

-- The body of an answer may have runs: after a byte, `*` and a count stand for this many more of it, 29 less than the
-- count. These are the bytes after one that was the last.
unfoldable pub expanded_behind : ℕ → List ℕ → List ℕ
expanded_behind last [] = []
expanded_behind last (byte ∷ []) = byte ∷ []
expanded_behind last (byte ∷ next ∷ body) =
    if byte == 42 then replicate (next - 29) last ++ expanded_behind last body else byte ∷ expanded_behind byte (next ∷ body)

-- What gdb takes from an answer's body: runs are expanded, and then escapes undone. Nothing is before the first byte.
abbrev pub answer_in : List ℕ → Option (List ℕ)
answer_in body = unescaped (expanded_behind 0 body)

-- ---- what a frame says that has come, where a body may have this many bytes

-- a packet, a bad one, one that is too long, an interrupt (byte 3), or that the last answer is wanted again (`-`)
pub data Reading : Type 0 where
  Packet : (payload : List ℕ) → Reading
  Bad : Reading
  TooLong : Reading
  Interrupt : Reading
  Again : Reading

abbrev pub is_sum : ℕ → ℕ → ℕ → Bool
is_sum number first second =
    is_hexadecimal first && (is_hexadecimal second && hexadecimal_number (first ∷ second ∷ []) == number)

abbrev pub spelled : Option (List ℕ) → Reading
spelled None = Bad
spelled (Some payload) = Packet payload

-- of a body with this sum and these two digits after it; of its bytes at least the first are known, one more than it may have
abbrev pub said : ℕ → List ℕ → ℕ → ℕ → ℕ → Reading
said limit body number first second =
    if not (is_sum number first second) then Bad
    else if nat_lt limit (length body) then TooLong
    else spelled (unescaped body)

-- ---- reading bytes one after the other

-- where a reader is: in which part of a frame, and with which body so far, of which it keeps at most one byte more than there may be, and with its sum
pub record Place : Type 0 where
  pub stage : Stage
  pub body : List ℕ
  pub number : ℕ

abbrev pub at : Stage → List ℕ → ℕ → Place
at stage body number = record { stage = stage; body = body; number = number }

-- no frame has begun
abbrev pub outside : Place
outside = at Outside [] 0

abbrev pub kept : ℕ → List ℕ → ℕ → List ℕ
kept limit body byte = if nat_lt limit (length body) then body else body ++ byte ∷ []

-- where a byte leads from a place
abbrev pub led : ℕ → ℕ → Stage → List ℕ → ℕ → Place
led limit byte Outside body number = at Outside body number
led limit byte InData body number =
    if byte == 35 then at BehindData body number else at InData (kept limit body byte) ((number + byte) % 256)
led limit byte BehindData body number = at (BehindDigit byte) body number
led limit byte (BehindDigit first) body number = outside

-- A `$` begins a frame wherever it comes, since it occurs nowhere else: gdb gave the earlier one up.
unfoldable pub after : ℕ → Place → ℕ → Place
after limit place byte = if byte == 36 then at InData [] 0 else led limit byte place.stage place.body place.number

-- byte 3 and `-`
abbrev pub told_outside : ℕ → Option Reading
told_outside byte = if byte == 3 then Some Interrupt else if byte == 45 then Some Again else None

abbrev pub told : ℕ → ℕ → Stage → List ℕ → ℕ → Option Reading
told limit byte Outside body number = told_outside byte
told limit byte InData body number = None
told limit byte BehindData body number = None
told limit byte (BehindDigit first) body number = Some (said limit body number first byte)

-- what is read where this byte comes
unfoldable pub reading : ℕ → Place → ℕ → Option Reading
reading limit place byte = if byte == 36 then None else told limit byte place.stage place.body place.number

abbrev pub before : Option Reading → List Reading → List Reading
before None others = others
before (Some one) others = one ∷ others

-- what bytes say, from a place on
unfoldable pub readings : ℕ → Place → List ℕ → List Reading
readings limit place [] = []
readings limit place (byte ∷ bytes) = before (reading limit place byte) (readings limit (after limit place byte) bytes)

-- where bytes lead from a place
unfoldable pub behind : ℕ → Place → List ℕ → Place
behind limit place [] = place
behind limit place (byte ∷ bytes) = behind limit (after limit place byte) bytes

-- ---- the reader

-- a reading without where it lies in memory
abbrev pub view : Seen → Reading
view (seen.Packet payload) = Packet payload.items
view seen.Bad = Bad
view seen.TooLong = TooLong
view seen.Interrupt = Interrupt
view seen.Again = Again

abbrev pub place_of : PacketReader → Place
place_of reader = at reader.stage reader.body.items reader.sum

-- ---- what laws say of whole frames

-- the body of a frame: bytes other than `#` and `$`
abbrev pub IsBody : List ℕ → Type 0
IsBody body = AllByRecursion (λ byte. (byte ≢ 35) × (byte ≢ 36)) body

-- what a body says with two digits after it
abbrev pub meaning : ℕ → List ℕ → ℕ → ℕ → Reading
meaning limit body first second =
    if not (is_sum (check_sum body) first second) then Bad
    else if nat_lt limit (length body) then TooLong
    else spelled (unescaped body)
