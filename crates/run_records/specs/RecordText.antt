-- The record of a run as a text: eight lines, each a name, a space and a value. Of what is read the last one needs no line feed.
-- This project's own.
use Rattle.std.specs.Prelude.{◌≡◌, ◌≢◌, ℕ, ◌+◌, ◌≤◌, ◌==◌, ◌&&◌, ◌||◌, not, nat_eq, nat_lt, if◌then◌else◌}
use Rattle.std.specs.Prelude.{Bool, true, false, List, [], ◌∷◌, ◌++◌, length, drop, min, codes, Option, Some, None, Result, Ok, Err}
use Rattle.std.specs.Fmt.{decimal}
use Rattle.std.specs.List.{list_all, prefix_len, starts_with}
use Rattle.std.specs.Str.{bytes_eq}
use Rattle.hex.specs.Hex.{IsBytes, decode_sized, encode_lower}
use Rattle.line_text.specs.Lines.{◌>>=◌, decimal_number, first_line, is_digit, text_of}
use Rattle.rv_insn.specs.Trap.{trap_number}
use Rattle.rv_insn.specs.declared.outcomes.Trap.{Trap}
use Rattle.rv_insn.specs.declared.outcomes.Trap.TheVariants as traps
use Rattle.run_records.specs.declared.faults.RecordError.{RecordError}
use Rattle.run_records.specs.declared.faults.RecordFault.{RecordFault}
use Rattle.run_records.specs.declared.faults.RecordFault.TheVariants as faults
use Rattle.run_records.specs.declared.records.Ending.{Ending}
use Rattle.run_records.specs.declared.records.Ending.TheVariants.{Finished, Limit, Trapped}
use Rattle.run_records.specs.declared.records.RunRecord.{RunRecord}

-- what a record says: the program's version and logic, the digests of the image and of the log, how many harts there were and how many turns each
-- was to make at most, and how the run ended
pub record Contents : Type 0 where
  pub version : List ℕ
  pub logic : List ℕ
  pub image : List ℕ
  pub log : List ℕ
  pub harts : ℕ
  pub limit : ℕ
  pub ending : Ending

abbrev pub contents_of : RunRecord → Contents
contents_of r = record {
  version = r.version.now;
  logic = r.logic.now;
  image = r.image;
  log = r.log;
  harts = r.harts;
  limit = r.limit;
  ending = r.ending;
}

-- the most turns that a hart may be given
abbrev pub most_limit : ℕ
most_limit = 1099511627776

-- whether two runs ended in the same way
abbrev pub same_ending : Ending → Ending → Bool
same_ending Finished Finished = true
same_ending Limit Limit = true
same_ending (Trapped first) (Trapped second) = trap_number first == trap_number second
same_ending _ _ = false

-- ---- the text of a record

abbrev pub ending_text : Ending → List ℕ
ending_text Finished = codes "finished"
ending_text Limit = codes "limit"
ending_text (Trapped trap) = codes "trap " ++ (48 + trap_number trap) ∷ []

abbrev pub lines_of : Contents → List (List ℕ)
lines_of c =
    codes "record 1"
    ∷ (codes "version " ++ c.version)
    ∷ (codes "logic " ++ c.logic)
    ∷ (codes "image " ++ encode_lower c.image)
    ∷ (codes "log " ++ encode_lower c.log)
    ∷ (codes "harts " ++ decimal c.harts)
    ∷ (codes "limit " ++ decimal c.limit)
    ∷ (codes "ending " ++ ending_text c.ending) ∷ []

abbrev pub record_text : Contents → List ℕ
record_text c = text_of (lines_of c)

-- ---- what a value means

-- visible ASCII characters
abbrev pub are_visible : List ℕ → Bool
are_visible value = list_all (λ byte. nat_lt 32 byte && nat_lt byte 127) value

-- a word of them
unfoldable pub word_in : List ℕ → Option (List ℕ)
word_in value = if length value == 0 || not (are_visible value) then None else Some value

abbrev pub if_decoded : {E : Type 0} → Result (List ℕ) E → Option (List ℕ)
if_decoded (Ok digest) = Some digest
if_decoded (Err error) = None

-- 64 hexadecimal digits of either case
unfoldable pub digest_in : List ℕ → Option (List ℕ)
digest_in value = if_decoded (decode_sized value 32)

abbrev pub if_within : ℕ → ℕ → Option ℕ
if_within most number = if number == 0 || nat_lt most number then None else Some number

-- the number from 1 to the greatest one that decimal digits spell
unfoldable pub number_in : ℕ → List ℕ → Option ℕ
number_in most value =
    if nat_lt (prefix_len is_digit value) (length value) then None
    else if_within most (min (decimal_number value) (most + 1))

-- the trap of a digit
unfoldable pub trap_of : ℕ → Option Trap
trap_of digit =
    if digit == 49 then Some traps.IllegalInstruction
    else (if digit == 50 then Some traps.FetchOutside
    else (if digit == 51 then Some traps.MisalignedTarget
    else (if digit == 52 then Some traps.LoadMisaligned
    else (if digit == 53 then Some traps.LoadOutside
    else (if digit == 54 then Some traps.StoreMisaligned
    else (if digit == 55 then Some traps.StoreOutside
    else (if digit == 56 then Some traps.Breakpoint else None)))))))

abbrev pub trap_in : List ℕ → Option Trap
trap_in (digit ∷ []) = trap_of digit
trap_in _ = None

abbrev pub if_trap : Option Trap → Option Ending
if_trap (Some trap) = Some (Trapped trap)
if_trap None = None

-- `finished`, `limit` or `trap K`
unfoldable pub ending_in : List ℕ → Option Ending
ending_in value =
    if bytes_eq value (codes "finished") then Some Finished
    else (if bytes_eq value (codes "limit") then Some Limit
    else (if not (starts_with nat_eq value (codes "trap ")) then None
    else if_trap (trap_in (drop 5 value))))

-- ---- the record of a text

-- what a function answers, seen by view
abbrev pub seen_by : {A B E : Type 0} → (A → B) → Result A E → Result B E
seen_by view (Ok value) = Ok (view value)
seen_by view (Err error) = Err error

abbrev pub fault_at : ℕ → RecordFault → RecordError
fault_at line fault = record { line = line; fault = fault }

abbrev pub behind_name : List ℕ → List ℕ × List ℕ → Option (List ℕ × List ℕ)
behind_name name lines =
    if not (starts_with nat_eq lines.0 name) then None else Some (drop (length name) lines.0, lines.1)

-- what comes after a name in the first line, and the lines after it; a line that isn't there counts as an empty one
abbrev pub value_of : List ℕ → List ℕ → Option (List ℕ × List ℕ)
value_of name text = behind_name name (first_line text)

abbrev pub with_meaning : {A : Type 0} → RecordFault → ℕ → List ℕ → Option A → Result (A × List ℕ) RecordError
with_meaning fault line rest (Some meaning) = Ok (meaning, rest)
with_meaning fault line rest None = Err (fault_at line fault)

abbrev pub with_value : {A : Type 0} → RecordFault → (List ℕ → Option A) → ℕ → Option (List ℕ × List ℕ) → Result (A × List ℕ) RecordError
with_value fault means line (Some (value, rest)) = with_meaning fault line rest (means value)
with_value fault means line None = Err (fault_at line faults.Line)

-- What the value of the first line means, which has this number and has to begin with this name; and the lines after it.
abbrev pub item : {A : Type 0} → RecordFault → (List ℕ → Option A) → ℕ → List ℕ → List ℕ → Result (A × List ℕ) RecordError
item fault means line name text = with_value fault means line (value_of name text)

abbrev pub word_item : ℕ → List ℕ → List ℕ → Result (List ℕ × List ℕ) RecordError
word_item = item faults.Word word_in

abbrev pub digest_item : ℕ → List ℕ → List ℕ → Result (List ℕ × List ℕ) RecordError
digest_item = item faults.Digest digest_in

abbrev pub number_item : ℕ → ℕ → List ℕ → List ℕ → Result (ℕ × List ℕ) RecordError
number_item most = item faults.Number (number_in most)

abbrev pub ending_item : ℕ → List ℕ → List ℕ → Result (Ending × List ℕ) RecordError
ending_item = item faults.Ending ending_in

abbrev pub headed : List ℕ × List ℕ → Result (List ℕ) RecordError
headed lines = if not (bytes_eq lines.0 (codes "record 1")) then Err (fault_at 1 faults.Heading) else Ok lines.1

-- the lines after the heading
abbrev pub behind_heading : List ℕ → Result (List ℕ) RecordError
behind_heading text = headed (first_line text)

-- nothing comes after the last line
abbrev pub at_end : Contents → List ℕ → Result Contents RecordError
at_end c rest = if not (length rest == 0) then Err (fault_at 9 faults.Line) else Ok c

-- the record of a text, or its first faulty line, from 1, and the fault of that line
unfoldable pub record_in : List ℕ → Result Contents RecordError
record_in text =
    behind_heading text
    >>= λ behind. word_item 2 (codes "version ") behind
    >>= λ version. word_item 3 (codes "logic ") version.1
    >>= λ logic. digest_item 4 (codes "image ") logic.1
    >>= λ image. digest_item 5 (codes "log ") image.1
    >>= λ log. number_item 8 6 (codes "harts ") log.1
    >>= λ harts. number_item most_limit 7 (codes "limit ") harts.1
    >>= λ limit. ending_item 8 (codes "ending ") limit.1
    >>= λ ending. at_end (record {
      version = version.0;
      logic = logic.0;
      image = image.0;
      log = log.0;
      harts = harts.0;
      limit = limit.0;
      ending = ending.0;
    }) ending.1

-- What records say: words of visible characters, digests of 32 bytes, numbers within their limits.
pub record IsRecord (c : Contents) : Type 0 where
  pub version_some : c.version ≢ []
  pub version_visible : are_visible c.version ≡ true
  pub logic_some : c.logic ≢ []
  pub logic_visible : are_visible c.logic ≡ true
  pub image_length : length c.image ≡ 32
  pub image_bytes : IsBytes c.image
  pub log_length : length c.log ≡ 32
  pub log_bytes : IsBytes c.log
  pub some_hart : 1 ≤ c.harts
  pub few_harts : c.harts ≤ 8
  pub some_limit : 1 ≤ c.limit
  pub few_turns : c.limit ≤ most_limit

-- the number of a fault
abbrev pub fault_number : RecordFault → ℕ
fault_number faults.Heading = 1
fault_number faults.Line = 2
fault_number faults.Word = 3
fault_number faults.Digest = 4
fault_number faults.Number = 5
fault_number faults.Ending = 6
