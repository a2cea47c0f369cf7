-- What a record, an image and a log come to: whether image and log are those of the record, and the log's turns end as it says. This project's own.
use Rattle.std.specs.Prelude.{◌≡◌, ℕ, ◌==◌, ◌&&◌, Bool, true, false, if◌then◌else◌, List, [], ◌∷◌, ◌++◌, codes, Result, Ok, Err}
use Rattle.std.specs.Str.{bytes_eq}
use Rattle.turn_log.specs.TurnLog.{LogState}
use Rattle.turn_log.specs.LogSpelling.{log_of}
use Rattle.turn_log.specs.declared.log_faults.LogFault.{LogFault}
use Rattle.loader.specs.Image.{ImageContents}
use Rattle.loader.specs.Spelling.{image_of}
use Rattle.loader.specs.declared.faults.LoadFault.{LoadFault}
use Rattle.run_records.specs.RecordText.{Contents, record_in, same_ending}
use Rattle.run_records.specs.declared.faults.RecordError.{RecordError}
use Rattle.hrv_engines.specs.Dump.{newline}
use Rattle.hrv_engines.specs.Records.{contents_of}
use Rattle.hrv_engines.specs.declared.explain.TheConstants.{LOGIC, RELEASE}
use Rattle.hrv_engines.specs.declared.faults.Refusal.{Refusal}
use Rattle.hrv_engines.specs.declared.faults.Refusal.TheVariants.{Load, Log, Record}
use Rattle.hrv_engines.specs.declared.verify.Verdict.{Verdict}
use Rattle.hrv_engines.specs.declared.verify.Verdict.TheVariants.{Verified, Differs}

-- ---- what is compared

-- the digests of image and log, how many harts there are, and how the run ended
abbrev pub is_verified : (recorded found : Contents) → Bool
is_verified recorded found =
    bytes_eq recorded.image found.image && bytes_eq recorded.log found.log && recorded.harts == found.harts && same_ending recorded.ending found.ending

-- a line where something isn't the same
abbrev pub difference : Bool → (name : List ℕ) → List ℕ
difference true name = []
difference false name = codes "differs " ++ name ++ newline

abbrev pub differences : (recorded found : Contents) → List ℕ
differences recorded found =
    difference (bytes_eq recorded.image found.image) (codes "image")
    ++ difference (bytes_eq recorded.log found.log) (codes "log")
    ++ difference (recorded.harts == found.harts) (codes "harts")
    ++ difference (same_ending recorded.ending found.ending) (codes "ending")

-- this program's version and logic
abbrev pub is_own : (version logic : List ℕ) → Bool
is_own version logic = bytes_eq version RELEASE && bytes_eq logic LOGIC

abbrev pub made_by : (version logic : List ℕ) → List ℕ
made_by version logic = codes "made by version " ++ version ++ codes " logic " ++ logic ++ newline

-- a line where another version made the record, or one in another logic
abbrev pub maker : (version logic : List ℕ) → List ℕ
maker version logic =
    if is_own version logic then [] else made_by version logic

abbrev pub verdict_of : Bool → Verdict
verdict_of true = Verified
verdict_of false = Differs

-- the exit status of a verdict
abbrev pub status_of : Verdict → ℕ
status_of Verified = 0
status_of Differs = 3

-- that line, and `verified` or what differs
abbrev pub told : Bool → (recorded found : Contents) → List ℕ
told true recorded found = maker recorded.version recorded.logic ++ (codes "verified" ++ newline)
told false recorded found = maker recorded.version recorded.logic ++ differences recorded found

-- ---- what is answered to the text of a record and the bytes of an image and of a log

abbrev pub Files : Type 0
Files = (List ℕ × List ℕ) × List ℕ

abbrev pub verdict : (recorded found : Contents) → Verdict × List ℕ
verdict recorded found = (verdict_of (is_verified recorded found), told (is_verified recorded found) recorded found)

abbrev pub with_log : Contents → (image_bytes log_bytes : List ℕ) → ImageContents → Result LogState LogFault → Result (Verdict × List ℕ) Refusal
with_log recorded image_bytes log_bytes image (Ok log) = Ok (verdict recorded (contents_of recorded.limit image_bytes log_bytes image log))
with_log recorded image_bytes log_bytes image (Err fault) = Err (Log fault)

abbrev pub with_image : Contents → (image_bytes log_bytes : List ℕ) → Result ImageContents LoadFault → Result (Verdict × List ℕ) Refusal
with_image recorded image_bytes log_bytes (Ok image) = with_log recorded image_bytes log_bytes image (log_of log_bytes)
with_image recorded image_bytes log_bytes (Err fault) = Err (Load fault)

abbrev pub with_record : (image_bytes log_bytes : List ℕ) → Result Contents RecordError → Result (Verdict × List ℕ) Refusal
with_record image_bytes log_bytes (Ok recorded) = with_image recorded image_bytes log_bytes (image_of image_bytes)
with_record image_bytes log_bytes (Err error) = Err (Record error.line error.fault)

-- the record is judged first, then the image, then the log
unfoldable pub answer : Files → Result (Verdict × List ℕ) Refusal
answer files = with_record files.0.1 files.1 (record_in files.0.0)

-- the verdict, and its text
abbrev pub IsVerdict : Verdict → Files → List ℕ → Type 0
IsVerdict verdict files text = answer files ≡ Ok (verdict, text)

-- why they are refused
abbrev pub IsRefusedVerdict : Files → Refusal → Type 0
IsRefusedVerdict files refusal = answer files ≡ Err refusal
