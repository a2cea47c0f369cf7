-- What an image and a log mean when it is asked what each turn did: the lines of the turns that are wanted, or the first refusal; and lines
-- that are written while the turns are made. This project's own.
use Rattle.std.specs.Prelude.{◌≡◌, ◌⊎◌, ℕ, List, length, option_map, take, Option, Some, None, Result, Ok, Err}
use Rattle.std.specs.String.{string_bytes}
use Rattle.turn_log.specs.TurnLog.{LogState}
use Rattle.turn_log.specs.LogSpelling.{log_of}
use Rattle.turn_log.specs.declared.log_faults.LogFault.{LogFault}
use Rattle.loader.specs.Image.{ImageContents}
use Rattle.loader.specs.Spelling.{image_of}
use Rattle.loader.specs.Loading.{machine_of}
use Rattle.loader.specs.declared.faults.LoadFault.{LoadFault}
use Rattle.turn_traces.specs.TraceText.{trace_text}
use Rattle.turn_traces.specs.declared.wanted.TurnsWanted.{TurnsWanted}
use Rattle.hrv_engines.specs.Commands.{number_of}
use Rattle.hrv_engines.specs.Races.{left_out}
use Rattle.hrv_engines.specs.declared.questions.BlameFault.{BlameFault}
use Rattle.hrv_engines.specs.declared.trace.TraceQuestion.{TraceQuestion}
use Rattle.hrv_engines.specs.declared.faults.Refusal.{Refusal}
use Rattle.hrv_engines.specs.declared.faults.Refusal.TheVariants.{Blame, Load, Log}
use Rattle.hrv_engines.specs.declared.faults.Fault.{Fault}
use Rattle.hrv_engines.specs.declared.faults.Fault.TheVariants.{Refused, File, Memory, Thread}
use Rattle.hrv_engines.specs.Devices.{Sources, Taken}
use Rattle.hrv_engines.specs.Engine.{Answered, Begun, RefusedSo}

-- ---- which turns are asked for

-- from one number to another one, of one hart or of all, and where a word of data is given, those alone that touch it
pub record TurnsAsked : Type 0 where
  pub from : ℕ
  pub to : ℕ
  pub hart : Option ℕ
  pub address : Option (List ℕ)

abbrev pub asked_by : TraceQuestion → TurnsAsked
asked_by question = record { from = question.from; to = question.to; hart = question.hart; address = option_map (λ s. s.now) question.address }

abbrev pub some_word : Result ℕ BlameFault → Result (Option ℕ) BlameFault
some_word (Ok word) = Ok (Some word)
some_word (Err fault) = Err fault

-- the word, if one is given, by its address, where there are this many bytes of data
abbrev pub word_asked : ℕ → Option (List ℕ) → Result (Option ℕ) BlameFault
word_asked bytes None = Ok None
word_asked bytes (Some text) = some_word (left_out bytes (number_of text))

abbrev pub wanted_by : TurnsAsked → Option ℕ → TurnsWanted
wanted_by asked word = record { from = asked.from; to = asked.to; hart = asked.hart; address = word }

abbrev pub wanted_at : TurnsAsked → Result (Option ℕ) BlameFault → Result TurnsWanted BlameFault
wanted_at asked (Ok word) = Ok (wanted_by asked word)
wanted_at asked (Err fault) = Err fault

-- what is wanted of a log, where there are this many bytes of data, or why nothing is
abbrev pub turns_wanted : ℕ → TurnsAsked → Result TurnsWanted BlameFault
turns_wanted bytes asked = wanted_at asked (word_asked bytes asked.address)

-- ---- the answer

-- the lines of the log's turns that are wanted, from the image's start
abbrev pub trace_of : TurnsWanted → ImageContents → LogState → List ℕ
trace_of wanted image log = trace_text wanted (machine_of image log.harts) log.turns

abbrev pub with_wanted : ImageContents → LogState → Result TurnsWanted BlameFault → Result (List ℕ) Refusal
with_wanted image log (Ok wanted) = Ok (trace_of wanted image log)
with_wanted image log (Err fault) = Err (Blame fault)

abbrev pub with_log : TurnsAsked → ImageContents → Result LogState LogFault → Result (List ℕ) Refusal
with_log asked image (Ok log) = with_wanted image log (turns_wanted (length image.bytes) asked)
with_log asked image (Err fault) = Err (Log fault)

abbrev pub with_image : TurnsAsked → Result ImageContents LoadFault → List ℕ → Result (List ℕ) Refusal
with_image asked (Ok image) log_bytes = with_log asked image (log_of log_bytes)
with_image asked (Err fault) log_bytes = Err (Load fault)

-- the answer to the bytes of an image and of a log: the image is judged first, then the log, then the word
unfoldable pub answer : TurnsAsked → List ℕ → List ℕ → Result (List ℕ) Refusal
answer asked image_bytes log_bytes = with_image asked (image_of image_bytes) log_bytes

-- the lines of an image and a log
abbrev pub IsTraced : TurnsAsked → List ℕ × List ℕ → List ℕ → Type 0
IsTraced asked files text = answer asked files.0 files.1 ≡ Ok text

-- why they are refused
abbrev pub IsRefusedTrace : TurnsAsked → List ℕ × List ℕ → Refusal → Type 0
IsRefusedTrace asked files refusal = answer asked files.0 files.1 ≡ Err refusal

-- ---- lines that are written piece by piece

-- Why not all the bytes were written: the sink took a beginning of them, and where memory ran out, it didn't fail.
abbrev pub UnwrittenPieces : Taken → List ℕ → Fault → Type 0
UnwrittenPieces sink bytes (Refused refusal) = ⊥
UnwrittenPieces sink bytes (File path) = sink.failed (string_bytes path) × ((count : ℕ) × sink.took (take count bytes))
UnwrittenPieces sink bytes Memory = sink.well × ((count : ℕ) × sink.took (take count bytes))
UnwrittenPieces sink bytes Thread = ⊥

abbrev pub WritesPieces : {X : Type 0} → Taken → List ℕ → Result X Fault → Type 0
WritesPieces sink bytes (Ok done) = sink.took bytes × sink.well
WritesPieces sink bytes (Err fault) = UnwrittenPieces sink bytes fault

-- Where the files are refused, or one of them failed, nothing is written. Where the sink failed, or memory ran out in the middle, what was
-- written begins the lines.
abbrev pub TraceGaveUp : TurnsAsked → Sources (List ℕ × List ℕ) → Taken → Fault → Type 0
TraceGaveUp asked files sink (Refused refusal) = RefusedSo (IsRefusedTrace asked) files.gave refusal × files.well × sink.untouched
TraceGaveUp asked files sink (File path) =
    (files.failed (string_bytes path) × sink.untouched)
    ⊎ (sink.failed (string_bytes path) × files.well × Begun (IsTraced asked) files.gave sink.took)
TraceGaveUp asked files sink Memory = files.well × sink.well × (sink.untouched ⊎ Begun (IsTraced asked) files.gave sink.took)
TraceGaveUp asked files sink Thread = ⊥

-- Ok where the sink took the lines that the files mean, and no device failed
abbrev pub Traces : {X : Type 0} → TurnsAsked → Sources (List ℕ × List ℕ) → Taken → Result X Fault → Type 0
Traces asked files sink (Ok done) = Answered (IsTraced asked) files.gave sink.took × files.well × sink.well
Traces asked files sink (Err fault) = TraceGaveUp asked files sink fault
