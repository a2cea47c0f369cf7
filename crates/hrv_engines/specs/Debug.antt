-- What an image, a log and lines of commands mean when they are debugged: the talk over the session of the image and the log, or the
-- first refusal. This project's own.
use Rattle.std.specs.Prelude.{◌≡◌, ◌⊎◌, ℕ, List, Result, Ok, Err}
use Rattle.std.specs.String.{string_bytes}
use Rattle.turn_log.specs.TurnLog.{LogState}
use Rattle.turn_log.specs.LogSpelling.{log_of}
use Rattle.turn_log.specs.declared.log_faults.LogFault.{LogFault}
use Rattle.loader.specs.Image.{ImageContents}
use Rattle.loader.specs.Spelling.{image_of}
use Rattle.loader.specs.declared.faults.LoadFault.{LoadFault}
use Rattle.debugger.specs.Places.{SessionState, opened}
use Rattle.hrv_engines.specs.declared.faults.Refusal.{Refusal}
use Rattle.hrv_engines.specs.declared.faults.Refusal.TheVariants.{Load, Log}
use Rattle.hrv_engines.specs.declared.faults.Fault.{Fault}
use Rattle.hrv_engines.specs.declared.faults.Fault.TheVariants.{Refused, File, Memory, Thread}
use Rattle.hrv_engines.specs.Devices.{Sources, Taken, both}
use Rattle.hrv_engines.specs.Engine.{Answered, RefusedSo}
use Rattle.hrv_engines.specs.Talk.{talk}
use Rattle.hrv_engines.specs.TalkSoFar.{BrokenTalk, EndsIn, WaitingTalk}

abbrev pub with_log : ImageContents → Result LogState LogFault → Result SessionState Refusal
with_log image (Ok log) = Ok (opened image log)
with_log image (Err fault) = Err (Log fault)

abbrev pub with_image : Result ImageContents LoadFault → List ℕ → Result SessionState Refusal
with_image (Ok image) log_bytes = with_log image (log_of log_bytes)
with_image (Err fault) log_bytes = Err (Load fault)

-- the session at the start, of the bytes of an image and of a log: the image is judged first
unfoldable pub session_of : List ℕ → List ℕ → Result SessionState Refusal
session_of image_bytes log_bytes = with_image (image_of image_bytes) log_bytes

-- why an image and a log are refused
abbrev pub IsRefusedSession : List ℕ × List ℕ → Refusal → Type 0
IsRefusedSession files refusal = session_of files.0 files.1 ≡ Err refusal

-- The talk on lines over the session of an image and a log. The lines are all that there are, or one of them ends the talk.
pub record IsTalk (lines_ended : Type 0) (inputs : (List ℕ × List ℕ) × List ℕ) (text : List ℕ) : Type 0 where
  pub session : SessionState
  pub opens : session_of inputs.0.0 inputs.0.1 ≡ Ok session
  pub to_the_end : lines_ended ⊎ EndsIn session inputs.1
  pub is_talk : text ≡ talk session inputs.1

-- ---- talks that broke off

-- The files gave their bytes, and what the sink took begins the talk on the bytes that the lines gave.
pub record BeganTalk (files_gave : List ℕ × List ℕ → Type 0) (lines_gave : List ℕ → Type 0) (lines_ended : Type 0) (took : List ℕ → Type 0) : Type 0 where
  pub files : List ℕ × List ℕ
  pub session : SessionState
  pub are_given : files_gave files
  pub opens : session_of files.0 files.1 ≡ Ok session
  pub begun : BrokenTalk session lines_gave lines_ended took

-- The files gave their bytes, and the talk waits for more lines: those that ended are answered, and none ended the talk.
pub record AwaitsLines (files_gave : List ℕ × List ℕ → Type 0) (lines_gave took : List ℕ → Type 0) : Type 0 where
  pub files : List ℕ × List ℕ
  pub session : SessionState
  pub are_given : files_gave files
  pub opens : session_of files.0 files.1 ≡ Ok session
  pub waiting : WaitingTalk session lines_gave took

-- ---- what debugging answers: as each engine does, but that lines are answered while they are read

-- Where the files are refused, or one of them failed, no line is read. Where the lines failed, all that ended are answered; where the
-- sink did, or memory ran out in the middle, what was written begins the talk.
abbrev pub TalkGaveUp : Sources (List ℕ × List ℕ) → Sources (List ℕ) → Type 0 → Taken → Fault → Type 0
TalkGaveUp files lines lines_ended sink (Refused refusal) =
    RefusedSo IsRefusedSession files.gave refusal × files.well × lines.untouched × sink.untouched
TalkGaveUp files lines lines_ended sink (File path) =
    (files.failed (string_bytes path) × lines.untouched × sink.untouched)
    ⊎ (lines.failed (string_bytes path) × files.well × sink.well × AwaitsLines files.gave lines.gave sink.took)
    ⊎ (sink.failed (string_bytes path) × files.well × lines.well × BeganTalk files.gave lines.gave lines_ended sink.took)
TalkGaveUp files lines lines_ended sink Memory =
    files.well × lines.well × sink.well × ((lines.untouched × sink.untouched) ⊎ BeganTalk files.gave lines.gave lines_ended sink.took)
TalkGaveUp files lines lines_ended sink Thread = ⊥

-- Ok where the sink took the talk on the lines, up to their end or to one that ends it, and no device failed
abbrev pub Talks : {X : Type 0} → Sources (List ℕ × List ℕ) → Sources (List ℕ) → Type 0 → Taken → Result X Fault → Type 0
Talks files lines lines_ended sink (Ok done) =
    Answered (IsTalk lines_ended) (both files lines).gave sink.took × files.well × lines.well × sink.well
Talks files lines lines_ended sink (Err fault) = TalkGaveUp files lines lines_ended sink fault
