-- What a run of an image answers that is recorded: a log of turns, the record, and the dump. This project's own.
use Rattle.std.specs.Prelude.{◌⊎◌, ℕ, List, Result, Ok, Err}
use Rattle.std.specs.String.{string_bytes}
use Rattle.drawn_runs.specs.declared.drawing.DrawRules.{DrawRules}
use Rattle.hrv_engines.specs.declared.faults.Refusal.{Refusal}
use Rattle.hrv_engines.specs.declared.faults.Fault.{Fault}
use Rattle.hrv_engines.specs.declared.faults.Fault.TheVariants.{Refused, File, Memory, Thread}
use Rattle.hrv_engines.specs.Devices.{Sources, Taken}
use Rattle.hrv_engines.specs.Drawn.{IsDrawnRun}
use Rattle.hrv_engines.specs.Engine.{RefusedSo}
use Rattle.hrv_engines.specs.Records.{IsRecordOf}
use Rattle.hrv_engines.specs.Run.{IsResumedRun, IsRun, TookBeginning}

-- the log and the dump are those of a run, and the record is that of the image and of the log
abbrev pub IsRecordedRun : (harts limit : ℕ) → (image_bytes log_bytes record_bytes text : List ℕ) → Type 0
IsRecordedRun harts limit image_bytes log_bytes record_bytes text =
    IsRun harts limit image_bytes log_bytes text × IsRecordOf limit image_bytes log_bytes record_bytes

-- the same of a run that goes on from a log
abbrev pub IsRecordedResumedRun : (limit : ℕ) → List ℕ × List ℕ → (log_bytes record_bytes text : List ℕ) → Type 0
IsRecordedResumedRun limit files log_bytes record_bytes text =
    IsResumedRun limit files log_bytes text × IsRecordOf limit files.0 log_bytes record_bytes

-- the same of a run whose turns a seed draws
abbrev pub IsRecordedDrawnRun : (harts : ℕ) → DrawRules → (image_bytes log_bytes record_bytes text : List ℕ) → Type 0
IsRecordedDrawnRun harts rules image_bytes log_bytes record_bytes text =
    IsDrawnRun harts rules image_bytes log_bytes text × IsRecordOf rules.limit image_bytes log_bytes record_bytes

-- ---- what an engine does that writes a log, a record and a text

-- The sources gave inputs, and the sinks took what this says of the log, the record and the text that they leave.
pub record Recorded {I : Type 0} (leaves : I → List ℕ → List ℕ → List ℕ → Type 0) (gave : I → Type 0) (took : List ℕ → List ℕ → List ℕ → Type 0)
    : Type 0 where
  pub inputs : I
  pub log_bytes : List ℕ
  pub record_bytes : List ℕ
  pub text : List ℕ
  pub are_given : gave inputs
  pub is_run : leaves inputs log_bytes record_bytes text
  pub are_taken : took log_bytes record_bytes text

-- Where the inputs are refused, or memory or threads were wanting, no device failed and all sinks are as they were. Where a sink failed, it took a
-- beginning of what it was to take, those before it took all, and those after it are as they were: the record comes after the log, the text last.
abbrev pub RecordingGaveUp : {I : Type 0} → (I → List ℕ → List ℕ → List ℕ → Type 0) → (I → Refusal → Type 0) → Sources I → (log kept out : Taken)
    → Fault → Type 0
RecordingGaveUp leaves refuses sources log kept out (Refused refusal) =
    RefusedSo refuses sources.gave refusal × sources.well × log.untouched × kept.untouched × out.untouched
RecordingGaveUp leaves refuses sources log kept out (File path) =
    (sources.failed (string_bytes path) × log.untouched × kept.untouched × out.untouched)
    ⊎ (log.failed (string_bytes path) × sources.well × kept.untouched × out.untouched
    × Recorded leaves sources.gave (λ bytes record_bytes text. TookBeginning log bytes))
    ⊎ (kept.failed (string_bytes path) × sources.well × log.well × out.untouched
    × Recorded leaves sources.gave (λ bytes record_bytes text. log.took bytes × TookBeginning kept record_bytes))
    ⊎ (out.failed (string_bytes path) × sources.well × log.well × kept.well
    × Recorded leaves sources.gave (λ bytes record_bytes text. log.took bytes × kept.took record_bytes × TookBeginning out text))
RecordingGaveUp leaves refuses sources log kept out Memory = sources.well × log.untouched × kept.untouched × out.untouched
RecordingGaveUp leaves refuses sources log kept out Thread = sources.well × log.untouched × kept.untouched × out.untouched

-- Ok where the sinks took the log, the record and the text that the inputs leave, and no device failed
abbrev pub Records : {I X : Type 0} → (I → List ℕ → List ℕ → List ℕ → Type 0) → (I → Refusal → Type 0) → Sources I → (log kept out : Taken)
    → Result X Fault → Type 0
Records leaves refuses sources log kept out (Ok done) =
    Recorded leaves sources.gave (λ bytes record_bytes text. log.took bytes × kept.took record_bytes × out.took text) × sources.well × log.well
    × kept.well × out.well
Records leaves refuses sources log kept out (Err fault) = RecordingGaveUp leaves refuses sources log kept out fault

-- ---- its last step

-- why three outputs were not all written, one after the other
abbrev pub AllUnwritten : (log kept out : Taken) → (bytes record_bytes text : List ℕ) → Fault → Type 0
AllUnwritten log kept out bytes record_bytes text (Refused refusal) = ⊥
AllUnwritten log kept out bytes record_bytes text (File path) =
    (log.failed (string_bytes path) × kept.untouched × out.untouched × TookBeginning log bytes)
    ⊎ (kept.failed (string_bytes path) × log.well × out.untouched × log.took bytes × TookBeginning kept record_bytes)
    ⊎ (out.failed (string_bytes path) × log.well × kept.well × log.took bytes × kept.took record_bytes × TookBeginning out text)
AllUnwritten log kept out bytes record_bytes text Memory = log.untouched × kept.untouched × out.untouched
AllUnwritten log kept out bytes record_bytes text Thread = ⊥

-- three outputs are written, one after the other
abbrev pub WritesAll : {X : Type 0} → (log kept out : Taken) → (bytes record_bytes text : List ℕ) → Result X Fault → Type 0
WritesAll log kept out bytes record_bytes text (Ok done) =
    log.took bytes × kept.took record_bytes × out.took text × log.well × kept.well × out.well
WritesAll log kept out bytes record_bytes text (Err fault) = AllUnwritten log kept out bytes record_bytes text fault
