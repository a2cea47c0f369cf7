-- What a run of an image answers: a log of turns, and the dump after them. An image has many logs: which one comes out depends on the
-- threads. This project's own.
use Rattle.std.specs.Prelude.{◌≡◌, ◌≤◌, ◌⊎◌, ℕ, List, [], take, Result, Ok, Err}
use Rattle.std.specs.String.{string_bytes}
use Rattle.turn_log.specs.TurnLog.{LogState}
use Rattle.turn_log.specs.LogSpelling.{log_of, spelled}
use Rattle.loader.specs.Image.{ImageContents}
use Rattle.loader.specs.Spelling.{image_of}
use Rattle.shared_machine.specs.Running.{IsRunOf}
use Rattle.hrv_engines.specs.declared.faults.Refusal.{Refusal}
use Rattle.hrv_engines.specs.declared.faults.Fault.{Fault}
use Rattle.hrv_engines.specs.declared.faults.Fault.TheVariants.{Refused, File, Memory, Thread}
use Rattle.hrv_engines.specs.Devices.{Sources, Taken}
use Rattle.hrv_engines.specs.Engine.{RefusedSo}
use Rattle.hrv_engines.specs.Replay.{IsReplay}

-- The bytes of a log and of a text that a run of an image leaves which goes on from turns made before: the log begins with these, no hart
-- has more than `limit` turns beyond them, and one with fewer isn't running at the end, unless it has as many as any may have. The text is the
-- dump that replaying the log over the image answers.
pub record IsRunFrom (image : ImageContents) (image_bytes : List ℕ) (old : LogState) (limit : ℕ) (log_bytes text : List ℕ) : Type 0 where
  pub log : LogState
  pub is_run : IsRunOf image old.harts old.turns limit log
  pub is_spelled : log_bytes ≡ spelled log
  pub is_replay : IsReplay (image_bytes, log_bytes) text

-- the same of the bytes of an image, from its start, with this many harts
pub record IsRun (harts limit : ℕ) (image_bytes log_bytes text : List ℕ) : Type 0 where
  pub image : ImageContents
  pub is_image : image_of image_bytes ≡ Ok image
  pub is_run : IsRunFrom image image_bytes (record { harts = harts; turns = [] }) limit log_bytes text

-- the same of the bytes of an image and of a log, with as many harts as the log has
pub record IsResumedRun (limit : ℕ) (files : List ℕ × List ℕ) (log_bytes text : List ℕ) : Type 0 where
  pub image : ImageContents
  pub old : LogState
  pub is_image : image_of files.0 ≡ Ok image
  pub is_old : log_of files.1 ≡ Ok old
  pub is_run : IsRunFrom image files.0 old limit log_bytes text

-- ---- what an engine does that writes a log and a text

-- The sources gave inputs, and the sinks took what this says of the log and the text that they leave.
pub record Ran {I : Type 0} (leaves : I → List ℕ → List ℕ → Type 0) (gave : I → Type 0) (took : List ℕ → List ℕ → Type 0) : Type 0 where
  pub inputs : I
  pub log_bytes : List ℕ
  pub text : List ℕ
  pub are_given : gave inputs
  pub is_run : leaves inputs log_bytes text
  pub is_taken : took log_bytes text

-- a beginning of these bytes
abbrev pub TookBeginning : Taken → List ℕ → Type 0
TookBeginning sink bytes = (count : ℕ) × sink.took (take count bytes)

-- Where the inputs are refused, or memory or threads were wanting, no device failed and both sinks are as they were. Where the log's sink
-- failed, it took a beginning of the log and the text's sink is as it was; where the text's did, the log is whole.
abbrev pub RunGaveUp : {I : Type 0} → (I → List ℕ → List ℕ → Type 0) → (I → Refusal → Type 0) → Sources I → Taken → Taken → Fault → Type 0
RunGaveUp leaves refuses sources log out (Refused refusal) = RefusedSo refuses sources.gave refusal × sources.well × log.untouched × out.untouched
RunGaveUp leaves refuses sources log out (File path) =
    (sources.failed (string_bytes path) × log.untouched × out.untouched)
    ⊎ (log.failed (string_bytes path) × sources.well × out.untouched × Ran leaves sources.gave (λ bytes text. TookBeginning log bytes))
    ⊎ (out.failed (string_bytes path) × sources.well × log.well × Ran leaves sources.gave (λ bytes text. log.took bytes × TookBeginning out text))
RunGaveUp leaves refuses sources log out Memory = sources.well × log.untouched × out.untouched
RunGaveUp leaves refuses sources log out Thread = sources.well × log.untouched × out.untouched

-- Ok where the sinks took the log and the text that the inputs leave, and no device failed
abbrev pub Runs : {I X : Type 0} → (I → List ℕ → List ℕ → Type 0) → (I → Refusal → Type 0) → Sources I → Taken → Taken → Result X Fault → Type 0
Runs leaves refuses sources log out (Ok done) =
    Ran leaves sources.gave (λ bytes text. log.took bytes × out.took text) × sources.well × log.well × out.well
Runs leaves refuses sources log out (Err fault) = RunGaveUp leaves refuses sources log out fault

-- the bytes spell a log of several harts, and so has each run that goes on from it
abbrev pub IsOfSeveral : List ℕ → Type 0
IsOfSeveral bytes = (old : LogState) × (log_of bytes ≡ Ok old) × (2 ≤ old.harts)

-- a source gave such bytes
abbrev pub GaveSeveral : Sources (List ℕ) → Type 0
GaveSeveral source = (bytes : List ℕ) × source.gave bytes × IsOfSeveral bytes

-- ---- its steps

-- memory or threads were wanting
abbrev pub IsWant : Fault → Type 0
IsWant (Refused refusal) = ⊥
IsWant (File path) = ⊥
IsWant Memory = Unit {0}
IsWant Thread = Unit {0}

-- why inputs leave no log
abbrev pub Unrun : {I : Type 0} → (I → Refusal → Type 0) → I → Fault → Type 0
Unrun refuses inputs (Refused refusal) = refuses inputs refusal
Unrun refuses inputs (File path) = ⊥
Unrun refuses inputs Memory = Unit {0}
Unrun refuses inputs Thread = Unit {0}

-- why two outputs were not all written, the second after the first
abbrev pub BothUnwritten : Taken → Taken → List ℕ → List ℕ → Fault → Type 0
BothUnwritten log out bytes text (Refused refusal) = ⊥
BothUnwritten log out bytes text (File path) =
    (log.failed (string_bytes path) × out.untouched × TookBeginning log bytes)
    ⊎ (out.failed (string_bytes path) × log.well × log.took bytes × TookBeginning out text)
BothUnwritten log out bytes text Memory = log.untouched × out.untouched
BothUnwritten log out bytes text Thread = ⊥

-- two outputs are written, the second after the first
abbrev pub WritesBoth : {X : Type 0} → Taken → Taken → List ℕ → List ℕ → Result X Fault → Type 0
WritesBoth log out bytes text (Ok done) = log.took bytes × out.took text × log.well × out.well
WritesBoth log out bytes text (Err fault) = BothUnwritten log out bytes text fault
