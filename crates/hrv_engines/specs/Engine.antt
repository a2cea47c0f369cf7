-- What an engine does, said once for all of them: the inputs that its sources gave mean the output that its sink took.
-- An engine brings two relations: which output inputs mean, and why inputs are refused.
-- This project's own.
use Rattle.std.specs.Prelude.{◌⊎◌, ℕ, Bool, true, false, List, take, Result, Ok, Err}
use Rattle.std.specs.String.{string_bytes}
use Rattle.hrv_engines.specs.declared.faults.Refusal.{Refusal}
use Rattle.hrv_engines.specs.declared.faults.Fault.{Fault}
use Rattle.hrv_engines.specs.declared.faults.Fault.TheVariants.{Refused, File, Memory, Thread}
use Rattle.hrv_engines.specs.Devices.{Sources, Taken}

-- ---- inputs and their output

-- The sources gave inputs, and the sink took the output that they mean and nothing else.
pub record Answered {I : Type 0} (means : I → List ℕ → Type 0) (gave : I → Type 0) (took : List ℕ → Type 0) : Type 0 where
  pub inputs : I
  pub output : List ℕ
  pub are_given : gave inputs
  pub is_meant : means inputs output
  pub is_taken : took output

-- The sources gave inputs, which are refused so.
pub record RefusedSo {I : Type 0} (refuses : I → Refusal → Type 0) (gave : I → Type 0) (refusal : Refusal) : Type 0 where
  pub inputs : I
  pub are_given : gave inputs
  pub are_refused : refuses inputs refusal

-- The sources gave inputs, and the sink took a beginning of the output that they mean.
pub record Begun {I : Type 0} (means : I → List ℕ → Type 0) (gave : I → Type 0) (took : List ℕ → Type 0) : Type 0 where
  pub inputs : I
  pub output : List ℕ
  pub count : ℕ
  pub are_given : gave inputs
  pub is_meant : means inputs output
  pub is_taken : took (take count output)

-- ---- what an engine answers

-- Where inputs are refused, or memory ran out, no device failed and the sink is as it was. A path is named where a source failed, the sink
-- then being as it was, or where the sink did, which then took a beginning of the output. It needs no thread.
abbrev pub GaveUp : {I : Type 0} → (I → List ℕ → Type 0) → (I → Refusal → Type 0) → Sources I → Taken → Fault → Type 0
GaveUp means refuses sources sink (Refused refusal) = RefusedSo refuses sources.gave refusal × sources.well × sink.untouched
GaveUp means refuses sources sink (File path) =
    (sources.failed (string_bytes path) × sink.untouched)
    ⊎ (sink.failed (string_bytes path) × sources.well × Begun means sources.gave sink.took)
GaveUp means refuses sources sink Memory = sources.well × sink.untouched
GaveUp means refuses sources sink Thread = ⊥

-- Ok where the sink took the output that the inputs mean, and no device failed
abbrev pub Performs : {I X : Type 0} → (I → List ℕ → Type 0) → (I → Refusal → Type 0) → Sources I → Taken → Result X Fault → Type 0
Performs means refuses sources sink (Ok done) = Answered means sources.gave sink.took × sources.well × sink.well
Performs means refuses sources sink (Err fault) = GaveUp means refuses sources sink fault

-- The same of an engine that answers a value beside the output: the inputs mean both.
abbrev pub PerformsAs : {I X : Type 0} → (X → I → List ℕ → Type 0) → (I → Refusal → Type 0) → Sources I → Taken → Result X Fault → Type 0
PerformsAs means refuses sources sink (Ok value) = Answered (means value) sources.gave sink.took × sources.well × sink.well
PerformsAs {I} {X} means refuses sources sink (Err fault) = GaveUp (λ inputs output. (value : X) × means value inputs output) refuses sources sink fault

-- ---- its three steps

-- why inputs were not all read
abbrev pub Unread : {I : Type 0} → Sources I → Fault → Type 0
Unread sources (Refused refusal) = ⊥
Unread sources (File path) = sources.failed (string_bytes path)
Unread sources Memory = sources.well
Unread sources Thread = ⊥

-- all inputs are read
abbrev pub Reads : {I X : Type 0} → (X → I) → Sources I → Result X Fault → Type 0
Reads value sources (Ok x) = sources.gave (value x) × sources.well
Reads value sources (Err fault) = Unread sources fault

-- why there is no output of inputs
abbrev pub Unmeant : {I : Type 0} → (I → Refusal → Type 0) → I → Fault → Type 0
Unmeant refuses inputs (Refused refusal) = refuses inputs refusal
Unmeant refuses inputs (File path) = ⊥
Unmeant refuses inputs Memory = Unit {0}
Unmeant refuses inputs Thread = ⊥

-- the output of inputs
abbrev pub Judges : {I X : Type 0} → (X → List ℕ) → (I → List ℕ → Type 0) → (I → Refusal → Type 0) → I → Result X Fault → Type 0
Judges value means refuses inputs (Ok x) = means inputs (value x)
Judges value means refuses inputs (Err fault) = Unmeant refuses inputs fault

-- why bytes were not all written
abbrev pub Unwritten : Taken → List ℕ → Fault → Type 0
Unwritten sink bytes (Refused refusal) = ⊥
Unwritten sink bytes (File path) = sink.failed (string_bytes path) × ((count : ℕ) × sink.took (take count bytes))
Unwritten sink bytes Memory = sink.untouched
Unwritten sink bytes Thread = ⊥

-- all bytes are written
abbrev pub Writes : {X : Type 0} → Taken → List ℕ → Result X Fault → Type 0
Writes sink bytes (Ok done) = sink.took bytes × sink.well
Writes sink bytes (Err fault) = Unwritten sink bytes fault

-- Whether all bytes are written to a sink of this path.
abbrev pub WritesEach : Taken → List ℕ → List ℕ → Bool → Type 0
WritesEach sink path bytes true = sink.took bytes × sink.well
WritesEach sink path bytes false = sink.failed path × ((count : ℕ) × sink.took (take count bytes))
