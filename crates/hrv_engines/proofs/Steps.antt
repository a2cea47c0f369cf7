-- An engine's answer, from those of its three steps.
use Rattle.std.proofs.Common.{◌≡◌, ℕ, List, inl, inr, sym, subst}
use Rattle.std.specs.Prelude.{Err, IsErrAnd, Ok, Result}
use Rattle.hrv_engines.specs.declared.faults.Refusal.{Refusal}
use Rattle.hrv_engines.specs.declared.faults.Fault.{Fault}
use Rattle.hrv_engines.specs.declared.faults.Fault.TheVariants.{Refused, File, Memory, Thread}
use Rattle.hrv_engines.specs.Devices.{Sources, Taken, both}
use Rattle.hrv_engines.specs.Engine.{GaveUp, Judges, Performs, Reads, Unmeant, Unread, Writes}

-- a fact of each fault, of the one that is passed on
pub passed : {X : Type 0} (P : Fault → Type 0) (r : Result X Fault) (fault : Fault) → IsErrAnd r (λ f. f ≡ fault) → P fault → IsErrAnd r P
passed P (Ok x) fault is p = absurd is
passed P (Err f) fault is p = subst P (sym is) p

-- ---- reading

pub reads_not : {I X : Type 0} (value : X → I) (sources : Sources I) (r : Result X Fault) → IsErrAnd r (Unread sources) → Reads value sources r
reads_not value sources (Ok x) p = absurd p
reads_not value sources (Err fault) p = p

-- sources that are read one after the other
module _ {I J : Type 0} (first : Sources I) (second : Sources J) where
  pub first_unread : (fault : Fault) → second.untouched → second.well → Unread first fault → Unread (both first second) fault
  first_unread (Refused refusal) still well p = p
  first_unread (File path) still well p = inl (p, still)
  first_unread Memory still well p = (p, well)
  first_unread Thread still well p = p

  pub second_unread : (input : I) (fault : Fault) → first.gave input → first.well → Unread second fault → Unread (both first second) fault
  second_unread input (Refused refusal) given well p = p
  second_unread input (File path) given well p = inr ((input, given), well, p)
  second_unread input Memory given well p = (well, p)
  second_unread input Thread given well p = p

-- ---- judging

pub judges_not : {I X : Type 0} (value : X → List ℕ) (means : I → List ℕ → Type 0) (refuses : I → Refusal → Type 0) (inputs : I) (r : Result X Fault)
    → IsErrAnd r (Unmeant refuses inputs) → Judges value means refuses inputs r
judges_not value means refuses inputs (Ok x) p = absurd p
judges_not value means refuses inputs (Err fault) p = p

-- ---- the whole

module _ {I : Type 0} (means : I → List ℕ → Type 0) (refuses : I → Refusal → Type 0) (sources : Sources I) (sink : Taken) where
  performs_not : {X : Type 0} (r : Result X Fault) → IsErrAnd r (GaveUp means refuses sources sink) → Performs means refuses sources sink r
  performs_not (Ok x) p = absurd p
  performs_not (Err fault) p = p

  -- the inputs were not all read
  pub unread : {X : Type 0} (r : Result X Fault) (fault : Fault) → IsErrAnd r (λ f. f ≡ fault) → sink.untouched → Unread sources fault
      → Performs means refuses sources sink r
  unread r fault is still p = performs_not r (passed (GaveUp means refuses sources sink) r fault is (gave_up fault p))
    where
      gave_up : (f : Fault) → Unread sources f → GaveUp means refuses sources sink f
      gave_up (Refused refusal) q = absurd q
      gave_up (File path) q = inl (q, still)
      gave_up Memory q = (q, still)
      gave_up Thread q = q

  -- they have no output
  pub unmeant : {X : Type 0} (r : Result X Fault) (fault : Fault) (inputs : I) → IsErrAnd r (λ f. f ≡ fault) → sink.untouched → sources.gave inputs
      → sources.well
      → Unmeant refuses inputs fault → Performs means refuses sources sink r
  unmeant r fault inputs is still given well p = performs_not r (passed (GaveUp means refuses sources sink) r fault is (gave_up fault p))
    where
      gave_up : (f : Fault) → Unmeant refuses inputs f → GaveUp means refuses sources sink f
      gave_up (Refused refusal) q = (record { inputs = inputs; are_given = given; are_refused = q }, well, still)
      gave_up (File path) q = absurd q
      gave_up Memory q = (well, still)
      gave_up Thread q = q

  -- their output was written, or a beginning of it
  pub written : {X : Type 0} (r : Result X Fault) (inputs : I) (output : List ℕ) → sources.gave inputs → sources.well → means inputs output
      → Writes sink output r → Performs means refuses sources sink r
  written (Ok x) inputs output given well meant p =
      (record { inputs = inputs; output = output; are_given = given; is_meant = meant; is_taken = p.0 }, well, p.1)
  written (Err (Refused refusal)) inputs output given well meant p = absurd p
  written (Err (File path)) inputs output given well meant p = inr (
    p.0,
    well,
    record { inputs = inputs; output = output; count = p.1.0; are_given = given; is_meant = meant; is_taken = p.1.1 },
  )
  written (Err Memory) inputs output given well meant p = (well, p)
  written (Err Thread) inputs output given well meant p = absurd p
