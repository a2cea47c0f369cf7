-- A verdict on a record, from the steps of its engine.
use Rattle.std.proofs.Common.{◌≡◌, ◌∙◌, ◌++◌, ℕ, List, append_assoc, refl, sym, ap, ap₂, subst}
use Rattle.std.specs.Prelude.{Err, IsErrAnd, Ok, Result}
use Rattle.turn_log.specs.TurnLog.{LogState}
use Rattle.turn_log.specs.LogSpelling.{log_of}
use Rattle.loader.specs.Image.{ImageContents}
use Rattle.loader.specs.Spelling.{image_of}
use Rattle.run_records.specs.RecordText.{Contents, record_in}
use Rattle.run_records.specs.declared.records.Ending.{Ending}
use Rattle.sha2.specs.Sha256.{sha256}
use Rattle.hrv_engines.specs.declared.faults.Refusal.{Refusal}
use Rattle.hrv_engines.specs.declared.faults.Fault.{Fault}
use Rattle.hrv_engines.specs.declared.verify.Found.{Found}
use Rattle.hrv_engines.specs.declared.verify.Verdict.{Verdict}
use Rattle.hrv_engines.specs.Devices.{Sources, Taken}
use Rattle.hrv_engines.specs.Engine.{Performs, PerformsAs, Unmeant, Unread, Unwritten}
use Rattle.hrv_engines.specs.Records.{contents, contents_of}
use Rattle.hrv_engines.specs.Verify.{IsVerdict, answer, verdict, with_image, with_log, with_record}
use Rattle.hrv_engines.specs.inner.Found.{IsFound, contents_found}
use Rattle.hrv_engines.proofs.Steps.{unmeant, unread, written}

-- what was found is what the record of the files would say
found-contents : (limit : ℕ) (image : ImageContents) (image_bytes log_bytes : List ℕ) (found : Found) (is : IsFound image (sha256 image_bytes) log_bytes found)
    → contents_found limit found ≡ contents_of limit image_bytes log_bytes image is.is_end.log
found-contents limit image image_bytes log_bytes found is =
    ap₂ (λ (i l : List ℕ). contents i l found.end.harts limit found.end.ending) is.is_image is.is_log
    ∙ ap₂ (λ (h : ℕ) (e : Ending). contents (sha256 image_bytes) (sha256 log_bytes) h limit e) is.is_end.as_many is.is_end.is_ending

pub verdict-is : (text image_bytes log_bytes : List ℕ) (recorded : Contents) (image : ImageContents) (found : Found) (said : Verdict × List ℕ)
    → record_in text ≡ Ok recorded → image_of image_bytes ≡ Ok image → IsFound image (sha256 image_bytes) log_bytes found
    → said ≡ verdict recorded (contents_found recorded.limit found) → answer ((text, image_bytes), log_bytes) ≡ Ok said
unfolding answer
verdict-is text image_bytes log_bytes recorded image found said is_record is_image is_found is_said =
    ap (with_record image_bytes log_bytes) is_record ∙ ap (with_image recorded image_bytes log_bytes) is_image
    ∙ ap (with_log recorded image_bytes log_bytes image) is_found.is_end.is_log
    ∙ ap (λ found. Ok (verdict recorded found)) (sym (found-contents recorded.limit image image_bytes log_bytes found is_found)) ∙ ap (λ s. Ok s) (sym is_said)

-- a text that grew twice
pub grown : (start middle end front back : List ℕ) → middle ≡ start ++ front → end ≡ middle ++ back → end ≡ start ++ (front ++ back)
grown start middle end front back a b = b ∙ ap (λ text. text ++ back) a ∙ append_assoc start front back

-- ---- an engine that answers a value beside its output

module _ {I X : Type 0} (means : X → I → List ℕ → Type 0) (refuses : I → Refusal → Type 0) (sources : Sources I) (sink : Taken) where
  -- some value with the output
  abbrev means_some : I → List ℕ → Type 0
  means_some inputs output = (value : X) × means value inputs output

  by_fault : (r : Result X Fault) (fault : Fault) → IsErrAnd r (λ f. f ≡ fault) → Performs {X = X} means_some refuses sources sink (Err fault)
      → PerformsAs means refuses sources sink r
  by_fault (Ok x) fault is p = absurd is
  by_fault (Err f) fault is p = subst (λ g. PerformsAs means refuses sources sink (Err g)) (sym is) p

  pub unread_as : (r : Result X Fault) (fault : Fault) → IsErrAnd r (λ f. f ≡ fault) → sink.untouched → Unread sources fault
      → PerformsAs means refuses sources sink r
  unread_as r fault is still p = by_fault r fault is (unread means_some refuses sources sink {X = X} (Err fault) fault refl still p)

  pub unmeant_as : (r : Result X Fault) (fault : Fault) (inputs : I) → IsErrAnd r (λ f. f ≡ fault) → sink.untouched → sources.gave inputs → sources.well
      → Unmeant refuses inputs fault → PerformsAs means refuses sources sink r
  unmeant_as r fault inputs is still given well p =
      by_fault r fault is (unmeant means_some refuses sources sink {X = X} (Err fault) fault inputs refl still given well p)

  pub unwritten_as : (r : Result X Fault) (fault : Fault) (inputs : I) (output : List ℕ) (value : X) → IsErrAnd r (λ f. f ≡ fault) → sources.gave inputs
      → sources.well → means value inputs output → Unwritten sink output fault → PerformsAs means refuses sources sink r
  unwritten_as r fault inputs output value is given well meant p =
      by_fault r fault is (written means_some refuses sources sink {X = X} (Err fault) inputs output given well (value, meant) p)

  pub written_as : (value : X) (inputs : I) (output : List ℕ) → sources.gave inputs → sources.well → means value inputs output → sink.took output → sink.well
      → PerformsAs means refuses sources sink (Ok value)
  written_as value inputs output given well meant took sink_well =
      (record { inputs = inputs; output = output; are_given = given; is_meant = meant; is_taken = took }, well, sink_well)
