-- A run's log, record and dump, from the steps of its engine.
use Rattle.std.proofs.Common.{◌≡◌, ◌∙◌, ℕ, List, inl, inr, sym, ap, ap₂, subst}
use Rattle.std.specs.Prelude.{Err, IsErrAnd, Ok, Result}
use Rattle.std.specs.String.{string_bytes}
use Rattle.multi_hart.specs.Run.{State, run}
use Rattle.turn_log.specs.TurnLog.{IsLog, LogState}
use Rattle.turn_log.specs.LogSpelling.{log_of, spelled}
use Rattle.turn_log.proofs.LogLaws.{all_again}
use Rattle.loader.specs.Image.{ImageContents}
use Rattle.loader.specs.Loading.{machine_of}
use Rattle.shared_machine.specs.Log.{state_after}
use Rattle.run_records.specs.RecordText.{record_text}
use Rattle.run_records.specs.declared.records.Ending.{Ending}
use Rattle.sha2.specs.Sha256.{sha256}
use Rattle.hrv_engines.specs.declared.endings.RunEnd.{RunEnd}
use Rattle.hrv_engines.specs.declared.faults.Refusal.{Refusal}
use Rattle.hrv_engines.specs.declared.faults.Fault.{Fault}
use Rattle.hrv_engines.specs.declared.faults.Fault.TheVariants.{Refused, File, Memory, Thread}
use Rattle.hrv_engines.specs.Devices.{Sources, Taken}
use Rattle.hrv_engines.specs.Engine.{Unread}
use Rattle.hrv_engines.specs.Recorded.{AllUnwritten, RecordingGaveUp, Records, WritesAll}
use Rattle.hrv_engines.specs.Records.{EndsSo, IsEnd, IsRecordOf, contents, ending_of}
use Rattle.hrv_engines.specs.Run.{Unrun}

-- the text of a record of these bytes
pub record-is : (image_bytes log_bytes record_bytes : List ℕ) (limit : ℕ) (end : RunEnd) → EndsSo image_bytes log_bytes end
    → record_bytes ≡ record_text (contents (sha256 image_bytes) (sha256 log_bytes) end.harts limit end.ending)
    → IsRecordOf limit image_bytes log_bytes record_bytes
record-is image_bytes log_bytes record_bytes limit end ends is = record {
  image = ends.0;
  log = ends.2.log;
  is_image = ends.1;
  is_log = ends.2.is_log;
  is_text = is ∙ ap₂ (λ (harts : ℕ) (ending : Ending). record_text (contents (sha256 image_bytes) (sha256 log_bytes) harts limit ending)) ends.2.as_many ends.2.is_ending;
}

-- how a run ended whose log these bytes spell
pub end-is : (image : ImageContents) (harts : ℕ) (log_bytes : List ℕ) (log : LogState) (machine : State) (end : RunEnd)
    → machine ≡ state_after image harts log.turns → log.harts ≡ harts → IsLog log → log_bytes ≡ spelled log → end.harts ≡ log.harts
    → end.ending ≡ ending_of machine → IsEnd image log_bytes end
end-is image harts log_bytes log machine end is_machine same is_log is_spelled as_many is_ending = record {
  log = log;
  is_log = ap log_of is_spelled ∙ all_again log is_log;
  as_many = as_many;
  is_ending = is_ending ∙ ap ending_of (is_machine ∙ ap (λ n. run (machine_of image n) log.turns) (sym same));
}

module _ {I : Type 0} (leaves : I → List ℕ → List ℕ → List ℕ → Type 0) (refuses : I → Refusal → Type 0) (sources : Sources I) (log kept out : Taken) where
  -- a fault that is passed on
  passed_on : {X : Type 0} (r : Result X Fault) (fault : Fault) → IsErrAnd r (λ f. f ≡ fault) → RecordingGaveUp leaves refuses sources log kept out fault
      → Records leaves refuses sources log kept out r
  passed_on (Ok x) fault is p = absurd is
  passed_on (Err f) fault is p = subst (RecordingGaveUp leaves refuses sources log kept out) (sym is) p

  -- the inputs were not all read
  pub unrecorded_unread : {X : Type 0} (r : Result X Fault) (fault : Fault) → IsErrAnd r (λ f. f ≡ fault) → log.untouched → kept.untouched → out.untouched
      → Unread sources fault → Records leaves refuses sources log kept out r
  unrecorded_unread r fault is log_still kept_still out_still p = passed_on r fault is (gave_up fault p)
    where
      gave_up : (f : Fault) → Unread sources f → RecordingGaveUp leaves refuses sources log kept out f
      gave_up (Refused refusal) q = absurd q
      gave_up (File path) q = inl (q, log_still, kept_still, out_still)
      gave_up Memory q = (q, log_still, kept_still, out_still)
      gave_up Thread q = absurd q

  -- they leave no log
  pub unrecorded : {X : Type 0} (r : Result X Fault) (fault : Fault) (inputs : I) → IsErrAnd r (λ f. f ≡ fault) → sources.gave inputs → sources.well
      → log.untouched → kept.untouched → out.untouched → Unrun refuses inputs fault → Records leaves refuses sources log kept out r
  unrecorded r fault inputs is given well log_still kept_still out_still p = passed_on r fault is (gave_up fault p)
    where
      gave_up : (f : Fault) → Unrun refuses inputs f → RecordingGaveUp leaves refuses sources log kept out f
      gave_up (Refused refusal) q = (record { inputs = inputs; are_given = given; are_refused = q }, well, log_still, kept_still, out_still)
      gave_up (File path) q = absurd q
      gave_up Memory q = (well, log_still, kept_still, out_still)
      gave_up Thread q = (well, log_still, kept_still, out_still)

  -- what they leave was written, or a beginning of it
  pub all_written : {X : Type 0} (r : Result X Fault) (inputs : I) (log_bytes record_bytes text : List ℕ) → sources.gave inputs → sources.well
      → leaves inputs log_bytes record_bytes text → WritesAll log kept out log_bytes record_bytes text r → Records leaves refuses sources log kept out r
  all_written (Ok x) inputs log_bytes record_bytes text given well leave p = (
    record {
      inputs = inputs;
      log_bytes = log_bytes;
      record_bytes = record_bytes;
      text = text;
      are_given = given;
      is_run = leave;
      are_taken = (p.0, p.1, p.2);
    },
    well,
    p.3,
    p.4,
    p.5,
  )
  all_written (Err (Refused refusal)) inputs log_bytes record_bytes text given well leave p = absurd p
  all_written (Err (File path)) inputs log_bytes record_bytes text given well leave p = by p
    where
      by : AllUnwritten log kept out log_bytes record_bytes text (File path) → RecordingGaveUp leaves refuses sources log kept out (File path)
      by (inl first) = inr (inl (
        first.0,
        well,
        first.1,
        first.2,
        record {
          inputs = inputs;
          log_bytes = log_bytes;
          record_bytes = record_bytes;
          text = text;
          are_given = given;
          is_run = leave;
          are_taken = first.3;
        },
      ))
      by (inr (inl second)) = inr (inr (inl (
        second.0,
        well,
        second.1,
        second.2,
        record {
          inputs = inputs;
          log_bytes = log_bytes;
          record_bytes = record_bytes;
          text = text;
          are_given = given;
          is_run = leave;
          are_taken = (second.3, second.4);
        },
      )))
      by (inr (inr third)) = inr (inr (inr (
        third.0,
        well,
        third.1,
        third.2,
        record {
          inputs = inputs;
          log_bytes = log_bytes;
          record_bytes = record_bytes;
          text = text;
          are_given = given;
          is_run = leave;
          are_taken = (third.3, third.4, third.5);
        },
      )))
  all_written (Err Memory) inputs log_bytes record_bytes text given well leave p = (well, p.0, p.1, p.2)
  all_written (Err Thread) inputs log_bytes record_bytes text given well leave p = absurd p
