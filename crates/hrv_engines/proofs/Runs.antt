-- A run's log and dump.
use Rattle.std.proofs.Common.{◌≡◌, ℕ, List, sym, ap, ◌∙◌, subst}
use Rattle.std.specs.Prelude.{Err, IsErrAnd, IsTrue, Ok, Option, Result, length}
use Rattle.multi_hart.specs.Run.{State, run}
use Rattle.multi_hart.proofs.TurnByTurn.{shape-run}
use Rattle.turn_log.specs.TurnLog.{LogState}
use Rattle.turn_log.specs.LogSpelling.{log_of, spelled}
use Rattle.turn_log.proofs.LogLaws.{all_again}
use Rattle.loader.specs.Image.{ImageContents, IsImage, is_output_or_none}
use Rattle.loader.specs.Loading.{machine_of}
use Rattle.loader.specs.Spelling.{image_of}
use Rattle.loader.specs.declared.outputs.Output.{Output}
use Rattle.shared_machine.specs.Log.{state_after}
use Rattle.shared_machine.specs.Running.{IsRunOf}
use Rattle.hrv_engines.specs.Dump.{dumped}
use Rattle.hrv_engines.specs.Replay.{answer, dump_of, replayed, with_image, with_log}
use Rattle.hrv_engines.specs.Run.{IsRunFrom, RunGaveUp, Runs, Unrun}
use Rattle.hrv_engines.specs.Devices.{Sources, Taken}
use Rattle.hrv_engines.specs.declared.faults.Refusal.{Refusal}
use Rattle.hrv_engines.specs.declared.faults.Fault.{Fault}
use Rattle.hrv_engines.specs.declared.faults.Fault.TheVariants.{Refused, File, Memory, Thread}

-- the output of an image lies in the machine's data after any turns
pub output-fits : (image : ImageContents) (harts : ℕ) (turns : List ℕ) (machine : State) (output : Option Output) → machine ≡ state_after image harts turns
    → output ≡ image.output
    → IsImage image → IsTrue (is_output_or_none (length machine.memory) output)
output-fits image harts turns machine output is out rules =
    let bytes : length machine.memory ≡ length image.bytes = ap (λ s. length s.memory) is ∙ (shape-run (machine_of image harts) turns).bytes in
    subst (λ n. IsTrue (is_output_or_none n output)) (sym bytes) (subst (λ o. IsTrue (is_output_or_none (length image.bytes) o)) (sym out) rules.output)

-- the bytes of an image and of a log of its turns, and the dump after them
pub run-is : (image : ImageContents) (old : LogState) (limit : ℕ) (log_bytes text : List ℕ) (log : LogState) (machine : State) (output : Option Output)
    → machine ≡ state_after image old.harts log.turns → IsRunOf image old.harts old.turns limit log → log_bytes ≡ spelled log
    → output ≡ image.output → text ≡ dumped machine log.turns output
    → (image_bytes : List ℕ) → image_of image_bytes ≡ Ok image → IsRunFrom image image_bytes old limit log_bytes text
unfolding answer
run-is image old limit log_bytes text log machine output is_machine is_run is_spelled is_output is_text image_bytes is_image =
    let state : machine ≡ replayed image log = is_machine ∙ ap (λ n. run (machine_of image n) log.turns) (sym is_run.same) in
    let dump : text ≡ dump_of image log = is_text ∙ ap (λ s. dumped s log.turns output) state ∙ ap (dumped (replayed image log) log.turns) is_output in
    record {
      log = log;
      is_run = is_run;
      is_spelled = is_spelled;
      is_replay = ap (λ found. with_image found log_bytes) is_image ∙ ap (with_log image) (ap log_of is_spelled ∙ all_again log is_run.is_log)
          ∙ ap (λ t. Ok t) (sym dump);
    }

-- inputs that leave no log: nothing was written
pub unrun : {I X : Type 0} (leaves : I → List ℕ → List ℕ → Type 0) (refuses : I → Refusal → Type 0) (sources : Sources I) (log out : Taken)
    (r : Result X Fault) (fault : Fault) (inputs : I) → IsErrAnd r (λ f. f ≡ fault) → sources.gave inputs → sources.well → log.untouched → out.untouched
    → Unrun refuses inputs fault → Runs leaves refuses sources log out r
unrun {I} leaves refuses sources log out r fault inputs is given well log_still out_still p = go r is
  where
    gave_up : (f : Fault) → Unrun refuses inputs f → RunGaveUp leaves refuses sources log out f
    gave_up (Refused refusal) q = (record { inputs = inputs; are_given = given; are_refused = q }, well, log_still, out_still)
    gave_up (File path) q = absurd q
    gave_up Memory q = (well, log_still, out_still)
    gave_up Thread q = (well, log_still, out_still)

    go : {X : Type 0} (r : Result X Fault) → IsErrAnd r (λ f. f ≡ fault) → Runs leaves refuses sources log out r
    go (Ok x) is = absurd is
    go (Err f) is = subst (RunGaveUp leaves refuses sources log out) (sym is) (gave_up fault p)
