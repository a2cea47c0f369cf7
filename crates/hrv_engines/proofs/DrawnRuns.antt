-- A drawn run's log and dump.
use Rattle.std.proofs.Common.{◌≡◌, ◌≢◌, ◌+◌, ◌<◌, ◌≤◌, ℕ, Bool, true, false, true≢false, List, [], length, refl, sym, ap, ◌∙◌, subst, arith}
use Rattle.std.proofs.lemmas.Bool.{and_parts, leb-true}
use Rattle.std.specs.Prelude.{Ok, Option, nat_le}
use Rattle.memory.specs.Access.{most_bytes, most_words}
use Rattle.hart_core.specs.declared.harts.Status.{Status}
use Rattle.hart_core.specs.declared.harts.Status.TheVariants.{Running}
use Rattle.multi_hart.specs.Run.{State, hart_at, run}
use Rattle.multi_hart.proofs.TurnByTurn.{length-opening_harts, shape-run}
use Rattle.turn_log.specs.TurnLog.{LogState, IsLog, count_of, most_turns}
use Rattle.turn_log.specs.LogSpelling.{spelled}
use Rattle.drawn_runs.specs.Drawing.{RunsOut, drawn_run, is_running}
use Rattle.drawn_runs.specs.declared.drawing.DrawRules.{DrawRules}
use Rattle.loader.specs.Image.{ImageContents, IsImage}
use Rattle.loader.specs.Loading.{machine_of}
use Rattle.loader.specs.Spelling.{image_of}
use Rattle.loader.specs.declared.outputs.Output.{Output}
use Rattle.shared_machine.specs.Log.{state_after}
use Rattle.shared_machine.specs.Running.{IsRunOf}
use Rattle.hrv_engines.specs.Drawn.{IsDrawnRun, drawn_log}
use Rattle.hrv_engines.specs.Dump.{dumped}
use Rattle.hrv_engines.proofs.Runs.{run-is}

-- the machine at the end is the one that the log leads to
pub is-after : (image : ImageContents) (harts limit : ℕ) (old new : State) (log : LogState) → old ≡ machine_of image harts
    → RunsOut limit old [] new log.turns → new ≡ state_after image harts log.turns
is-after image harts limit old new log opened out =
    out.leave ∙ ap (λ (s : State). run s out.made) opened ∙ ap (run (machine_of image harts)) (sym out.are_after)

-- data after any turns are within the machine's limits
pub data-fits : (image : ImageContents) (harts : ℕ) (turns : List ℕ) (machine : State) → machine ≡ state_after image harts turns → IsImage image
    → length machine.memory ≤ most_bytes
data-fits image harts turns machine is rules =
    let bytes : length machine.memory ≡ length image.bytes =
    ap (λ (s : State). length s.memory) is ∙ (shape-run (machine_of image harts) turns).bytes in
    let few : length image.bytes ≤ most_bytes =
    leb-true (length image.bytes) most_bytes
    (and_parts (nat_le (length image.words) most_words) (nat_le (length image.bytes) most_bytes) rules.limits).1 in
    subst (λ (n : ℕ). n ≤ most_bytes) (sym bytes) few

-- a run whose turns are drawn is one that threads may make too
pub is-run-of : (image : ImageContents) (harts limit : ℕ) (old new : State) (log : LogState) → old ≡ machine_of image harts → log.harts ≡ harts
    → IsLog log → RunsOut limit old [] new log.turns → IsRunOf image harts [] limit log
is-run-of image harts limit old new log opened same is_log out = record {
  is_log = is_log;
  same = same;
  begins = refl;
  few = λ hart below. out.few hart;
  ends = λ hart below fewer most running.
      let all = ap (λ (s : State). length s.harts) opened in
      let many = length-opening_harts image.entry harts harts in
      let after = is-after image harts limit old new log opened out in
      let halted = out.end hart (omega (arith, all, many, below)) (omega (arith, fewer, most)) in
      true≢false (sym (ap (λ (s : State). is_running (hart_at s hart).status) after ∙ ap is_running running) ∙ halted);
}

pub drawn-is : (image : ImageContents) (harts : ℕ) (rules : DrawRules) (log_bytes text image_bytes : List ℕ) (log : LogState) (old new : State)
    (output : Option Output) → image_of image_bytes ≡ Ok image → old ≡ machine_of image harts → log.harts ≡ harts → IsLog log
    → RunsOut rules.limit old [] new log.turns → log.turns ≡ (drawn_run rules old []).turns → log_bytes ≡ spelled log → output ≡ image.output
    → text ≡ dumped new log.turns output → IsDrawnRun harts rules image_bytes log_bytes text
drawn-is image harts rules log_bytes text image_bytes log old new output is_image opened same is_log out drawn is_spelled is_output is_text = record {
  is_run = record {
    image = image;
    is_image = is_image;
    is_run = run-is image (record { harts = harts; turns = [] }) rules.limit log_bytes text log new output
        (is-after image harts rules.limit old new log opened out) (is-run-of image harts rules.limit old new log opened same is_log out) is_spelled is_output
        is_text image_bytes is_image;
  };
  is_drawn = is_spelled ∙ ap (λ (h : ℕ). spelled (record { harts = h; turns = log.turns })) same
      ∙ ap (λ (ts : List ℕ). spelled (record { harts = harts; turns = ts }))
      (drawn ∙ ap (λ (s : State). (drawn_run rules s []).turns) opened);
}
