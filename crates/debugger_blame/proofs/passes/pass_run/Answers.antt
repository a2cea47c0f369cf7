use Rattle.std.proofs.Common.{◌∙◌, ◌<◌, ◌-◌, ◌++◌, List, [], ℕ, ap, append-nil, arith, length, refl, replicate, subst, sym}
use Rattle.std.specs.Prelude.{◌≢◌}
use Rattle.hart_core.specs.declared.harts.Status.TheVariants.{Running}
use Rattle.multi_hart.specs.Run.{State, hart_at, run, turn}
use Rattle.multi_hart.proofs.Resting.{run-append, run-same-more}
use Rattle.multi_hart.proofs.TurnByTurn.{shape-then}
use Rattle.debugger_blame.specs.LastWrites.{Blames}
use Rattle.debugger_blame.proofs.Passing.{length_added, quiet_turns, rest_added, run_added, shape_of, turn_added}
use Rattle.debugger_blame.proofs.passes.pass_run.Goals as goal

pub turns-init : goal.turns-init
turns-init c = record {
  few = omega arith;
  shape = record { text = refl; bytes = refl; harts = refl };
  state = refl;
  blames = λ begin done from place blames. subst (λ (ts : List ℕ). Blames begin ts c.args.address c.args.last) (sym (append-nil done)) blames;
}

pub returns-in_default : goal.returns-in_default
returns-in_default c =
    let start = c.args.machine.now in
    let now = c.turns.machine in
    let hart = c.args.hart_turns.hart in
    let count = c.args.hart_turns.count in
    let made = c.turns.made in
    let inv = c.turns.invariant in
    let below : hart < length now.harts = omega (arith, c.requires.there, inv.shape.harts) in
    let rests : (hart_at now hart).status ≢ Running = λ is. c.in_default.not-Running (c.status.ensures ∙ is) in
    record {
      state = c.run_same.ensures.state ∙ ap (λ (s : State). run s (replicate (count - made) hart)) inv.state
          ∙ sym (run-append start (replicate made hart) (replicate (count - made) hart)) ∙ ap (run start) (rest_added [] made count hart inv.few);
      blames = λ begin done from place blames. subst (λ (ts : List ℕ). Blames begin ts c.args.address c.turns.last) (rest_added done made count hart inv.few)
          (quiet_turns begin (done ++ replicate made hart) now hart c.args.address c.turns.last (count - made) (run_added start begin now done made hart
          inv.state from) below rests
          (inv.blames begin done from place blames));
    }

pub turns-preserved : goal.turns-preserved
turns-preserved c =
    let start = c.args.machine.now in
    let now = c.turns.machine in
    let hart = c.args.hart_turns.hart in
    let inv = c.turns.invariant in
    record {
      few = omega arith;
      shape = shape-then start now c.step-last.new.machine inv.shape (shape_of now c.step-last.new.machine hart c.step-last.ensures.state);
      state = c.step-last.ensures.state ∙ ap (λ (s : State). turn s hart) inv.state ∙ sym (run-same-more start hart c.turns.made);
      blames = λ begin done from place blames. turn_added begin done c.turns.made hart c.args.address c.step-last.result
          (c.step-last.ensures.blames begin (done ++ replicate c.turns.made hart) (run_added start begin now done c.turns.made hart inv.state from)
          (length_added done c.turns.made hart c.args.hart_turns.place place) (inv.blames begin done from place blames));
    }
