use Rattle.std.proofs.Common.{◌∙◌, ◌<◌, ◌-◌, ◌++◌, List, [], ℕ, ap, arith, length, replicate, subst, sym}
use Rattle.std.specs.Prelude.{◌≢◌}
use Rattle.hart_core.specs.declared.harts.Status.TheVariants.{Running}
use Rattle.multi_hart.specs.Run.{State, hart_at, run}
use Rattle.multi_hart.proofs.Resting.{run-append}
use Rattle.debugger_blame.specs.Marks.{AreMarks}
use Rattle.debugger_blame.proofs.MarksMade.{more_made, rests_marked}
use Rattle.debugger_blame.proofs.Passing.{rest_added, run_added}
use Rattle.debugger_blame.proofs.marks.mark_run.Goals as goal

pub returns-in_default : goal.returns-in_default
returns-in_default c =
    let start = c.args.machine.now in
    let now = c.turns.machine in
    let hart = c.args.hart_turns.hart in
    let count = c.args.hart_turns.count in
    let made = c.turns.made in
    let inv = c.turns.invariant in
    let marking = c.args.range.marking in
    let first = c.args.range.first in
    let marks = c.turns.marks in
    let below : hart < length now.harts = omega (arith, c.requires.there, inv.shape.harts) in
    let rests : (hart_at now hart).status ≢ Running = λ is. c.in_default.not-Running (c.status.ensures ∙ is) in
    record {
      state = c.run_same.ensures.state ∙ ap (λ (s : State). run s (replicate (count - made) hart)) inv.state
          ∙ sym (run-append start (replicate made hart) (replicate (count - made) hart)) ∙ ap (run start) (rest_added [] made count hart inv.few);
      marks = λ begin done from place are. subst (λ (ts : List ℕ). AreMarks marking first begin ts marks) (rest_added done made count hart inv.few)
          (rests_marked marking first begin (done ++ replicate made hart) now hart (count - made) marks (run_added start begin now done made hart inv.state
          from) below rests
          (inv.marks begin done from place are));
    }

pub turns-preserved : goal.turns-preserved
turns-preserved c =
    more_made c.args.machine.now c.turns.machine c.mark_some-made.new.machine c.args.hart_turns.hart c.args.hart_turns.place c.turns.made c.mark_some-made.result
    c.args.hart_turns.count
    c.args.range.marking c.args.range.first c.args.marks.now c.turns.marks c.mark_some-made.new.marks c.turns.invariant
    (omega (arith, c.mark_some-made.ensures.within, c.turns.invariant.few))
    c.mark_some-made.ensures.state c.mark_some-made.ensures.shape c.mark_some-made.ensures.marks
