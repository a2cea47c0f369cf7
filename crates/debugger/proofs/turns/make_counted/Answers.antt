use Rattle.std.proofs.Common.{◌≡◌, ◌<◌, length, ap, sym, subst, ◌∙◌, arith}
use Rattle.std.specs.Prelude.{◌≢◌, map}
use Rattle.hart_core.specs.declared.harts.Status.TheVariants.{Running}
use Rattle.multi_hart.specs.Run.{State, turn, hart_at, KeepsShape}
use Rattle.multi_hart.proofs.TurnByTurn.{shape-then, shape-turn}
use Rattle.multi_hart.proofs.Resting.{turn-resting, run-stayed, run-same-more}
use Rattle.debugger_writes.specs.Stored.{store_in}
use Rattle.debugger_writes.proofs.Marking.{marks_then}
use Rattle.debugger.proofs.Counting.{running-makes-one, steps-more, steps-stayed}
use Rattle.debugger.proofs.turns.make_counted.Goals as goal

pub returns-in_default-clause-state : goal.returns-in_default-clause-state
returns-in_default-clause-state c =
    let state = c.loop-made.machine in
    let e = c.loop-made.invariant.state in
    let below : c.args.hart < length state.harts = omega (arith, c.loop-made.invariant.shape.harts) in
    let rests : (hart_at state c.args.hart).status ≢ Running = λ is. c.in_default.not-Running (c.status.ensures ∙ is) in
    let stays = subst (λ (s : State). turn s c.args.hart ≡ s) e (turn-resting state c.args.hart below rests) in
    e ∙ sym (run-stayed c.args.machine.now c.args.hart c.loop-made.made c.args.turns (omega arith) stays)

pub returns-in_default-clause-steps : goal.returns-in_default-clause-steps
returns-in_default-clause-steps c =
    let state = c.loop-made.machine in
    let e = c.loop-made.invariant.state in
    let below : c.args.hart < length state.harts = omega (arith, c.loop-made.invariant.shape.harts) in
    let rests : (hart_at state c.args.hart).status ≢ Running = λ is. c.in_default.not-Running (c.status.ensures ∙ is) in
    let stays = subst (λ (s : State). turn s c.args.hart ≡ s) e (turn-resting state c.args.hart below rests) in
    let halted = subst (λ (s : State). (hart_at s c.args.hart).status ≢ Running) e rests in
    c.loop-made.invariant.steps ∙ sym (steps-stayed c.args.machine.now c.args.hart c.loop-made.made c.args.turns (omega arith) stays halted)

pub turn_marking-told-requires-clause-meant : goal.turn_marking-told-requires-clause-meant
turn_marking-told-requires-clause-meant c = c.requires.meant ∙ ap (map store_in) (sym c.loop-made.invariant.shape.text)

pub loop-made-preserved : goal.loop-made-preserved
loop-made-preserved c =
    let start = c.args.machine.now in
    let hart = c.args.hart in
    let e = c.loop-made.invariant.state in
    let runs = ap (λ (s : State). (hart_at s hart).status) (sym e) ∙ sym c.status.ensures ∙ c.in-Running.is in
    let one = running-makes-one _ runs in
    let shape = subst (λ (s : State). KeepsShape c.loop-made.machine s) (sym c.turn_marking-told.ensures.state) (shape-turn c.loop-made.machine hart) in
    let so_far = c.loop-made.invariant.steps in
    record {
      state = c.turn_marking-told.ensures.state ∙ ap (λ (s : State). turn s hart) e ∙ sym (run-same-more start hart c.loop-made.made);
      steps = omega (arith, one, so_far, steps-more start hart c.loop-made.made);
      shape = shape-then start c.loop-made.machine _ c.loop-made.invariant.shape shape;
      marks = marks_then _ _ _ _ _ _ c.loop-made.invariant.marks c.turn_marking-told.ensures.marks;
    }
