use Rattle.std.proofs.Common.{◌≡◌, ◌∙◌, ◌+◌, ◌-◌, ◌<◌, ◌==◌, ℕ, false, length, replicate, sym, ap, subst, arith}
use Rattle.std.specs.List.{list_any}
use Rattle.rv_insn.specs.declared.outcomes.Outcome.TheVariants.{Stepped}
use Rattle.hart_core.specs.declared.harts.Status.TheVariants.{Running}
use Rattle.multi_hart.specs.Run.{KeepsShape, State, hart_at, outcome, run, turn}
use Rattle.multi_hart.proofs.Resting.{run-same-more}
use Rattle.multi_hart.proofs.Stepping.{runs-after}
use Rattle.multi_hart.proofs.TurnByTurn.{shape-run, shape-then, shape-turn}
use Rattle.debugger_writes.proofs.Marking.{marks_then}
use Rattle.debugger.specs.Stops.{differs}
use Rattle.debugger.proofs.Counting.{running-makes-one, steps-more}
use Rattle.debugger.proofs.Passes.{quiet-more}
use Rattle.debugger.proofs.turns.make_until.Goals as goal

pub loop-turns-preserved : goal.loop-turns-preserved
loop-turns-preserved c =
    let start = c.args.machine.now in
    let hart = c.args.hart in
    let breaks = c.args.marks.now.breaks.now in
    let watches = c.args.marks.now.watches.now in
    let turns = c.loop-turns.turns in
    let old = c.loop-turns.machine in
    let new = c.turn_watched-told-in-loop-turns.new.machine in
    let state = c.loop-turns.invariant.state in
    let none = c.goes_on.ensures.quiet c.if-goes_on.true in
    let last : turns ≡ turns + 1 - 1 = omega arith in
    let on : list_any (λ mark. mark == (hart_at (run start (replicate turns hart)) hart).pc) breaks ≡ false =
    ap (λ (s : State). list_any (λ mark. mark == (hart_at s hart).pc) breaks) (sym state)
    ∙ ap (λ (pc : ℕ). list_any (λ mark. mark == pc) breaks) (sym c.pc.ensures) ∙ none.1 in
    let changed : list_any (differs (run start (replicate (turns - 1) hart)) (run start (replicate turns hart))) watches ≡ false =
    ap (λ (s : State). list_any (differs (run start (replicate (turns - 1) hart)) s) watches) (sym state) ∙ sym c.loop-turns.invariant.changed ∙ none.0 in
    let before = run start (replicate (turns - 1) hart) in
    let there = (shape-run start (replicate (turns - 1) hart)).harts in
    let below : hart < length before.harts = omega (arith, there, c.requires.there) in
    let stepped : outcome before hart ≡ Stepped = sym c.loop-turns.invariant.told ∙ c.goes_on.ensures.stepped c.if-goes_on.true in
    let some = c.loop-turns.invariant.some in
    let as_many : turns - 1 + 1 ≡ turns = omega arith in
    let turned : turn before hart ≡ run start (replicate turns hart) = sym (run-same-more start hart (turns - 1))
    ∙ ap (λ (n : ℕ). run start (replicate n hart)) as_many in
    let runs : (hart_at (run start (replicate turns hart)) hart).status ≡ Running =
    subst (λ (s : State). (hart_at s hart).status ≡ Running) turned (runs-after before hart below c.loop-turns.invariant.runs stepped) in
    let one = running-makes-one _ runs in
    let so_far = c.loop-turns.invariant.steps in
    let shape = subst (λ (s : State). KeepsShape old s) (sym c.turn_watched-told-in-loop-turns.ensures.state) (shape-turn old hart) in
    record {
      state = c.turn_watched-told-in-loop-turns.ensures.state ∙ ap (λ (s : State). turn s hart) state ∙ sym (run-same-more start hart turns);
      some = omega arith;
      runs = subst (λ (n : ℕ). (hart_at (run start (replicate n hart)) hart).status ≡ Running) last runs;
      told = c.turn_watched-told-in-loop-turns.ensures.outcome ∙ ap (λ (s : State). outcome s hart) (state ∙ ap (λ (n : ℕ). run start (replicate n hart)) last);
      steps = steps-more start hart turns ∙ omega (arith, one, so_far);
      few = omega (arith, c.loop-turns-test.true);
      quiet = quiet-more start hart breaks watches turns c.loop-turns.invariant.quiet on changed;
      changed = c.turn_watched-told-in-loop-turns.ensures.changed ∙ ap (λ (s : State). list_any (differs s new) watches) (state
          ∙ ap (λ (n : ℕ). run start (replicate n hart)) last);
      shape = shape-then start old new c.loop-turns.invariant.shape shape;
      marks = marks_then _ _ _ _ _ _ c.loop-turns.invariant.marks c.turn_watched-told-in-loop-turns.ensures.marks;
    }
