use Rattle.std.proofs.Common.{◌-◌, replicate, refl, ap, sym, subst, ◌∙◌, arith, true≢false}
use Rattle.std.specs.Prelude.{◌≢◌}
use Rattle.std.specs.Box.{boxed_slice_items}
use Rattle.hart_core.specs.declared.harts.Status.TheVariants.{Running}
use Rattle.multi_hart.specs.Run.{KeepsShape, hart_at}
use Rattle.multi_hart.proofs.Alone.{lent-run, lent-outcome}
use Rattle.multi_hart.proofs.TurnByTurn.{shape-run}
use Rattle.multi_hart.proofs.Resting.{turn-resting, outcome-resting}
use Rattle.multi_hart.proofs.Stepping.{has-stepped}
use Rattle.multi_hart.proofs.machines.Machine.step_on.Goals as goal

pub returns-in_default : goal.returns-in_default
returns-in_default c =
    let start = c.args.self.now in
    let hart = c.args.hart in
    let rests : (hart_at start hart).status ≢ Running = λ is. c.in_default.not-Running (c.status.ensures ∙ is) in
    record {
      state = sym (turn-resting start hart c.requires.there rests);
      stretch = record {
        some = omega arith;
        few = c.requires.some;
        steps = λ k below. absurd (omega (arith, below));
        last_is = sym (outcome-resting start hart c.requires.there rests);
        whole = λ is. absurd (true≢false (sym (ap has-stepped is)));
      };
      shape = record { text = refl; bytes = refl; harts = refl };
    }

pub returns : goal.returns
returns c =
    let start = c.args.self.now in
    let hart = c.args.hart in
    let harts = boxed_slice_items c.self.inside.harts in
    let one = c.index_mut-running.result.now in
    let made = c.run_alone.result.made in
    let same = lent-run made start hart c.self.inside.memory harts one c.self.view_is c.requires.there c.index_mut-running.ensures.value
    _ _ c.run_alone.ensures.state in
    let s = c.run_alone.ensures.stretch in
    record {
      state = same;
      stretch = record {
        some = s.some;
        few = s.few;
        steps = λ k below. sym (lent-outcome k start hart c.self.inside.memory harts one c.self.view_is c.requires.there c.index_mut-running.ensures.value)
            ∙ s.steps k below;
        last_is = s.last_is ∙ lent-outcome (made - 1) start hart c.self.inside.memory harts one c.self.view_is c.requires.there
            c.index_mut-running.ensures.value;
        whole = s.whole;
      };
      shape = subst (λ s. KeepsShape start s) (sym same) (shape-run start (replicate made hart));
    }
