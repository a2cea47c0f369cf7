use Rattle.std.proofs.Common.{◌≡◌, ◌<◌, ◌≤◌, ◌+◌, ◌-◌, ℕ, replicate, ap, sym, subst, ◌∙◌, arith}
use mathlib.Core.Logic.{dite}
use native.Mathlib.Decide.{ℕ_discrete}
use Rattle.hart_core.specs.declared.harts.Status.TheVariants.{Running}
use Rattle.rv_insn.specs.declared.outcomes.Outcome.TheVariants.{Stepped}
use Rattle.multi_hart.specs.Run.{State, turn, outcome, run, hart_at}
use Rattle.multi_hart.specs.TurnsInARow.{StepsOn, AreTurnsMade}
use Rattle.multi_hart.specs.inner.Alone.{alone}
use Rattle.multi_hart.proofs.Resting.{run-same-more}
use Rattle.multi_hart.proofs.Stepping.{runs-after}
use Rattle.multi_hart.proofs.machines.run_down.Goals as goal

-- one turn more than this many
more : (start : State) (before made : ℕ) → before + 1 ≡ made → turn (run start (replicate before 0)) 0 ≡ run start (replicate made 0)
more start before made one = sym (run-same-more start 0 before) ∙ ap (λ (n : ℕ). run start (replicate n 0)) one

-- all step of which the last does
steps-more : (start : State) (before made : ℕ) → before + 1 ≡ made → StepsOn start 0 before → outcome (run start (replicate before 0)) 0 ≡ Stepped
    → StepsOn start 0 made
steps-more start before made one steps here k below = dite (ℕ_discrete k before) (λ e. ap (λ (n : ℕ). outcome (run start (replicate n 0)) 0) e ∙ here)
    (λ n. steps k (omega (arith, below, n, one)))

pub returns-in-Err : goal.returns-in-Err
returns-in-Err c =
    let start = alone c.args.memory.now c.args.hart.now in
    let i = c.loop-next.invariant in
    let left = c.loop-next.left in
    let most = c.args.most in
    let back : most - left ≡ most - (left - 1) - 1 = omega (arith, i.some, i.few) in
    record {
      within = (i.some, i.few);
      state = c.step_meant.ensures.state ∙ ap (λ s. turn s 0) i.state ∙ more start (most - left) (most - (left - 1)) (omega (arith, i.some, i.few));
      text = c.step_meant.ensures.text ∙ i.text;
      stretch = record {
        some = omega (arith, i.some, i.few);
        few = omega arith;
        steps = subst (StepsOn start 0) back i.steps;
        last_is = c.in-Err.ensures.outcome ∙ ap (λ s. outcome s 0) i.state ∙ ap (λ (n : ℕ). outcome (run start (replicate n 0)) 0) back;
        whole = λ is. absurd (c.in-Err.ensures.ended is);
      };
    }

pub returns-then-left-eq0 : goal.returns-then-left-eq0
returns-then-left-eq0 c =
    let start = alone c.args.memory.now c.args.hart.now in
    let i = c.loop-next.invariant in
    let left = c.loop-next.left in
    let most = c.args.most in
    let last : left ≡ 1 = omega (arith, i.some, c.if-left-eq0.true) in
    let one : most - left + 1 ≡ most - 0 = omega (arith, i.few, last) in
    let back : most - left ≡ most - 0 - 1 = omega (arith, last) in
    let some : 1 ≤ most - 0 = omega (arith, i.some, i.few) in
    let few : most - 0 ≤ most = omega arith in
    let whole : most - 0 ≡ most = omega arith in
    let stretch : AreTurnsMade start 0 most (most - 0) Stepped = record {
      some = some;
      few = few;
      steps = subst (StepsOn start 0) back i.steps;
      last_is = sym c.in-Ok.ensures.stepped ∙ ap (λ s. outcome s 0) i.state ∙ ap (λ (n : ℕ). outcome (run start (replicate n 0)) 0) back;
      whole = λ is. whole;
    } in
    record {
      within = (omega arith, omega (arith, i.some, i.few));
      state = c.step_meant.ensures.state ∙ ap (λ s. turn s 0) i.state ∙ more start (most - left) (most - 0) one;
      text = c.step_meant.ensures.text ∙ i.text;
      stretch = stretch;
    }

pub loop-next-preserved : goal.loop-next-preserved
loop-next-preserved c =
    let start = alone c.args.memory.now c.args.hart.now in
    let state = alone c.loop-next.memory c.loop-next.hart in
    let i = c.loop-next.invariant in
    let left = c.loop-next.left in
    let most = c.args.most in
    let one : most - left + 1 ≡ most - (left - 1) = omega (arith, i.some, i.few) in
    let stepped = c.in-Ok.ensures.stepped in
    record {
      some = omega (arith, i.some, c.if-left-eq0.false);
      few = omega (arith, i.few);
      state = c.step_meant.ensures.state ∙ ap (λ s. turn s 0) i.state ∙ more start (most - left) (most - (left - 1)) one;
      text = c.step_meant.ensures.text ∙ i.text;
      runs = subst (λ s. (hart_at s 0).status ≡ Running) (sym c.step_meant.ensures.state) (runs-after state 0 (omega arith) i.runs stepped);
      pc = c.in-Ok.ensures.next;
      steps = steps-more start (most - left) (most - (left - 1)) one i.steps (sym (ap (λ s. outcome s 0) i.state) ∙ stepped);
    }
