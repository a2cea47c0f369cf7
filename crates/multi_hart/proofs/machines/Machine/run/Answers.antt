use Rattle.std.proofs.Common.{get_or, ap, ◌∙◌, sym, arith, subst, refl}
use Rattle.std.proofs.lemmas.Grind.{elements}
use Rattle.multi_hart.proofs.TurnByTurn.{run-more, shape-turn, shape-then}
use Rattle.multi_hart.specs.Run.{turn, KeepsShape}
use Rattle.multi_hart.proofs.machines.Machine.run.Goals as goal

pub loop-at-init : goal.loop-at-init
loop-at-init c = record {
  state = refl;
  known = grind (arith, elements);
  shape = record { text = refl; bytes = refl; harts = refl };
}

pub loop-at-preserved : goal.loop-at-preserved
loop-at-preserved c =
    let hart = get_or c.args.turns.now c.loop-at.at 0 in
    let one = subst (λ s. KeepsShape c.loop-at.self s) (sym c.turn.ensures.state) (shape-turn c.loop-at.self hart) in
    record {
      state = c.turn.ensures.state ∙ ap (λ s. turn s hart) c.loop-at.invariant.state
          ∙ sym (run-more c.args.self.now c.args.turns.now c.loop-at.at (omega arith));
      known = grind (arith, elements, c.loop-at.invariant.shape.harts);
      shape = shape-then c.args.self.now c.loop-at.self _ c.loop-at.invariant.shape one;
    }
