use Rattle.std.proofs.Common.{sym, ◌∙◌}
use Rattle.std.specs.Prelude.{◌≢◌}
use Rattle.hart_core.specs.declared.harts.Status.TheVariants.{Running}
use Rattle.multi_hart.specs.Run.{hart_at}
use Rattle.multi_hart.proofs.Resting.{turn-resting, outcome-resting}
use Rattle.multi_hart.proofs.machines.Machine.turn.Goals as goal

pub returns-in_default : goal.returns-in_default
returns-in_default c =
    let rests : (hart_at c.args.self.now c.args.hart).status ≢ Running = λ is. c.in_default.not-Running (c.status.ensures ∙ is) in
    record {
      state = sym (turn-resting c.args.self.now c.args.hart c.requires rests);
      outcome = sym (outcome-resting c.args.self.now c.args.hart c.requires rests);
    }
