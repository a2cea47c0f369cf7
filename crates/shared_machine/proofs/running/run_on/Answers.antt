use Rattle.std.proofs.Common.{◌≡◌, sym, ap, ◌∙◌, subst}
use Rattle.turn_log.specs.TurnLog.{IsLog}
use Rattle.shared_machine.specs.Log.{state_after, with_turns}
use Rattle.shared_machine.specs.Running.{IsRunOf}
use Rattle.shared_machine.proofs.Alone.{turned-on}
use Rattle.shared_machine.proofs.running.run_on.Goals as goal

pub returns-in-Ok : goal.returns-in-Ok
returns-in-Ok g c =
    let image = g.O.Origin.image in
    let was = c.args.locked.now in
    let new = c.turns.new.self in
    let batch = c.in-Ok.field-0 in
    let told = c.in-Ok.ensures in
    let entered : new.log ≡ with_turns was.log 0 batch.made = told.log in
    subst (λ harts. IsRunOf image harts was.log.turns c.args.limit new.log) was.same
    (subst (λ log. IsRunOf image was.log.harts was.log.turns c.args.limit log) (sym entered)
    (turned-on image was.log c.args.limit (was.same ∙ c.requires) was.is_log was.machine batch.made batch.last
    (was.replays ∙ ap (λ harts. state_after image harts was.log.turns) (sym was.same)) (was.all ∙ sym was.same)
    told.made.0 told.made.1 told.last told.whole (subst IsLog entered new.is_log)))
