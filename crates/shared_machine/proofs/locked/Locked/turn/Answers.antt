use Rattle.std.proofs.Common.{[], ◌∷◌, length, rules, sym, ap, ◌∙◌, subst}
use Rattle.multi_hart.specs.Run.{turn}
use Rattle.multi_hart.proofs.TurnByTurn.{run-push, length-turn}
use Rattle.turn_log.specs.TurnLog.{IsLog}
use Rattle.loader.specs.Loading.{machine_of}
use Rattle.shared_machine.specs.Log.{BeginsWith, state_after}
use Rattle.shared_machine.proofs.Pushing.{log-push}
use Rattle.shared_machine.proofs.Batches.{begins-more}
use Rattle.shared_machine.proofs.locked.Locked.turn.Goals as goal

pub invariant_of-self-2 : goal.invariant_of-self-2
invariant_of-self-2 g c =
    let was = c.args.self.now in
    let pushed = c.in_ok-push.ensures.ok in record {
      replays = c.turn.ensures.state ∙ ap (λ s. turn s c.args.hart) was.replays
          ∙ sym (run-push (machine_of g.O.Origin.image g.O.Origin.harts) was.log.turns c.args.hart)
          ∙ sym (ap (λ log. state_after g.O.Origin.image g.O.Origin.harts log.turns) pushed);
      same = ap (λ log. log.harts) pushed ∙ was.same;
      all = ap (λ s. length s.harts) c.turn.ensures.state ∙ length-turn was.machine c.args.hart ∙ was.all;
      is_log = subst IsLog (sym pushed) (log-push was.log c.args.hart was.is_log (search rules) (search rules));
      begins = subst (λ log. BeginsWith log.turns g.O.Origin.resumed) (sym pushed) (begins-more g.O.Origin.resumed was.log.turns (c.args.hart ∷ []) was.begins);
    }
