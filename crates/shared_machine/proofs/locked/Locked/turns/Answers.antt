use Rattle.std.proofs.Common.{◌≡◌, ◌+◌, ◌-◌, ◌≤◌, replicate, rules, sym, ap, ◌∙◌, subst}
use Rattle.multi_hart.proofs.Resting.{run-append}
use Rattle.turn_log.specs.TurnLog.{IsLog, count_of, most_turns}
use Rattle.loader.specs.Loading.{machine_of}
use Rattle.shared_machine.specs.Log.{BeginsWith, after_turns, state_after, with_turns}
use Rattle.shared_machine.proofs.Batches.{begins-more, log-more, one-and-more}
use Rattle.shared_machine.proofs.locked.Locked.turns.Goals as goal

pub invariant_of-self-2 : goal.invariant_of-self-2
invariant_of-self-2 g c =
    let was = c.args.self.now in
    let hart = c.args.hart in
    let told = c.step_on-made.ensures in
    let made = c.step_on-made.result.made in
    let image = g.O.Origin.image in
    let harts = g.O.Origin.harts in
    let whole : c.push_more.new.log ≡ with_turns was.log hart made = c.push_more.ensures ∙ ap (λ log. with_turns log hart (made - 1)) c.in_ok-push.ensures.ok
    ∙ ap (λ ts. record { harts = was.log.harts; turns = ts }) (one-and-more was.log.turns hart made told.stretch.some) in
    let room : count_of was.log.turns hart + made ≤ most_turns = search rules in record {
      replays = told.state ∙ ap (λ s. after_turns s hart made) was.replays ∙ sym (run-append (machine_of image harts) was.log.turns (replicate made hart))
          ∙ sym (ap (λ log. state_after image harts log.turns) whole);
      same = ap (λ log. log.harts) whole ∙ was.same;
      all = told.shape.harts ∙ was.all;
      is_log = subst IsLog (sym whole) (log-more was.log hart made was.is_log (search rules) room);
      begins = subst (λ log. BeginsWith log.turns g.O.Origin.resumed) (sym whole) (begins-more g.O.Origin.resumed was.log.turns (replicate made hart)
          was.begins);
    }
