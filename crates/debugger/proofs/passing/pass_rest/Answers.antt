use Rattle.std.proofs.Common.{◌==◌, ℕ, sym, ap, subst, ◌∙◌}
use Rattle.std.specs.Prelude.{◌≢◌}
use Rattle.std.specs.List.{list_any}
use Rattle.hart_core.specs.declared.harts.Status.TheVariants.{Running}
use Rattle.multi_hart.specs.Run.{State, hart_at}
use Rattle.turn_log.specs.TurnLog.{LogState}
use Rattle.debugger.proofs.Passes.{at-once, rest-behind, rest-state, stops-inside}
use Rattle.debugger.proofs.passing.pass_rest.Goals as goal

pub returns-clause-passed : goal.returns-clause-passed
returns-clause-passed c = λ session watches count fits run some most is.
    let hart = c.args.hart in
    let place = c.args.place in
    let turns = c.args.turns in
    let once = at-once session c.args.log.now c.args.machine.now place hart count turns fits.same_log is run fits.state (c.requires.harts
    ∙ ap (λ (l : LogState). l.harts) fits.same_log) some most (λ two. c.requires.rests) in
    let rests = subst (λ (s : State). (hart_at s hart).status ≢ Running) fits.state c.requires.rests in
    let here = fits.state ∙ sym (rest-state session place hart count turns once rests) in
    let between = c.contains.ensures.value ∙ ap (list_any (λ mark. mark == c.pc.result)) fits.same_breaks
    ∙ ap (λ (pc : ℕ). list_any (λ mark. mark == pc) session.breaks) (c.pc.ensures ∙ ap (λ (s : State). (hart_at s hart).pc) fits.state) in
    let on_break = c.is_on_break-behind.ensures session fits.same_log fits.same_breaks here in
    record {
      some = some;
      between = λ k after before. stops-inside session place hart count turns k once after before ∙ sym between;
      behind = rest-behind session place hart count turns c.is_on_break-behind.result once rests on_break;
    }
