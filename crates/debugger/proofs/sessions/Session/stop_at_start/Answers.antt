use Rattle.std.proofs.Common.{false, sym, ap, ◌∙◌}
use Rattle.debugger.specs.Places.{CountedSession, state_at, state_here}
use Rattle.debugger.proofs.Stopping.{stops-start}
use Rattle.debugger.proofs.sessions.Session.stop_at_start.Goals as goal

pub returns-else-is_on_break : goal.returns-else-is_on_break
returns-else-is_on_break c =
    let session = c.args.self.now.state in
    let here = c.self.invariant.state ∙ ap (λ (s : CountedSession). state_here s.state) c.self.view_is ∙ ap (state_at session) c.requires in
    let is = c.is_on_break.ensures session (ap (λ (s : CountedSession). s.state.log) c.self.view_is) (c.deref.ensures.value
    ∙ ap (λ (s : CountedSession). s.state.breaks) c.self.view_is) here in
    stops-start session false (sym c.if-is_on_break.false ∙ is)
