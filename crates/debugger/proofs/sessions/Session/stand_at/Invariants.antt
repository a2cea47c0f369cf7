use Rattle.std.proofs.Common.{◌≡◌, ◌≤◌, ◌-◌}
use Rattle.debugger.specs.Places.{moved}
use Rattle.debugger.proofs.OnTheWay.{Walking}
use Rattle.debugger.proofs.sessions.Session.stand_at.Given as goal

abbrev pub invariant-loop-self : goal.invariant-loop-self
invariant-loop-self l = record {
  state : l.self.state ≡ moved l.fn.self.state l.self.state.place;
  within : l.self.state.place ≤ l.place;
  walked : Walking l.fn.self l.self l.place;
}

abbrev pub decreases-loop-self : goal.decreases-loop-self
decreases-loop-self l = l.place - l.self.state.place
