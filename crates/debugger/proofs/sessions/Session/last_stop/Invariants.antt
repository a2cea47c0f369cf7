use Rattle.std.proofs.Common.{◌≡◌, ◌≤◌, ◌-◌}
use Rattle.debugger.specs.Places.{moved}
use Rattle.debugger.specs.inner.Passing.{Latest}
use Rattle.debugger.proofs.sessions.Session.last_stop.Given as goal

abbrev pub invariant-loop-place : goal.invariant-loop-place
invariant-loop-place l = record {
  state : l.self.state ≡ moved l.fn.self.state l.place;
  steps : l.fn.self.steps ≤ l.self.steps;
  within : l.place ≤ l.last_place;
  latest : Latest l.fn.self.state l.fn.self.state.place l.place l.last;
}

abbrev pub decreases-loop-place : goal.decreases-loop-place
decreases-loop-place l = l.last_place - l.place
