use Rattle.std.proofs.Common.{◌≡◌, ℕ, ◌<◌, ◌≤◌, ◌-◌, false}
use Rattle.debugger.specs.Places.{moved}
use Rattle.debugger.specs.Stops.{stops}
use Rattle.debugger.proofs.sessions.Session.next_stop.Given as goal

abbrev pub invariant-loop-place : goal.invariant-loop-place
invariant-loop-place l = record {
  state : l.self.state ≡ moved l.fn.self.state l.place;
  steps : l.fn.self.steps ≤ l.self.steps;
  from : l.fn.self.state.place ≤ l.place;
  within : l.place ≤ l.end;
  none : (k : ℕ) → l.fn.self.state.place < k → k ≤ l.place → stops l.fn.self.state k ≡ false;
}

abbrev pub decreases-loop-place : goal.decreases-loop-place
decreases-loop-place l = l.end - l.place
