use Rattle.std.proofs.Common.{◌≡◌, ℕ, ◌<◌, ◌≤◌, false}
use Rattle.debugger.specs.Places.{moved}
use Rattle.debugger.specs.Stops.{stops}
use Rattle.debugger.proofs.sessions.Session.previous_stop.Given as goal

abbrev pub invariant-loop-last_place : goal.invariant-loop-last_place
invariant-loop-last_place l = record {
  state : l.self.state ≡ moved l.fn.self.state l.self.state.place;
  steps : l.fn.self.steps ≤ l.self.steps;
  before : l.last_place < l.fn.self.state.place;
  none : (k : ℕ) → l.last_place < k → k < l.fn.self.state.place → stops l.fn.self.state k ≡ false;
}

abbrev pub decreases-loop-last_place : goal.decreases-loop-last_place
decreases-loop-last_place l = l.last_place
