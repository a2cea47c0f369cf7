-- How many turns a session makes one by one: a hart that has stopped passes the rest of its turns at once, and these are none.
-- This project's own.
use Rattle.std.specs.Prelude.{◌≡◌, ℕ, zero, suc, ◌+◌, ◌-◌, ◌<◌, ◌≤◌, ◌==◌, false, List, replicate}
use Rattle.std.specs.List.{list_any}
use Rattle.multi_hart.specs.Run.{State, run, hart_at}
use Rattle.debugger.specs.Counts.{one_if_running}
use Rattle.debugger.specs.Stops.{differs}

-- of this many turns of a hart one after the other, those in which it runs
abbrev pub steps_of : State → ℕ → ℕ → ℕ
steps_of state hart zero = 0
steps_of state hart (suc n) = steps_of state hart n + one_if_running (hart_at (run state (replicate n hart)) hart).status

-- of this many turns of a hart the hart is on no break after each but the last, and no watched word is changed by any but the last
pub record IsQuietUntil (state : State) (hart : ℕ) (breaks watches : List ℕ) (turns : ℕ) : Type 0 where
  pub on_none : (k : ℕ) → 1 ≤ k → k < turns → list_any (λ mark. mark == (hart_at (run state (replicate k hart)) hart).pc) breaks ≡ false
  pub changes_none : (k : ℕ) → 1 ≤ k → k < turns → list_any (differs (run state (replicate (k - 1) hart)) (run state (replicate k hart))) watches ≡ false
