-- A hart that isn't running makes no more steps.
use Rattle.std.proofs.Common.{◌≡◌, ℕ, zero, suc, ◌+◌, ◌-◌, ◌<◌, ◌≤◌, length, replicate, refl, sym, ap, ◌∙◌, arith, Option, Some, None}
use Rattle.std.specs.Prelude.{◌≢◌, slice_get}
use Rattle.hart_core.specs.declared.harts.Status.{Status}
use Rattle.hart_core.specs.declared.harts.Status.TheVariants.{Running, Finished, Trapped}
use Rattle.multi_hart.specs.Run.{State, turn, run, hart_at}
use Rattle.multi_hart.proofs.Resting.{run-stayed, turn-resting}
use Rattle.turn_log.specs.RunAt.{Stand}
use Rattle.loader.specs.Loading.{machine_of}
use Rattle.debugger.specs.Counts.{counted, counts_next, one_if_running, steps_from}
use Rattle.debugger.specs.Places.{SessionState, state_at}
use Rattle.debugger.specs.inner.Steps.{steps_of}
use Rattle.debugger.proofs.Places.{next-standing, run-standing}

resting-makes-none : (status : Status) → status ≢ Running → one_if_running status ≡ 0
resting-makes-none Running rests = absurd (rests refl)
resting-makes-none Finished rests = refl
resting-makes-none (Trapped trap) rests = refl

pub running-makes-one : (status : Status) → status ≡ Running → one_if_running status ≡ 1
running-makes-one status runs = ap one_if_running runs

stayed-by : (state : State) (hart made more : ℕ) → turn (run state (replicate made hart)) hart ≡ run state (replicate made hart)
    → (hart_at (run state (replicate made hart)) hart).status ≢ Running → steps_of state hart (more + made) ≡ steps_of state hart made
stayed-by state hart made zero stays rests = let e : 0 + made ≡ made = omega arith in ap (steps_of state hart) e
stayed-by state hart made (suc more) stays rests =
    let same = run-stayed state hart made (more + made) (omega arith) stays in
    let none = ap (λ (s : State). one_if_running (hart_at s hart).status) same ∙ resting-makes-none _ rests in
    let before = stayed-by state hart made more stays rests in
    let e : suc more + made ≡ suc (more + made) = omega arith in
    ap (steps_of state hart) e ∙ omega (arith, none, before)

pub steps-stayed : (state : State) (hart made turns : ℕ) → made ≤ turns → turn (run state (replicate made hart)) hart ≡ run state (replicate made hart)
    → (hart_at (run state (replicate made hart)) hart).status ≢ Running → steps_of state hart turns ≡ steps_of state hart made
steps-stayed state hart made turns within stays rests =
    let e : turns ≡ (turns - made) + made = omega arith in
    ap (steps_of state hart) e ∙ stayed-by state hart made (turns - made) stays rests

pub steps-more : (state : State) (hart n : ℕ) → steps_of state hart (n + 1) ≡ steps_of state hart n + one_if_running (hart_at (run state (replicate n hart))
    hart).status
steps-more state hart n = let e : n + 1 ≡ suc n = omega arith in ap (steps_of state hart) e

pub rest-steps : (state : State) (hart turns : ℕ) → hart < length state.harts → (hart_at state hart).status ≢ Running → steps_of state hart turns ≡ 0
rest-steps state hart turns below rests = steps-stayed state hart 0 turns (omega arith) (turn-resting state hart below rests) rests

-- ---- whose turns they are

abbrev hart_of : Option (ℕ × ℕ) → ℕ
hart_of None = 0
hart_of (Some turns) = turns.0

pub same_hart : (turns : Option (ℕ × ℕ)) (hart count other more : ℕ) → turns ≡ Some (hart, count) → turns ≡ Some (other, more) → hart ≡ other
same_hart turns hart count other more is found = ap hart_of (sym is ∙ found)

-- ---- turns of a log

-- turns of one hart that stand at a place are counted as those of the log there
pub steps-standing : (session : SessionState) (place hart count n : ℕ) → Stand session.log.turns place hart count → n ≤ count
    → steps_of (state_at session place) hart n ≡ steps_from session place n
steps-standing session place hart count zero stand within = refl
steps-standing session place hart count (suc n) stand within =
    let before = steps-standing session place hart count n stand (omega arith) in
    let state : state_at session (place + n) ≡ run (state_at session place) (replicate n hart) = run-standing (machine_of session.image session.log.harts)
    session.log.turns place hart count n stand (omega arith) in
    let next = ap (counts_next (state_at session (place + n))) (next-standing session.log.turns place hart count n stand (omega arith)) in
    let last = next ∙ ap (λ (s : State). one_if_running (hart_at s hart).status) state in
    omega (arith, before, last)

-- some turns and then some more
pub steps-on : (session : SessionState) (place n more : ℕ) → steps_from session place (n + more) ≡ steps_from session place n + steps_from session (place + n)
    more
steps-on session place n zero = let e : n + 0 ≡ n = omega arith in ap (steps_from session place) e ∙ omega arith
steps-on session place n (suc more) =
    let e : n + suc more ≡ suc (n + more) = omega arith in
    let f : place + (n + more) ≡ place + n + more = omega arith in
    let before = steps-on session place n more in
    let last = ap (λ (k : ℕ). counts_next (state_at session k) (slice_get session.log.turns k)) f in
    ap (steps_from session place) e ∙ omega (arith, before, last)

pub counted-on : (steps a b c : ℕ) → c ≡ a + b → counted (counted steps a) b ≡ counted steps c
counted-on steps a b c e = omega (arith, e)
