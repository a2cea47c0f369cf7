-- Where a hart is while it makes turns of words that are executed one after the other, and what these add to its counts.
use Rattle.std.proofs.Common.{◌≡◌, ◌≢◌, ◌∙◌, ◌+◌, ◌-◌, ◌*◌, ◌/◌, ◌%◌, ◌^◌, ◌<◌, ◌≤◌, ◌||◌, ℕ, zero, suc, true, false, refl, sym, ap, arith, List, length}
use Rattle.std.proofs.Common.{replicate, None, inl, inr, nat_lt, if◌then◌else◌}
use Rattle.std.specs.Prelude.{◌==◌, ◌&&◌, not, option_and_then, slice_get, slice_index}
use Rattle.std.proofs.lemmas.Bool.{cases_eq, eq-eqb, le-ltb, ne_eqb}
use Rattle.std.proofs.lemmas.List.{get_or-set_same}
use Rattle.rv_insn.specs.declared.outcomes.Outcome.TheVariants.{Stepped}
use Rattle.rv_encoding.specs.Decoding.{decoded}
use Rattle.memory.specs.Access.{fetched, most_words, text_start}
use Rattle.hart_core.specs.HartState.{HartState, next_pc, opening_hart}
use Rattle.hart_core.specs.Turn.{made, next_of, step}
use Rattle.hart_core.specs.declared.harts.Status.TheVariants.{Running}
use Rattle.multi_hart.specs.Run.{State, hart_at, outcome, run, turn, turned}
use Rattle.multi_hart.specs.TurnsInARow.{StepsOn}
use Rattle.multi_hart.proofs.Resting.{run-same-more, there}
use Rattle.multi_hart.proofs.Stepping.{runs-after}
use Rattle.multi_hart.proofs.TurnByTurn.{shape-run}
use Rattle.run_reports.specs.Profile.{idle_turns, is_idle, is_made, is_made_at, is_running, runs, turns_at, turns_made}
use Rattle.run_reports.specs.inner.Counting.{AreAdded, AreRaised}
use Rattle.run_reports.specs.inner.Straight.{AreStraight, some_goes_on}
use Rattle.run_reports.proofs.Counting.{between, bit, where-all, where-between, where-none}
use Rattle.run_reports.proofs.Straight.{by_status}

pc_after : (state : State) (hart : ℕ) → hart < length state.harts → outcome state hart ≡ Stepped
    → some_goes_on (option_and_then decoded (fetched state.text (hart_at state hart).pc)) ≡ true
    → (hart_at (turn state hart) hart).pc ≡ next_pc (hart_at state hart)
pc_after state hart below stepped goes =
    let one = hart_at state hart in
    let is = there state hart below in
    let next = next_of state.text (length state.memory) one in
    let came : (made state.text state.memory one next).outcome ≡ Stepped = rw (is) at stepped in
    let behind : hart_at (turn state hart) hart ≡ (step state.text state.memory one).hart =
    ap (λ s. hart_at s hart) (ap (turned state hart) is) ∙ get_or-set_same state.harts hart (step state.text state.memory one).hart (opening_hart 0 0 0)
    below in
    ap (λ (h : HartState). h.pc) behind ∙ by_status state.text state.memory one one.status (fetched state.text one.pc) goes came

fetched_at : (text : List ℕ) (place : ℕ) → fetched text (text_start + 4 * place) ≡ slice_get text place
fetched_at text place =
    let pc : ℕ = text_start + 4 * place in
    let above : nat_lt pc text_start ≡ false = le-ltb pc text_start (omega arith) in
    let even : nat_lt 0 (pc % 4) ≡ false = le-ltb 0 (pc % 4) (omega arith) in
    let at_place : (pc - text_start) / 4 ≡ place = omega arith in
    ap (λ b. if b || nat_lt 0 (pc % 4) then None else slice_get text ((pc - text_start) / 4)) above
    ∙ ap (λ b. if b then None else slice_get text ((pc - text_start) / 4)) even
    ∙ ap (slice_get text) at_place

wrapped : (place : ℕ) → place < most_words → (text_start + 4 * place + 4) % 2 ^ 32 ≡ text_start + 4 * (place + 1)
wrapped place few = omega (arith, few)

-- what is known where turns of a hart were made over such words
pub record IsWay (state : State) (hart place count made : ℕ) : Type 0 where
  pub below : hart < length state.harts
  pub few : length state.text ≤ most_words
  pub runs : (hart_at state hart).status ≡ Running
  pub stands : (hart_at state hart).pc ≡ text_start + 4 * place
  pub straight : AreStraight state.text place count
  pub within : made ≤ count
  pub steps : StepsOn state hart (made - 1)

-- a hart runs before each of turns of which all but the last step
pub runs_then : (state : State) (hart made : ℕ) → hart < length state.harts → (hart_at state hart).status ≡ Running → StepsOn state hart (made - 1)
    → (k : ℕ) → k < made → (hart_at (run state (replicate k hart)) hart).status ≡ Running
runs_then state hart made below is steps zero few = is
runs_then state hart made below is steps (suc k) few =
    let now = run state (replicate k hart) in
    let shape = shape-run state (replicate k hart) in
    let one : suc k ≡ k + 1 = omega arith in
    ap (λ n. (hart_at (run state (replicate n hart)) hart).status) one
    ∙ ap (λ (s : State). (hart_at s hart).status) (run-same-more state hart k)
    ∙ runs-after now hart (omega (arith, shape.harts, below)) (runs_then state hart made below is steps k (omega (arith, few)))
    (steps k (omega (arith, few)))

fetched_then : (state : State) (hart place k : ℕ) → (hart_at (run state (replicate k hart)) hart).pc ≡ text_start + 4 * place
    → fetched (run state (replicate k hart)).text (hart_at (run state (replicate k hart)) hart).pc ≡ slice_get state.text place
fetched_then state hart place k stands =
    let shape = shape-run state (replicate k hart) in
    ap (λ t. fetched t (hart_at (run state (replicate k hart)) hart).pc) shape.text ∙ ap (fetched state.text) stands ∙ fetched_at state.text place

stands_then : (state : State) (hart place count made : ℕ) → (way : IsWay state hart place count made) → (k : ℕ) → k < made
    → (hart_at (run state (replicate k hart)) hart).pc ≡ text_start + 4 * (place + k)
stands_then state hart place count made way zero below =
    let same : text_start + 4 * place ≡ text_start + 4 * (place + 0) = omega arith in
    way.stands ∙ same
stands_then state hart place count made way (suc k) below =
    let now = run state (replicate k hart) in
    let before = stands_then state hart place count made way k (omega (arith, below)) in
    let goes = ap (λ w. some_goes_on (option_and_then decoded w)) (fetched_then state hart (place + k) k before)
    ∙ way.straight.go_on k (omega (arith, below, way.within)) in
    let shape = shape-run state (replicate k hart) in
    let next = pc_after now hart (omega (arith, shape.harts, way.below)) (way.steps k (omega (arith, below))) goes in
    let one : suc k ≡ k + 1 = omega arith in
    let within = way.straight.there k (omega (arith, below, way.within)) in
    let last : text_start + 4 * (place + k + 1) ≡ text_start + 4 * (place + suc k) = omega arith in
    ap (λ n. (hart_at (run state (replicate n hart)) hart).pc) one
    ∙ ap (λ (s : State). (hart_at s hart).pc) (run-same-more state hart k)
    ∙ next ∙ ap (λ pc. (pc + 4) % 2 ^ 32) before ∙ wrapped (place + k) (omega (arith, within, way.few)) ∙ last

-- ---- counts

same-place : (a b : ℕ) → (text_start + 4 * a == text_start + 4 * b) ≡ (a == b)
same-place a b = elim (cases_eq a b) [
  | inl same ↦ eq-eqb (text_start + 4 * a) (text_start + 4 * b) (ap (λ n. text_start + 4 * n) same) ∙ sym (eq-eqb a b same)
  | inr differ ↦ ne_eqb (text_start + 4 * a) (text_start + 4 * b) (λ e. differ (omega (arith, e))) ∙ sym (ne_eqb a b differ)
]

-- the turn of a hart that runs is one that it makes
made-here : (state : State) (hart : ℕ) → (hart_at state hart).status ≡ Running → is_made hart state hart ≡ true
made-here state hart is = ap (λ b. b && runs state hart) (eq-eqb hart hart refl) ∙ ap is_running is

at-here : (state : State) (hart address : ℕ) → (hart_at state hart).status ≡ Running → is_made_at hart address state hart ≡ ((hart_at state hart).pc == address)
at-here state hart address is = ap (λ b. b && (hart_at state hart).pc == address) (made-here state hart is)

pub made-all : (state : State) (hart n : ℕ) → ((k : ℕ) → k < n → (hart_at (run state (replicate k hart)) hart).status ≡ Running)
    → turns_made hart state (replicate n hart) ≡ n
made-all state hart n run_on = where-all (is_made hart) hart n state (λ k below. made-here (run state (replicate k hart)) hart (run_on k below))

pub idle-none : (state : State) (hart n : ℕ) → ((k : ℕ) → k < n → (hart_at (run state (replicate k hart)) hart).status ≡ Running)
    → idle_turns hart state (replicate n hart) ≡ 0
idle-none state hart n run_on = where-none (is_idle hart) hart n state (λ k below.
    (let now = run state (replicate k hart) in
    ap (λ b. b && not (runs now hart)) (eq-eqb hart hart refl) ∙ ap (λ status. not (is_running status)) (run_on k below)))

-- turns over such words count one at each word
pub way_added : (state : State) (hart place count made : ℕ) (old new : List ℕ) → IsWay state hart place count made → AreRaised place made old new
    → AreAdded hart state (replicate made hart) old new
way_added state hart place count made old new way raised = record {
  as_many = raised.as_many;
  each = λ k below. raised.each k below ∙ ap (λ n. slice_index old k + n) (sym (at_each k));
}
  where
    at_each : (other : ℕ) → turns_at hart (text_start + 4 * other) state (replicate made hart) ≡ bit (between place made other)
    at_each other = where-between (is_made_at hart (text_start + 4 * other)) hart other made place state (λ k below.
        (let now = run state (replicate k hart) in
        at-here now hart (text_start + 4 * other) (runs_then state hart made way.below way.runs way.steps k below)
        ∙ ap (λ pc. pc == text_start + 4 * other) (stands_then state hart place count made way k below)
        ∙ same-place (place + k) other))

-- a turn at no word counts at none
pub none_added : (state : State) (hart : ℕ) (counts : List ℕ) → (hart_at state hart).status ≡ Running
    → ((k : ℕ) → k < length counts → (hart_at state hart).pc ≢ text_start + 4 * k) → AreAdded hart state (replicate 1 hart) counts counts
none_added state hart counts is outside = record {
  as_many = refl;
  each = λ k below.
      (let none : bit (is_made_at hart (text_start + 4 * k) state hart) ≡ 0 =
      ap bit (at-here state hart (text_start + 4 * k) is ∙ ne_eqb (hart_at state hart).pc (text_start + 4 * k) (outside k below)) in
      omega (arith, none));
}
