-- What is known of turns that are passed at once.
use Rattle.std.proofs.Common.{◌≡◌, ℕ, suc, List, ◌+◌, ◌-◌, ◌<◌, ◌≤◌, ◌==◌, ◌||◌, Bool, true, false, length, replicate, Option, Some, None, ap, sym, subst, ◌∙◌}
use Rattle.std.proofs.Common.{arith, inl, inr}
use Rattle.std.specs.Prelude.{◌≢◌, MatchOption}
use Rattle.std.specs.List.{list_any}
use Rattle.std.proofs.lemmas.Bool.{cases_lt}
use Rattle.hart_core.specs.declared.harts.Status.TheVariants.{Running}
use Rattle.multi_hart.specs.Run.{State, run, hart_at}
use Rattle.turn_log.specs.TurnLog.{LogState, IsLog}
use Rattle.turn_log.specs.RunAt.{Stand, run_at}
use Rattle.loader.specs.Loading.{machine_of}
use Rattle.debugger.specs.Places.{SessionState, state_at, moved}
use Rattle.debugger.specs.declared.passing.Passed.{Passed}
use Rattle.debugger.specs.inner.Passing.{Fits, IsPassed, Latest}
use Rattle.debugger.specs.inner.Steps.{IsQuietUntil}
use Rattle.debugger.specs.Stops.{break_stops, differs, watch_stops, stops, IsPreviousStop, NoPreviousStop}
use Rattle.debugger.proofs.Places.{next-is, run-standing, run-resting, next-standing}
use Rattle.debugger.proofs.Stopping.{breaks-next, differs-itself, or-false, watches-behind, stops-between}

-- turns of one hart that can be passed at once from a place
pub record AtOnce (session : SessionState) (place hart count turns : ℕ) : Type 0 where
  pub stand : Stand session.log.turns place hart count
  pub some : 1 ≤ turns
  pub most : turns ≤ count
  pub there : hart < length (state_at session place).harts
  pub rests : 1 < turns → (hart_at (state_at session place) hart).status ≢ Running

still : (session : SessionState) (place hart count turns n : ℕ) → AtOnce session place hart count turns → 1 < turns → n ≤ count
    → state_at session (place + n) ≡ state_at session place
still session place hart count turns n once two within =
    run-resting (machine_of session.image session.log.harts) session.log.turns place hart count n once.stand within once.there (once.rests two)

pub stops-inside : (session : SessionState) (place hart count turns k : ℕ) → AtOnce session place hart count turns → place < k → k < place + turns
    → stops session k ≡ list_any (λ mark. mark == (hart_at (state_at session place) hart).pc) session.breaks
stops-inside session place hart count turns k once after before =
    let i = k - place in
    let most = once.most in
    let e : k ≡ place + i = omega arith in
    ap (stops session) e
    ∙ stops-between session place i hart (omega arith)
    (still session place hart count turns i once (omega arith) (omega arith))
    (still session place hart count turns (i - 1) once (omega arith) (omega arith))
    (next-standing session.log.turns place hart count i once.stand (omega arith))

pub rest-state : (session : SessionState) (place hart count turns : ℕ) → AtOnce session place hart count turns
    → (hart_at (state_at session place) hart).status ≢ Running → state_at session (place + turns) ≡ state_at session place
rest-state session place hart count turns once rests =
    run-resting (machine_of session.image session.log.harts) session.log.turns place hart count turns once.stand once.most once.there rests

still-last : (session : SessionState) (place hart count turns : ℕ) → AtOnce session place hart count turns → state_at session (place + (turns - 1))
    ≡ state_at session place
still-last session place hart count turns once =
    let some = once.some in
    let most = once.most in
    elim (cases_lt 1 turns) [
      | inl two ↦ still session place hart count turns (turns - 1) once two (omega arith)
      | inr one ↦ let e : place + (turns - 1) ≡ place = omega arith in ap (state_at session) e
    ]

pub stops-at-end : (session : SessionState) (place hart count turns : ℕ) (on_break changed : Bool) → AtOnce session place hart count turns
    → on_break ≡ list_any (break_stops session (place + turns)) session.breaks
    → changed ≡ list_any (differs (state_at session place) (state_at session (place + turns))) session.watches
    → stops session (place + turns) ≡ (on_break || changed)
stops-at-end session place hart count turns on_break changed once e f =
    ap (λ b. b || list_any (watch_stops session (place + turns)) session.watches) (sym e)
    ∙ ap (λ b. on_break || b) (watches-behind session place turns once.some (still-last session place hart count turns once) ∙ sym f)

-- ---- turns up to one after which a mark may stop

pub quiet-more : (state : State) (hart : ℕ) (breaks watches : List ℕ) (turns : ℕ) → IsQuietUntil state hart breaks watches turns
    → list_any (λ mark. mark == (hart_at (run state (replicate turns hart)) hart).pc) breaks ≡ false
    → list_any (differs (run state (replicate (turns - 1) hart)) (run state (replicate turns hart))) watches ≡ false
    → IsQuietUntil state hart breaks watches (turns + 1)
quiet-more state hart breaks watches turns quiet on changed = record {
  on_none = λ k some few. elim (cases_lt k turns) [
    | inl before ↦ quiet.on_none k some before
    | inr last ↦ (let same : k ≡ turns = omega arith in ap (λ n. list_any (λ mark. mark == (hart_at (run state (replicate n hart)) hart).pc) breaks) same ∙ on)
  ];
  changes_none = λ k some few. elim (cases_lt k turns) [
    | inl before ↦ quiet.changes_none k some before
    | inr last ↦ (let same : k ≡ turns = omega arith in ap (λ n. list_any (differs (run state (replicate (n - 1) hart)) (run state (replicate n hart))) watches)
        same ∙ changed)
  ];
}

-- turns of a hart that stand in a log at the place
pub record Until (session : SessionState) (place hart count turns : ℕ) (changed on_break : Bool) : Type 0 where
  pub stand : Stand session.log.turns place hart count
  pub some : 1 ≤ turns
  pub most : turns ≤ count
  pub quiet : IsQuietUntil (state_at session place) hart session.breaks session.watches turns
  pub changed_is : changed ≡ list_any (differs (run (state_at session place) (replicate (turns - 1) hart)) (run (state_at session place)
      (replicate turns hart))) session.watches
  pub on_break_is : on_break ≡ list_any (break_stops session (place + turns)) session.breaks

pub state-of : (session : SessionState) (place hart count k : ℕ) → Stand session.log.turns place hart count → k ≤ count
    → run (state_at session place) (replicate k hart) ≡ state_at session (place + k)
state-of session place hart count k stand within =
    sym (run-standing (machine_of session.image session.log.harts) session.log.turns place hart count k stand within)

watches-at : (session : SessionState) (place hart count k : ℕ) → Stand session.log.turns place hart count → 1 ≤ k → k ≤ count
    → list_any (watch_stops session (place + k)) session.watches ≡ list_any (differs (run (state_at session place) (replicate (k - 1) hart))
    (run (state_at session place) (replicate k hart))) session.watches
watches-at session place hart count k stand some within =
    let last = place + (k - 1) in
    let e : place + k ≡ suc last = omega arith in
    ap (λ n. list_any (watch_stops session n) session.watches) e
    ∙ ap (λ n. list_any (differs (state_at session last) (state_at session n)) session.watches) (sym e)
    ∙ ap (λ (s : State). list_any (differs s (state_at session (place + k))) session.watches) (sym (state-of session place hart count (k - 1) stand
    (omega arith)))
    ∙ ap (λ (s : State). list_any (differs (run (state_at session place) (replicate (k - 1) hart)) s) session.watches)
    (sym (state-of session place hart count k stand within))

breaks-at : (session : SessionState) (place hart count k : ℕ) → Stand session.log.turns place hart count → k < count
    → list_any (break_stops session (place + k)) session.breaks ≡ list_any (λ mark. mark == (hart_at (run (state_at session place) (replicate k hart)) hart).pc)
    session.breaks
breaks-at session place hart count k stand within =
    breaks-next session (place + k) hart (next-standing session.log.turns place hart count k stand within)
    ∙ ap (λ (s : State). list_any (λ mark. mark == (hart_at s hart).pc) session.breaks) (sym (state-of session place hart count k stand (omega arith)))

pub until-between : (session : SessionState) (place hart count turns k : ℕ) (changed on_break : Bool) → Until session place hart count turns changed on_break
    → place < k → k < place + turns → stops session k ≡ false
until-between session place hart count turns k changed on_break until after before =
    let i = k - place in
    let e : k ≡ place + i = omega arith in
    let most = until.most in
    ap (stops session) e
    ∙ ap (λ b. b || list_any (watch_stops session (place + i)) session.watches) (breaks-at session place hart count i until.stand (omega arith)
    ∙ until.quiet.on_none i (omega arith) (omega arith))
    ∙ watches-at session place hart count i until.stand (omega arith) (omega arith)
    ∙ until.quiet.changes_none i (omega arith) (omega arith)

pub until-behind : (session : SessionState) (place hart count turns : ℕ) (changed on_break : Bool) → Until session place hart count turns changed on_break
    → stops session (place + turns) ≡ (on_break || changed)
until-behind session place hart count turns changed on_break until =
    ap (λ b. b || list_any (watch_stops session (place + turns)) session.watches) (sym until.on_break_is)
    ∙ ap (λ b. on_break || b) (watches-at session place hart count turns until.stand until.some until.most ∙ sym until.changed_is)

-- where a machine is after turns that were made from the place on
pub stands-behind : (session : SessionState) (log : LogState) (breaks watches : List ℕ) (machine now : State) (place hart count turns : ℕ)
    → Fits session log breaks watches machine place → IsLog log
    → run_at log.turns place ≡ Some (hart, count) → turns ≤ count → now ≡ run machine (replicate turns hart) → now ≡ state_at session (place + turns)
stands-behind session log breaks watches machine now place hart count turns fits is e most state =
    let next = next-is session.log place hart count (subst IsLog fits.same_log is) (ap (λ (l : LogState). run_at l.turns place) (sym fits.same_log) ∙ e) in
    state ∙ ap (λ (s : State). run s (replicate turns hart)) fits.state ∙ state-of session place hart count turns next.stand most

pub until-of : (session : SessionState) (log : LogState) (breaks watches : List ℕ) (machine now : State) (place hart count turns : ℕ) (changed on_break : Bool)
    → Fits session log breaks watches machine place → IsLog log
    → run_at log.turns place ≡ Some (hart, count) → 1 ≤ turns → turns ≤ count → now ≡ run machine (replicate turns hart)
    → IsQuietUntil machine hart breaks watches turns
    → changed ≡ list_any (differs (run machine (replicate (turns - 1) hart)) now) watches
    → on_break ≡ list_any (break_stops session (place + turns)) session.breaks
    → Until session place hart count turns changed on_break
until-of session log breaks watches machine now place hart count turns changed on_break fits is e some most state quiet changed_is on_break_is =
    let next = next-is session.log place hart count (subst IsLog fits.same_log is) (ap (λ (l : LogState). run_at l.turns place) (sym fits.same_log) ∙ e) in
    record {
      stand = next.stand;
      some = some;
      most = most;
      quiet = subst (λ (s : State). IsQuietUntil s hart session.breaks session.watches turns) fits.state
          (subst (λ (bs : List ℕ). IsQuietUntil machine hart bs session.watches turns) fits.same_breaks
          (subst (λ (ws : List ℕ). IsQuietUntil machine hart breaks ws turns) fits.same_watches quiet));
      changed_is = changed_is
          ∙ ap (list_any (differs (run machine (replicate (turns - 1) hart)) now)) fits.same_watches
          ∙ ap (λ (s : State). list_any (differs (run machine (replicate (turns - 1) hart)) s) session.watches) state
          ∙ ap (λ (s : State). list_any (differs (run s (replicate (turns - 1) hart)) (run s (replicate turns hart))) session.watches) fits.state;
      on_break_is = on_break_is;
    }

-- a hart that doesn't run changes no word
pub rest-behind : (session : SessionState) (place hart count turns : ℕ) (on_break : Bool) → AtOnce session place hart count turns
    → (hart_at (state_at session place) hart).status ≢ Running
    → on_break ≡ list_any (break_stops session (place + turns)) session.breaks → stops session (place + turns) ≡ on_break
rest-behind session place hart count turns on_break once rests e =
    let same = rest-state session place hart count turns once rests in
    stops-at-end session place hart count turns on_break false once e (sym (ap (λ (s : State). list_any (differs (state_at session place) s) session.watches)
    same ∙ differs-itself (state_at session place) session.watches))
    ∙ or-false on_break

-- the turns that a log has at a place
pub at-once : (session : SessionState) (log : LogState) (machine : State) (place hart count turns : ℕ) → log ≡ session.log → IsLog log
    → run_at log.turns place ≡ Some (hart, count) → machine ≡ state_at session place → length machine.harts ≡ session.log.harts → 1 ≤ turns → turns ≤ count
    → (1 < turns → (hart_at machine hart).status ≢ Running) → AtOnce session place hart count turns
at-once session log machine place hart count turns same is e state harts some most rests =
    let next = next-is session.log place hart count (subst IsLog same is) (ap (λ (l : LogState). run_at l.turns place) (sym same) ∙ e) in
    let all = ap (λ (s : State). length s.harts) state in
    record {
      stand = next.stand;
      some = some;
      most = most;
      there = omega (arith, next.below, harts, all);
      rests = λ two. subst (λ (s : State). (hart_at s hart).status ≢ Running) state (rests two);
    }

-- marks stop where they do, wherever the session is
pub passed-from : (session here : SessionState) (place : ℕ) (passed : Passed) → here ≡ moved session place → IsPassed here here.place passed
    → IsPassed session place passed
passed-from session here place passed e is =
    let same : IsPassed (moved session place) place passed = subst (λ (s : SessionState). IsPassed s s.place passed) e is in
    record { some = same.some; between = same.between; behind = same.behind }

pub latest-from : (session here : SessionState) (at from place : ℕ) (last : Option ℕ) → here ≡ moved session at → Latest here from place last
    → Latest session from place last
latest-from session here at from place None e latest = subst (λ (s : SessionState). Latest s from place None) e latest
latest-from session here at from place (Some stop) e latest = subst (λ (s : SessionState). Latest s from place (Some stop)) e latest

-- where all places after the start are looked through, the start is left
pub previous-at-start : (session here : SessionState) (at : ℕ) (found : Option ℕ) → here ≡ moved session at → 0 < session.place
    → ((k : ℕ) → 0 < k → k < session.place → stops session k ≡ false) → MatchOption found (stops here 0 ≡ false) (λ stop. (stop ≡ 0) × (stops here 0 ≡ true))
    → MatchOption found (NoPreviousStop session) (IsPreviousStop session)
previous-at-start session here at None e some none start =
    let same : stops session 0 ≡ false = subst (λ (s : SessionState). stops s 0 ≡ false) e start in
    record {
      none = λ k before. elim (cases_lt 0 k) [
        | inl after ↦ none k after before
        | inr first ↦ let z : k ≡ 0 = omega arith in ap (stops session) z
            ∙ same
      ];
    }
previous-at-start session here at (Some stop) e some none start =
    let same : stops session 0 ≡ true = subst (λ (s : SessionState). stops s 0 ≡ true) e start.1 in
    record {
      before = omega (arith, start.0);
      stops_there = ap (stops session) start.0 ∙ same;
      greatest = λ k after before. none k (omega (arith, start.0)) before;
    }
