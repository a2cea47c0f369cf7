-- Which places stop, from the states on both sides of some turns.
use Rattle.std.proofs.Common.{◌≡◌, ℕ, suc, ◌+◌, ◌-◌, ◌<◌, ◌≤◌, ◌==◌, ◌||◌, Bool, true, false, not, List, [], ◌∷◌, Option, Some, None, refl, ap, sym, ◌∙◌, arith}
use Rattle.std.proofs.Common.{inl, inr}
use Rattle.std.specs.Prelude.{slice_get}
use Rattle.std.specs.List.{list_any}
use Rattle.std.specs.Option.{option_eq}
use Rattle.std.proofs.lemmas.Bool.{eq-eqb, cases_lt}
use Rattle.multi_hart.specs.Run.{State, hart_at, word_in}
use Rattle.debugger.specs.Places.{SessionState, state_at}
use Rattle.debugger.specs.Stops.{stands_on, break_stops, differs, watch_stops, stops}

any-none : (xs : List ℕ) → list_any (λ x. false) xs ≡ false
any-none [] = refl
any-none (x ∷ xs) = any-none xs

-- ---- breaks

pub breaks-next : (session : SessionState) (place hart : ℕ) → slice_get session.log.turns place ≡ Some hart
    → list_any (break_stops session place) session.breaks ≡ list_any (λ mark. mark == (hart_at (state_at session place) hart).pc) session.breaks
breaks-next session place hart next = ap (λ o. list_any (stands_on (state_at session place) o) session.breaks) next

pub breaks-end : (session : SessionState) (place : ℕ) → slice_get session.log.turns place ≡ None → list_any (break_stops session place) session.breaks ≡ false
breaks-end session place next = ap (λ o. list_any (stands_on (state_at session place) o) session.breaks) next ∙ any-none session.breaks

-- ---- watches

pub same-itself : (word : Option ℕ) → option_eq ◌==◌ word word ≡ true
same-itself None = refl
same-itself (Some n) = eq-eqb n n refl

pub differs-itself : (state : State) (watches : List ℕ) → list_any (differs state state) watches ≡ false
differs-itself state [] = refl
differs-itself state (address ∷ watches) =
    ap (λ b. not b || list_any (differs state state) watches) (same-itself (word_in state address)) ∙ differs-itself state watches

-- where text and data are the same
pub differs-none : (before after : State) (watches : List ℕ) → after.text ≡ before.text → after.memory ≡ before.memory → list_any (differs before after) watches
    ≡ false
differs-none before after watches text memory =
    ap (λ (t : List ℕ). list_any (differs before (record { text = t; memory = after.memory; harts = after.harts })) watches) text
    ∙ ap (λ (m : List ℕ). list_any (differs before (record { text = before.text; memory = m; harts = after.harts })) watches) memory
    ∙ differs-itself before watches

-- after the last of some turns, of which those before it changed nothing
pub watches-behind : (session : SessionState) (place turns : ℕ) → 1 ≤ turns → state_at session (place + (turns - 1)) ≡ state_at session place
    → list_any (watch_stops session (place + turns)) session.watches ≡ list_any (differs (state_at session place) (state_at session (place + turns)))
    session.watches
watches-behind session place turns some still =
    let last = place + (turns - 1) in
    let e : place + turns ≡ suc last = omega arith in
    ap (λ k. list_any (watch_stops session k) session.watches) e
    ∙ ap (λ k. list_any (differs (state_at session last) (state_at session k)) session.watches) (sym e)
    ∙ ap (λ s. list_any (differs s (state_at session (place + turns))) session.watches) still

-- no watch stops at the start
pub watches-start : (session : SessionState) → list_any (watch_stops session 0) session.watches ≡ false
watches-start session = any-none session.watches

pub or-false : (b : Bool) → (b || false) ≡ b
or-false true = refl
or-false false = refl

-- a place between turns that change nothing stops exactly where the hart is on a break
pub stops-between : (session : SessionState) (place turns hart : ℕ) → 1 ≤ turns → state_at session (place + turns) ≡ state_at session place
    → state_at session (place + (turns - 1)) ≡ state_at session place → slice_get session.log.turns (place + turns) ≡ Some hart
    → stops session (place + turns) ≡ list_any (λ mark. mark == (hart_at (state_at session place) hart).pc) session.breaks
stops-between session place turns hart some here before next =
    let breaks = breaks-next session (place + turns) hart next ∙ ap (λ s. list_any (λ mark. mark == (hart_at s hart).pc) session.breaks) here in
    let quiet = watches-behind session place turns some before ∙ ap (λ s. list_any (differs (state_at session place) s) session.watches) here
    ∙ differs-itself (state_at session place) session.watches in
    ap (λ b. b || list_any (watch_stops session (place + turns)) session.watches) breaks
    ∙ ap (λ b. list_any (λ mark. mark == (hart_at (state_at session place) hart).pc) session.breaks || b) quiet
    ∙ or-false (list_any (λ mark. mark == (hart_at (state_at session place) hart).pc) session.breaks)

-- ---- the last stop up to a place

further : (session : SessionState) (place turns k : ℕ) → place < k → k ≤ place + turns → ((k : ℕ) → place < k → k < place + turns → stops session k ≡ false)
    → stops session (place + turns) ≡ false → stops session k ≡ false
further session place turns k after within between behind =
    elim (cases_lt k (place + turns)) [
      | inl less ↦ between k after less
      | inr not_less ↦ let e : k ≡ place + turns = omega arith in ap (stops session) e
          ∙ behind
    ]

-- at the start only breaks stop
pub stops-start : (session : SessionState) (on_break : Bool) → on_break ≡ list_any (break_stops session 0) session.breaks → stops session 0 ≡ on_break
stops-start session on_break e =
    ap (λ b. b || list_any (watch_stops session 0) session.watches) (sym e) ∙ ap (λ b. on_break || b) (watches-start session) ∙ or-false on_break
