-- The turns that are counted on the way to a place.
use Rattle.std.proofs.Common.{◌≡◌, ℕ, zero, suc, ◌+◌, ◌-◌, ◌%◌, ◌^◌, ◌<◌, ◌≤◌, refl, sym, ap, ◌∙◌, arith}
use Rattle.std.specs.Prelude.{◌≢◌}
use Rattle.debugger.specs.Counts.{Walked, counted, steps_from}
use Rattle.debugger.specs.Places.{CountedSession, SessionState, moved}
use Rattle.debugger.proofs.Counting.{counted-on, steps-on}

-- which turns run depends on no place of a session
steps-moved : (session : SessionState) (at place n : ℕ) → steps_from (moved session at) place n ≡ steps_from session place n
steps-moved session at place zero = refl
steps-moved session at place (suc n) = let before = steps-moved session at place n in omega (arith, before)

-- as Walked, on the way to a place
pub record Walking (before after : CountedSession) (target : ℕ) : Type 0 where
  pub from : ℕ
  pub within : from ≤ after.state.place
  pub onwards : before.state.place ≤ target → before.state.place ≤ from
  pub begins : from % 4096 ≢ 0 → from ≡ before.state.place
  pub grows : before.steps ≤ after.steps
  pub steps : after.steps ≡ counted before.steps (steps_from before.state from (after.state.place - from))

-- where no turn is made yet
pub walking-none : (before after : CountedSession) (target : ℕ) → before.steps < 2 ^ 64 → after.steps ≡ before.steps → (before.state.place ≤ target
    → before.state.place ≤ after.state.place)
    → (after.state.place % 4096 ≢ 0 → after.state.place ≡ before.state.place) → Walking before after target
walking-none before after target few e onwards begins =
    let place = after.state.place in
    let none : 0 ≡ place - place = omega arith in
    let same : after.steps ≡ counted before.steps 0 = omega (arith, few, e) in
    record {
      from = place;
      within = omega arith;
      onwards = onwards;
      begins = begins;
      grows = omega (arith, e);
      steps = same ∙ ap (λ (n : ℕ). counted before.steps (steps_from before.state place n)) none;
    }

-- some turns more
pub walking-on : (before here after : CountedSession) (target : ℕ) → Walking before here target → here.state ≡ moved before.state here.state.place
    → here.state.place < after.state.place → here.steps ≤ after.steps
    → after.steps ≡ counted here.steps (steps_from here.state here.state.place (after.state.place - here.state.place)) → Walking before after target
walking-on before here after target walking same behind grows is =
    let from = walking.from in
    let place = here.state.place in
    let n = place - from in
    let more = after.state.place - place in
    let within = walking.within in
    let parts : after.state.place - from ≡ n + more = omega arith in
    let at : from + n ≡ place = omega arith in
    let others : steps_from here.state place more ≡ steps_from before.state place more =
    ap (λ (s : SessionState). steps_from s place more) same ∙ steps-moved before.state place place more in
    let all : steps_from before.state from (after.state.place - from) ≡ steps_from before.state from n + steps_from here.state place more =
    ap (steps_from before.state from) parts ∙ steps-on before.state from n more
    ∙ ap (λ (k : ℕ). steps_from before.state from n + k) (ap (λ (k : ℕ). steps_from before.state k more) at ∙ sym others) in
    record {
      from = from;
      within = omega (arith, within, behind);
      onwards = walking.onwards;
      begins = walking.begins;
      grows = omega (arith, walking.grows, grows);
      steps = is ∙ ap (λ (k : ℕ). counted k (steps_from here.state place more)) walking.steps
          ∙ counted-on before.steps (steps_from before.state from n) (steps_from here.state place more) (steps_from before.state from
          (after.state.place - from)) all;
    }

pub walked-there : (before after : CountedSession) (target : ℕ) → Walking before after target → after.state.place ≡ target → Walked before after target
walked-there before after target walking there = record {
  from = walking.from;
  within = omega (arith, walking.within, there);
  onwards = walking.onwards;
  begins = walking.begins;
  grows = walking.grows;
  steps = walking.steps ∙ ap (λ (k : ℕ). counted before.steps (steps_from before.state walking.from (k - walking.from))) there;
}
