-- Where searches for stops come to, and what is told there.
use Rattle.std.proofs.Common.{◌≡◌, ℕ, zero, suc, ◌+◌, ◌-◌, ◌<◌, ◌≤◌, ◌||◌, Bool, true, false, true≢false, length, refl, sym, ap, subst, ◌∙◌, arith, Option, Some, None, inl, inr}
use Rattle.std.specs.Prelude.{if◌then◌else◌, is_some, unwrap_or}
use Rattle.std.proofs.lemmas.Bool.{cases_lt}
use Rattle.std.proofs.lemmas.Option.{slice_get_past}
use Rattle.debugger.specs.Places.{SessionState, moved}
use Rattle.debugger.specs.Stops.{IsNextStop, IsPreviousStop, NoNextStop, NoPreviousStop, stops}
use Rattle.debugger.proofs.Stopping.{breaks-end}
use Rattle.gdb_session.specs.declared.stops.Stop.{Stop}
use Rattle.gdb_session.specs.declared.stops.StopReason.TheVariants.{Watch}
use Rattle.gdb_session.specs.Going.{Arrival, ahead, arrival, behind, behind_at, continue, continue_back, last_hart, next_hart, on_break, unless_changed}
use Rattle.gdb_session.specs.Stopping.{changed_before, is_on_break, last_below, stops_ahead, stops_behind}
use Rattle.gdb_session.specs.inner.Telling.{before_change, told_ahead}
use Rattle.gdb_session.proofs.Watching.{stops_are}
use Rattle.gdb_session.proofs.Searching.{first_is, first_is_none, last_is, last_is_none}

left_of : (a b : Bool) → (a || b) ≡ false → a ≡ false
left_of true b e = absurd (true≢false e)
left_of false b e = refl

right_of : (a b : Bool) → (a || b) ≡ false → b ≡ false
right_of true b e = absurd (true≢false e)
right_of false b e = e

neither : (a b : Bool) → a ≡ false → b ≡ false → (a || b) ≡ false
neither a b e f = ap (λ x. x || b) e ∙ f

second : (a b : Bool) → (a || b) ≡ true → a ≡ false → b ≡ true
second true b e f = absurd (true≢false f)
second false b e f = e

is_first : (a b : Bool) → a ≡ true → (a || b) ≡ true
is_first a b e = ap (λ x. x || b) e

is_second : (a b : Bool) → b ≡ true → (a || b) ≡ true
is_second true b e = refl
is_second false b e = e

first_or : (a b : Bool) → (a || b) ≡ true → b ≡ false → a ≡ true
first_or true b e f = refl
first_or false b e f = absurd (true≢false (sym e ∙ f))

some_is : (o : Option ℕ) (x : ℕ) → o ≡ Some x → is_some o ≡ true
some_is o x e = ap is_some e

none_is : (o : Option ℕ) → o ≡ None → is_some o ≡ false
none_is o e = ap is_some e

-- ---- what doesn't stop

quiet_break : (s : SessionState) (k : ℕ) → stops s k ≡ false → is_on_break s k ≡ false
quiet_break s k e = left_of (is_on_break s k) (is_some (changed_before s k)) (sym (stops_are s k) ∙ e)

quiet_change : (s : SessionState) (k : ℕ) → stops s k ≡ false → is_some (changed_before s k) ≡ false
quiet_change s k e = right_of (is_on_break s k) (is_some (changed_before s k)) (sym (stops_are s k) ∙ e)

-- behind the end no hart is on a break
within_log : (s : SessionState) (place : ℕ) → is_on_break s place ≡ true → place < length s.log.turns
within_log s place on =
    elim (cases_lt place (length s.log.turns)) [
      | inl less ↦ less
      | inr past ↦ absurd (true≢false (sym on ∙ breaks-end s place (slice_get_past s.log.turns place past)))
    ]

-- ---- forwards

module _ (s : SessionState) where
  quiet_ahead : (k : ℕ) → is_on_break s k ≡ false → stops s (k + 1) ≡ false → stops_ahead s k ≡ false
  quiet_ahead k here next = neither (is_on_break s k) (is_some (changed_before s (k + 1))) here (quiet_change s (k + 1) next)

  -- up to a place behind which nothing stops
  all_quiet : (to : ℕ) → is_on_break s s.place ≡ false → ((k : ℕ) → s.place < k → k ≤ to → stops s k ≡ false)
      → (k : ℕ) → s.place ≤ k → k < to → stops_ahead s k ≡ false
  all_quiet to here none k low high =
      elim (cases_lt s.place k) [
        | inl behind ↦ quiet_ahead k (quiet_break s k (none k behind (omega (arith, high)))) (none (k + 1) (omega (arith, behind)) (omega (arith, high)))
        | inr not_behind ↦
            let e : s.place ≡ k = omega (arith, low, not_behind) in
            quiet_ahead k (ap (is_on_break s) (sym e) ∙ here) (none (k + 1) (omega (arith, low)) (omega (arith, high)))
      ]

  pub break_here : (focus : ℕ) → is_on_break s s.place ≡ true → continue s focus ≡ on_break s s.place
  unfolding continue
  break_here focus on =
      let below = within_log s s.place on in
      ap (ahead s focus) (first_is (stops_ahead s) s.place (length s.log.turns - s.place) s.place (omega arith) (omega (arith, below))
      (is_first (is_on_break s s.place) (is_some (changed_before s (s.place + 1))) on) (λ k low high. absurd (omega (arith, low, high))))
      ∙ ap (λ b. if b then on_break s s.place
      else arrival s.place (Watch (unwrap_or (changed_before s (s.place + 1)) 0)) (next_hart s s.place)) on

  pub nothing_ahead : (focus : ℕ) → is_on_break s s.place ≡ false → NoNextStop s → continue s focus ≡ ahead s focus None
  unfolding continue
  nothing_ahead focus here none =
      ap (ahead s focus) (first_is_none (stops_ahead s) s.place (length s.log.turns - s.place)
      (λ k low high. all_quiet (length s.log.turns) here none.none k low (omega (arith, low, high))))

  change_ahead : (focus stop address : ℕ) → is_on_break s s.place ≡ false → IsNextStop s stop → changed_before s stop ≡ Some address
      → continue s focus ≡ arrival (stop - 1) (Watch address) (next_hart s (stop - 1))
  unfolding continue
  change_ahead focus stop address here is changed =
      let q = stop - 1 in
      let after = is.after in
      let within = is.within in
      let e : q + 1 ≡ stop = omega (arith, after) in
      let told : changed_before s (q + 1) ≡ Some address = ap (changed_before s) e ∙ changed in
      let calm : (k : ℕ) → s.place < k → k ≤ q → stops s k ≡ false = λ k a b. is.least k a (omega (arith, b, after)) in
      let quiet : is_on_break s q ≡ false = calm_there q calm (omega (arith, after)) here in
      ap (ahead s focus) (first_is (stops_ahead s) s.place (length s.log.turns - s.place) q (omega (arith, after)) (omega (arith, after, within))
      (is_second (is_on_break s q) (is_some (changed_before s (q + 1))) (some_is (changed_before s (q + 1)) address told))
      (all_quiet q here calm))
      ∙ ap (λ b. if b then on_break s q else arrival q (Watch (unwrap_or (changed_before s (q + 1)) 0)) (next_hart s q)) quiet
      ∙ ap (λ o. arrival q (Watch (unwrap_or o 0)) (next_hart s q)) told
    where
      calm_there : (q : ℕ) → ((k : ℕ) → s.place < k → k ≤ q → stops s k ≡ false) → s.place ≤ q → is_on_break s s.place ≡ false → is_on_break s q ≡ false
      calm_there q calm low here =
          elim (cases_lt s.place q) [
            | inl behind ↦ quiet_break s q (calm q behind (omega arith))
            | inr not_behind ↦ let same : s.place ≡ q = omega (arith, low, not_behind) in ap (is_on_break s) (sym same) ∙ here
          ]

  break_ahead : (focus stop : ℕ) → is_on_break s s.place ≡ false → IsNextStop s stop → changed_before s stop ≡ None
      → continue s focus ≡ on_break s stop
  unfolding continue
  break_ahead focus stop here is unchanged =
      let after = is.after in
      let on : is_on_break s stop ≡ true = first_or (is_on_break s stop) (is_some (changed_before s stop)) (sym (stops_are s stop) ∙ is.stops_there)
      (none_is (changed_before s stop) unchanged) in
      let below = within_log s stop on in
      ap (ahead s focus) (first_is (stops_ahead s) s.place (length s.log.turns - s.place) stop (omega (arith, after)) (omega (arith, after, below))
      (is_first (is_on_break s stop) (is_some (changed_before s (stop + 1))) on)
      (λ k low high. before_it stop here is unchanged k low high))
      ∙ ap (λ b. if b then on_break s stop else arrival stop (Watch (unwrap_or (changed_before s (stop + 1)) 0)) (next_hart s stop)) on
    where
      before_it : (stop : ℕ) → is_on_break s s.place ≡ false → IsNextStop s stop → changed_before s stop ≡ None → (k : ℕ) → s.place ≤ k → k < stop
          → stops_ahead s k ≡ false
      before_it stop here is unchanged k low high =
          neither (is_on_break s k) (is_some (changed_before s (k + 1))) (no_break k low high)
          (elim (cases_lt (k + 1) stop) [
            | inl less ↦ quiet_change s (k + 1) (is.least (k + 1) (omega (arith, low)) less)
            | inr not_less ↦ let e : k + 1 ≡ stop = omega (arith, high, not_less) in none_is (changed_before s (k + 1)) (ap (changed_before s) e ∙ unchanged)
          ])
        where
          no_break : (k : ℕ) → s.place ≤ k → k < stop → is_on_break s k ≡ false
          no_break k low high =
              elim (cases_lt s.place k) [
                | inl behind ↦ quiet_break s k (is.least k behind high)
                | inr not_behind ↦ let same : s.place ≡ k = omega (arith, low, not_behind) in ap (is_on_break s) (sym same) ∙ here
              ]

  -- the place that a session is at changes nothing of a place's turn
  changed_moved : (other place : ℕ) → changed_before (moved s other) place ≡ changed_before s place
  changed_moved other zero = refl
  changed_moved other (suc place) = refl

  -- what is told at the next stop
  pub stop_ahead : (focus stop : ℕ) → is_on_break s s.place ≡ false → IsNextStop s stop → continue s focus ≡ told_ahead (moved s stop)
  stop_ahead focus stop here is = by (changed_before s stop) refl
    where
      by : (o : Option ℕ) → changed_before s stop ≡ o → continue s focus ≡ told_ahead (moved s stop)
      by None e = break_ahead focus stop here is e ∙ sym (ap (before_change (moved s stop)) (changed_moved stop stop ∙ e))
      by (Some address) e = change_ahead focus stop address here is e ∙ sym (ap (before_change (moved s stop)) (changed_moved stop stop ∙ e))

  -- ---- backwards

  pub change_here : (focus address : ℕ) → changed_before s s.place ≡ Some address
      → continue_back s focus ≡ arrival s.place (Watch address) (last_hart s s.place)
  unfolding continue_back
  change_here focus address e = ap (λ o. unless_changed s o (behind s focus (last_below (stops_behind s) s.place))) e

  pub nothing_behind : (focus : ℕ) → changed_before s s.place ≡ None → NoPreviousStop s → continue_back s focus ≡ behind s focus None
  unfolding continue_back
  nothing_behind focus e none =
      ap (λ o. unless_changed s o (behind s focus (last_below (stops_behind s) s.place))) e
      ∙ ap (behind s focus) (last_is_none (stops_behind s) s.place (λ k below. sym (stops_are s k) ∙ none.none k below))

  pub stop_behind : (focus stop : ℕ) → changed_before s s.place ≡ None → IsPreviousStop s stop → continue_back s focus ≡ behind_at s stop
  unfolding continue_back
  stop_behind focus stop e is =
      ap (λ o. unless_changed s o (behind s focus (last_below (stops_behind s) s.place))) e
      ∙ ap (behind s focus) (last_is (stops_behind s) s.place stop is.before (sym (stops_are s stop) ∙ is.stops_there)
      (λ k a b. sym (stops_are s k) ∙ is.greatest k a b))

-- ---- what code comes to

-- a session that stands still
pub stood : (s : SessionState) (a b : Arrival) → a ≡ b → b.place ≡ s.place → s ≡ moved s a.place
stood s a b e here = ap (λ k. moved s k) (sym (ap (λ (x : Arrival). x.place) e ∙ here))

pub told_at : (s t new : SessionState) (k : ℕ) (a : Arrival) → t ≡ moved s k → a ≡ told_ahead (moved s k) → new ≡ moved t (told_ahead t).place
    → new ≡ moved s a.place
told_at s t new k a at e state =
    state ∙ ap (λ (x : SessionState). moved x (told_ahead x).place) at ∙ sym (ap (λ (x : Arrival). moved s x.place) e)

pub told_stop : (s t : SessionState) (k : ℕ) (a : Arrival) (stop : Stop) → t ≡ moved s k → a ≡ told_ahead (moved s k) → stop ≡ (told_ahead t).stop
    → stop ≡ a.stop
told_stop s t k a stop at e told = told ∙ ap (λ (x : SessionState). (told_ahead x).stop) at ∙ sym (ap (λ (x : Arrival). x.stop) e)

-- a session that goes to a place, from one that stood still
pub went_to : (s t new : SessionState) (a b : Arrival) → t ≡ s → a ≡ b → new ≡ moved t b.place → new ≡ moved s a.place
went_to s t new a b at e state = state ∙ ap (λ (x : SessionState). moved x b.place) at ∙ sym (ap (λ (x : Arrival). moved s x.place) e)

pub same_stop : (a b : Arrival) (stop : Stop) → a ≡ b → stop ≡ b.stop → stop ≡ a.stop
same_stop a b stop e told = told ∙ sym (ap (λ (x : Arrival). x.stop) e)

-- ---- what code comes to, forwards

pub told_change : (s t new : SessionState) (address : ℕ) → t ≡ s → changed_before s s.place ≡ Some address → new ≡ moved t (t.place - 1)
    → new ≡ moved s (told_ahead s).place
told_change s t new address at e state =
    state ∙ ap (λ (x : SessionState). moved x (x.place - 1)) at ∙ ap (λ (a : Arrival). moved s a.place) (sym (ap (before_change s) e))

pub told_change_stop : (s t : SessionState) (address : ℕ) (stop : Stop) → t ≡ s → changed_before s s.place ≡ Some address
    → stop ≡ record { reason = Watch address; hart = next_hart t (t.place - 1) } → stop ≡ (told_ahead s).stop
told_change_stop s t address stop at e told =
    told
    ∙ ap (λ (x : SessionState). (let one : Stop = record { reason = Watch address; hart = next_hart x (x.place - 1) } in one)) at
    ∙ ap (λ (a : Arrival). a.stop) (sym (ap (before_change s) e))

pub told_break : (s t : SessionState) → t ≡ s → changed_before s s.place ≡ None → t ≡ moved s (told_ahead s).place
told_break s t at e = at ∙ ap (λ (a : Arrival). moved s a.place) (sym (ap (before_change s) e))

pub told_break_stop : (s t : SessionState) (stop : Stop) → t ≡ s → changed_before s s.place ≡ None → stop ≡ (on_break t t.place).stop
    → stop ≡ (told_ahead s).stop
told_break_stop s t stop at e told =
    told ∙ ap (λ (x : SessionState). (on_break x x.place).stop) at ∙ ap (λ (a : Arrival). a.stop) (sym (ap (before_change s) e))

-- ---- and backwards

pub behind_break : (s : SessionState) (k : ℕ) → is_on_break s k ≡ true → behind_at s k ≡ on_break s k
behind_break s k e = ap (λ (b : Bool). if b then on_break s k else arrival k (Watch (unwrap_or (changed_before s k) 0)) (last_hart s k)) e

pub behind_watch : (s : SessionState) (k : ℕ) → is_on_break s k ≡ false
    → behind_at s k ≡ arrival k (Watch (unwrap_or (changed_before s k) 0)) (last_hart s k)
behind_watch s k e = ap (λ (b : Bool). if b then on_break s k else arrival k (Watch (unwrap_or (changed_before s k) 0)) (last_hart s k)) e

behind_place : (s : SessionState) (k : ℕ) → (behind_at s k).place ≡ k
behind_place s k = go (is_on_break s k)
  where
    go : (b : Bool) → (if b then on_break s k else arrival k (Watch (unwrap_or (changed_before s k) 0)) (last_hart s k)).place ≡ k
    go true = refl
    go false = refl

behind_moved : (s : SessionState) (other k : ℕ) → behind_at (moved s other) k ≡ behind_at s k
behind_moved s other zero = refl
behind_moved s other (suc k) = refl

-- a watched word was changed by the last turn
pub back_changed : (s t : SessionState) (focus address : ℕ) → t ≡ s → changed_before s s.place ≡ Some address → t ≡ moved s (continue_back s focus).place
back_changed s t focus address at e = at ∙ ap (λ (a : Arrival). moved s a.place) (sym (change_here s focus address e))

pub back_changed_stop : (s t : SessionState) (focus address : ℕ) (stop : Stop) → t ≡ s → changed_before s s.place ≡ Some address
    → stop ≡ record { reason = Watch address; hart = last_hart t t.place } → stop ≡ (continue_back s focus).stop
back_changed_stop s t focus address stop at e told =
    told
    ∙ ap (λ (x : SessionState). (let one : Stop = record { reason = Watch address; hart = last_hart x x.place } in one)) at
    ∙ ap (λ (a : Arrival). a.stop) (sym (change_here s focus address e))

stop_found : (s t u : SessionState) (focus : ℕ) → t ≡ s → changed_before s s.place ≡ None → IsPreviousStop t u.place
    → continue_back s focus ≡ behind_at s u.place
stop_found s t u focus at e is = stop_behind s focus u.place e (subst (λ (x : SessionState). IsPreviousStop x u.place) at is)

pub back_stopped : (s t u new : SessionState) (focus : ℕ) → t ≡ s → changed_before s s.place ≡ None → IsPreviousStop t u.place → u ≡ moved t u.place
    → new ≡ u → new ≡ moved s (continue_back s focus).place
back_stopped s t u new focus at e is stays same =
    same ∙ stays ∙ ap (λ (x : SessionState). moved x u.place) at
    ∙ ap (λ (k : ℕ). moved s k) (sym (ap (λ (a : Arrival). a.place) (stop_found s t u focus at e is) ∙ behind_place s u.place))

pub back_stopped_stop : (s t u : SessionState) (focus : ℕ) (stop : Stop) → t ≡ s → changed_before s s.place ≡ None → IsPreviousStop t u.place
    → u ≡ moved t u.place → stop ≡ (behind_at u u.place).stop → stop ≡ (continue_back s focus).stop
back_stopped_stop s t u focus stop at e is stays told =
    told
    ∙ ap (λ (x : SessionState). (behind_at x u.place).stop) (stays ∙ ap (λ (x : SessionState). moved x u.place) at)
    ∙ ap (λ (a : Arrival). a.stop) (behind_moved s u.place u.place ∙ sym (stop_found s t u focus at e is))

none_found : (s t : SessionState) (focus : ℕ) → t ≡ s → changed_before s s.place ≡ None → NoPreviousStop t
    → continue_back s focus ≡ behind s focus None
none_found s t focus at e none = nothing_behind s focus e (subst (λ (x : SessionState). NoPreviousStop x) at none)

pub back_started : (s t u new : SessionState) (focus : ℕ) → t ≡ s → changed_before s s.place ≡ None → NoPreviousStop t → u ≡ t → new ≡ moved u 0
    → new ≡ moved s (continue_back s focus).place
back_started s t u new focus at e none same state =
    state ∙ ap (λ (x : SessionState). moved x 0) (same ∙ at) ∙ ap (λ (a : Arrival). moved s a.place) (sym (none_found s t focus at e none))

pub back_started_stop : (s t : SessionState) (focus : ℕ) (stop : Stop) → t ≡ s → changed_before s s.place ≡ None → NoPreviousStop t
    → stop ≡ (behind s focus None).stop → stop ≡ (continue_back s focus).stop
back_started_stop s t focus stop at e none told = told ∙ ap (λ (a : Arrival). a.stop) (sym (none_found s t focus at e none))
