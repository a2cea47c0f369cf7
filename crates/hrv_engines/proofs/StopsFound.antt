-- The next and the previous stop are the places that a search comes to.
use Rattle.std.proofs.Common.{◌≡◌, ℕ, zero, suc, ◌+◌, ◌-◌, ◌<◌, ◌≤◌, Bool, true, false, true≢false, List, ◌++◌, length, refl, sym, ap, subst, ◌∙◌, arith}
use Rattle.std.specs.Prelude.{nat_lt, Some, None, Result, Ok, Err, IsSome, OnOk}
use Rattle.std.proofs.lemmas.Bool.Decides.{nat_tests}
use Rattle.debugger.specs.declared.refusals.SessionRefusal.{SessionRefusal}
use Rattle.debugger.specs.declared.refusals.SessionRefusal.TheVariants.{PastEnd, BeforeStart, Address, TooManyMarks, NoStop, OutOfMemory}
use Rattle.debugger.specs.Places.{SessionState}
use Rattle.debugger.specs.Refusals.{UnlessMemory, number_of}
use Rattle.debugger.specs.Stops.{IsNextStop, NoNextStop, IsPreviousStop, NoPreviousStop, stops}
use Rattle.hrv_engines.specs.Talk.{first_stop, last_stop, next_stop, or_refusal, place_text, previous_stop, refusal_text, went}

-- ---- searching forwards

first_of_all : (s : SessionState) (place count stop : ℕ) → place ≤ stop → stop < place + count → stops s stop ≡ true
    → ((k : ℕ) → place ≤ k → k < stop → stops s k ≡ false) → first_stop s place count ≡ Some stop
unfolding first_stop
first_of_all s place zero stop low high is least = absurd (omega (arith, low, high))
first_of_all s place (suc count) stop low high is least =
    go (λ below. first_of_all s (suc place) count stop (omega (arith, below)) (omega (arith, high)) is (λ k a b. least k (omega (arith, a)) b))
    (nat_lt place stop) refl
  where
    go : (place < stop → first_stop s (suc place) count ≡ Some stop) → (b : Bool) → nat_lt place stop ≡ b → first_stop s place (suc count) ≡ Some stop
    go further true e =
        let below : place < stop = grind (arith, nat_tests) in
        let passes : stops s place ≡ false = least place (omega arith) below in
        rw passes (further below)
    go further false e =
        let here : place ≡ stop = grind (arith, nat_tests, low) in
        let stands : stops s place ≡ true = ap (stops s) here ∙ is in
        rw stands (ap (λ k. Some k) here)

none_of_all : (s : SessionState) (place count : ℕ) → ((k : ℕ) → place ≤ k → k < place + count → stops s k ≡ false) → first_stop s place count ≡ None
unfolding first_stop
none_of_all s place zero none = refl
none_of_all s place (suc count) none =
    let passes : stops s place ≡ false = none place (omega arith) (omega arith) in
    rw passes (none_of_all s (suc place) count (λ k a b. none k (omega (arith, a)) (omega (arith, b))))

pub next_found : (s : SessionState) (stop : ℕ) → IsNextStop s stop → next_stop s ≡ Ok stop
next_found s stop h =
    ap (or_refusal NoStop) (first_of_all s (s.place + 1) (length s.log.turns - s.place) stop (omega (arith, h.after)) (omega (arith, h.after, h.within))
    h.stops_there
    (λ k a b. h.least k (omega (arith, a)) b))

pub no_next_found : (s : SessionState) → NoNextStop s → next_stop s ≡ Err NoStop
no_next_found s h =
    ap (or_refusal NoStop) (none_of_all s (s.place + 1) (length s.log.turns - s.place) (λ k a b. h.none k (omega (arith, a)) (omega (arith, a, b))))

-- ---- searching backwards

last_of_all : (s : SessionState) (place stop : ℕ) → stop < place → stops s stop ≡ true → ((k : ℕ) → stop < k → k < place → stops s k ≡ false)
    → last_stop s place ≡ Some stop
unfolding last_stop
last_of_all s zero stop below is greatest = absurd (omega (arith, below))
last_of_all s (suc place) stop below is greatest =
    go (λ before. last_of_all s place stop before is (λ k a b. greatest k a (omega (arith, b)))) (nat_lt stop place) refl
  where
    go : (stop < place → last_stop s place ≡ Some stop) → (b : Bool) → nat_lt stop place ≡ b → last_stop s (suc place) ≡ Some stop
    go further true e =
        let before : stop < place = grind (arith, nat_tests) in
        let passes : stops s place ≡ false = greatest place before (omega arith) in
        rw passes (further before)
    go further false e =
        let at_least : place ≤ stop = grind (arith, nat_tests) in
        let here : place ≡ stop = omega (arith, at_least, below) in
        let stands : stops s place ≡ true = ap (stops s) here ∙ is in
        rw stands (ap (λ k. Some k) here)

none_before : (s : SessionState) (place : ℕ) → ((k : ℕ) → k < place → stops s k ≡ false) → last_stop s place ≡ None
unfolding last_stop
none_before s zero none = refl
none_before s (suc place) none =
    let passes : stops s place ≡ false = none place (omega arith) in
    rw passes (none_before s place (λ k b. none k (omega (arith, b))))

pub previous_found : (s : SessionState) (stop : ℕ) → IsPreviousStop s stop → previous_stop s ≡ Ok stop
previous_found s stop h = ap (or_refusal NoStop) (last_of_all s s.place stop h.before h.stops_there h.greatest)

pub no_previous_found : (s : SessionState) → NoPreviousStop s → previous_stop s ≡ Err NoStop
no_previous_found s h = ap (or_refusal NoStop) (none_before s s.place h.none)

-- ---- answers that say so

pub went_text : {X E : Type 0} (r : Result X E) (s : SessionState) (found : Result ℕ SessionRefusal) (place : ℕ) (old new : List ℕ) → found ≡ Ok place
    → OnOk r (new ≡ old ++ place_text place) → OnOk r (new ≡ old ++ (went s found).text)
went_text r s found place old new is h = subst (λ f. OnOk r (new ≡ old ++ (went s f).text)) (sym is) h

pub went_next : {X E : Type 0} (r : Result X E) (s next : SessionState) (found : Result ℕ SessionRefusal) → next ≡ (went s found).next
    → OnOk r (next ≡ (went s found).next)
went_next (Ok x) s next found h = h
went_next (Err e) s next found h = tt

not_memory : (refusal : SessionRefusal) (F : Type 0) → IsSome (number_of refusal) → UnlessMemory refusal F → F
not_memory PastEnd F known h = h
not_memory BeforeStart F known h = h
not_memory Address F known h = h
not_memory TooManyMarks F known h = h
not_memory NoStop F known h = h
not_memory OutOfMemory F known h = absurd (true≢false (sym known))

-- a search that found nothing is refused so, unless memory ran out
pub refused_text : {X E : Type 0} (r : Result X E) (refusal : SessionRefusal) (F : Type 0) (s : SessionState) (found : Result ℕ SessionRefusal) (old new : List ℕ)
    → (F → found ≡ Err NoStop) → UnlessMemory refusal ((refusal ≡ NoStop) × F) → OnOk r (IsSome (number_of refusal))
    → OnOk r (new ≡ old ++ refusal_text refusal)
    → OnOk r (new ≡ old ++ (went s found).text)
refused_text (Err e) refusal F s found old new none err known h = tt
refused_text (Ok x) refusal F s found old new none err known h =
    let fact = not_memory refusal ((refusal ≡ NoStop) × F) known err in
    subst (λ f. new ≡ old ++ (went s f).text) (sym (none fact.1)) (h ∙ ap (λ f. old ++ refusal_text f) fact.0)

pub refused_next : {X E : Type 0} (r : Result X E) (refusal : SessionRefusal) (F : Type 0) (s next : SessionState) (found : Result ℕ SessionRefusal)
    → (F → found ≡ Err NoStop) → UnlessMemory refusal ((refusal ≡ NoStop) × F) → OnOk r (IsSome (number_of refusal)) → next ≡ s
    → OnOk r (next ≡ (went s found).next)
refused_next (Err e) refusal F s next found none err known h = tt
refused_next (Ok x) refusal F s next found none err known h =
    let fact = not_memory refusal ((refusal ≡ NoStop) × F) known err in
    subst (λ f. next ≡ (went s f).next) (sym (none fact.1)) h
