-- What a turn leaves of what is known of turns that may race.
use Rattle.std.proofs.Common.{◌≡◌, ◌≢◌, ◌∙◌, ◌+◌, ◌<◌, ◌≤◌, ◌&&◌, ◌⊎◌, inl, inr, ℕ, zero, suc, false, refl, sym, ap, subst, arith}
use Rattle.std.proofs.Common.{List, [], ◌∷◌, ◌++◌, length, length-append, length-set, get_or, Some, None}
use Rattle.std.specs.Prelude.{not, slice_get, slice_set}
use Rattle.std.proofs.lemmas.Bool.{cases_eq}
use Rattle.std.proofs.lemmas.Option.{slice_get_within}
use Rattle.hart_core.specs.HartState.{HartState}
use Rattle.hart_core.specs.Turn.{next_of}
use Rattle.multi_hart.specs.Run.{State, hart_at, reads, turn, writes}
use Rattle.multi_hart.proofs.Framing.{others-stay, slice_get-set_other}
use Rattle.multi_hart.proofs.Resting.{there}
use Rattle.multi_hart.proofs.TurnByTurn.{shape-turn}
use Rattle.work_sharing.specs.Turns.{is_byte_of}
use Rattle.turn_accesses.specs.Accesses.{Covers, meet}
use Rattle.turn_accesses.specs.declared.spans.Span.{Span}
use Rattle.turn_accesses.proofs.Spanning.{apart_spans, meet_swapped}
use Rattle.race_reports.specs.Races.{race_in, shared_by}
use Rattle.race_reports.specs.inner.Watching.{AreApart, AreSpans, IsApartFrom, IsSpan, JustTurned}
use Rattle.race_reports.proofs.Sharing.{finds_none}
use Rattle.race_reports.proofs.Told.{AllApart, none_told, tells_none}

-- ---- spans that don't meet

share_nothing : (words : List ℕ) (state : State) (one other : HartState) (span span' : Span) → IsSpan state one span → IsSpan state other span'
    → meet span span' ≡ false → shared_by words state.text (length state.memory) one other ≡ None
share_nothing words state one other span span' covers covers' apart =
    let next = next_of state.text (length state.memory) one in
    let next' = next_of state.text (length state.memory) other in
    finds_none words (reads next' other) (writes next' other) (writes next one) (λ place is.
    ap (λ b. b && not (is_byte_of words place))
    (apart_spans span span' (reads next one) (writes next one) (reads next' other) (writes next' other) covers covers' apart place is))

pub apart_by_spans : (words : List ℕ) (state : State) (one other : HartState) (span span' : Span) → IsSpan state one span → IsSpan state other span'
    → meet span span' ≡ false → AreApart words state one other
apart_by_spans words state one other span span' covers covers' apart = (
  share_nothing words state one other span span' covers covers' apart,
  share_nothing words state other one span' span covers' covers (meet_swapped span span' apart),
)

-- ---- a turn

-- another hart is as it was
pub other_stays : (state : State) (hart other : ℕ) → hart ≢ other → other < length state.harts → hart_at (turn state hart) other ≡ hart_at state other
other_stays state hart other differ below =
    let shape = shape-turn state hart in
    let after = there (turn state hart) other (omega (arith, below, shape.harts)) in
    let same : Some (hart_at (turn state hart) other) ≡ Some (hart_at state other) =
    sym after ∙ others-stay state hart other differ ∙ there state other below in
    cc

span_stays : (state : State) (hart other : ℕ) (span : Span) → hart ≢ other → other < length state.harts → IsSpan state (hart_at state other) span
    → IsSpan (turn state hart) (hart_at (turn state hart) other) span
span_stays state hart other span differ below covers =
    let shape = shape-turn state hart in
    let stays = other_stays state hart other differ below in
    subst (λ (h : HartState). IsSpan (turn state hart) h span) (sym stays)
    (subst (λ (text : List ℕ). Covers span (reads (next_of text (length (turn state hart).memory) (hart_at state other)) (hart_at state other))
    (writes (next_of text (length (turn state hart).memory) (hart_at state other)) (hart_at state other))) (sym shape.text)
    (subst (λ (bytes : ℕ). Covers span (reads (next_of state.text bytes (hart_at state other)) (hart_at state other))
    (writes (next_of state.text bytes (hart_at state other)) (hart_at state other))) (sym shape.bytes) covers))

get-set_same : {X : Type 0} (xs : List X) (i : ℕ) (y : X) → i < length xs → slice_get (slice_set xs i y) i ≡ Some y
get-set_same [] i y below = absurd (omega (arith, below))
get-set_same (x ∷ xs) zero y below = refl
get-set_same (x ∷ xs) (suc i) y below = get-set_same xs i y (omega (arith, below))

-- a span for each hart, where that of one is found anew
pub own_span : (state : State) (hart : ℕ) (spans : List Span) (span : Span) → hart < length state.harts → AreSpans state spans
    → IsSpan state (hart_at state hart) span → AreSpans state (slice_set spans hart span)
own_span state hart spans span below are own = record {
  as_many = (let many = are.as_many in omega (arith, length-set spans hart span, many));
  each = λ number one got. by_number number one got (cases_eq hart number);
}
  where
    by_number : (number : ℕ) (one : Span) → slice_get (slice_set spans hart span) number ≡ Some one → (hart ≡ number) ⊎ (hart ≢ number)
        → IsSpan state (hart_at state number) one
    by_number number one got (inl same) =
        let here : slice_get (slice_set spans hart span) hart ≡ Some span = get-set_same spans hart span (omega (arith, below, are.as_many)) in
        let equal : Some span ≡ Some one = sym here ∙ ap (slice_get (slice_set spans hart span)) same ∙ got in
        let one_is : span ≡ one = cc in
        subst (λ (n : ℕ). IsSpan state (hart_at state n) one) same (subst (λ (s : Span). IsSpan state (hart_at state hart) s) one_is own)
    by_number number one got (inr differ) = are.each number one (sym (slice_get-set_other spans hart number span differ) ∙ got)

-- the same after a turn of that hart
pub spans_after : (state after : State) (hart : ℕ) (spans : List Span) (span : Span) → after ≡ turn state hart → hart < length state.harts
    → AreSpans state spans → IsSpan after (hart_at after hart) span → AreSpans after (slice_set spans hart span)
spans_after state after hart spans span is below are own =
    subst (λ (s : State). AreSpans s (slice_set spans hart span)) (sym is) (record {
      as_many = (let shape = shape-turn state hart in
          let many = are.as_many in
          omega (arith, length-set spans hart span, many, shape.harts));
      each = λ number one got. by_number number one got (cases_eq hart number);
    })
  where
    own_now : IsSpan (turn state hart) (hart_at (turn state hart) hart) span
    own_now = subst (λ (s : State). IsSpan s (hart_at s hart) span) is own

    by_number : (number : ℕ) (one : Span) → slice_get (slice_set spans hart span) number ≡ Some one → (hart ≡ number) ⊎ (hart ≢ number)
        → IsSpan (turn state hart) (hart_at (turn state hart) number) one
    by_number number one got (inl same) =
        let here : slice_get (slice_set spans hart span) hart ≡ Some span = get-set_same spans hart span (omega (arith, below, are.as_many)) in
        let equal : Some span ≡ Some one = sym here ∙ ap (slice_get (slice_set spans hart span)) same ∙ got in
        let one_is : span ≡ one = cc in
        subst (λ (n : ℕ). IsSpan (turn state hart) (hart_at (turn state hart) n) one) same
        (subst (λ (s : Span). IsSpan (turn state hart) (hart_at (turn state hart) hart) s) one_is own_now)
    by_number number one got (inr differ) =
        let before : slice_get spans number ≡ Some one = sym (slice_get-set_other spans hart number span differ) ∙ got in
        let within = slice_get_within spans number one before in
        span_stays state hart number one differ (omega (arith, within, are.as_many)) (are.each number one before)

shared_stays : (words : List ℕ) (state : State) (hart : ℕ) (one other : HartState) → shared_by words state.text (length state.memory) one other ≡ None
    → shared_by words (turn state hart).text (length (turn state hart).memory) one other ≡ None
shared_stays words state hart one other none =
    let shape = shape-turn state hart in
    ap (λ (text : List ℕ). shared_by words text (length (turn state hart).memory) one other) shape.text
    ∙ ap (λ (bytes : ℕ). shared_by words state.text bytes one other) shape.bytes ∙ none

at_hart : (state : State) (hart : ℕ) (one : HartState) → slice_get state.harts hart ≡ Some one → one ≡ hart_at state hart
at_hart state hart one got =
    let within = slice_get_within state.harts hart one got in
    let same : Some one ≡ Some (hart_at state hart) = sym got ∙ there state hart (omega (arith, within)) in
    cc

-- where no harts raced before the turn, and its own hart doesn't race with another one after it, none do
pub clear_after : (words : List ℕ) (state : State) (hart : ℕ) → race_in words state ≡ None → IsApartFrom words (turn state hart) hart 0
    → race_in words (turn state hart) ≡ None
clear_after words state hart none apart =
    tells_none words (turn state hart) (record {
      apart = λ i j one other differ got_one got_other. by_first i j one other differ got_one got_other (cases_eq hart i) (cases_eq hart j);
    })
  where
    all : AllApart words state
    all = none_told words state none

    by_first : (i j : ℕ) (one other : HartState) → i ≢ j → slice_get (turn state hart).harts i ≡ Some one → slice_get (turn state hart).harts j ≡ Some other
        → (hart ≡ i) ⊎ (hart ≢ i) → (hart ≡ j) ⊎ (hart ≢ j)
        → shared_by words (turn state hart).text (length (turn state hart).memory) one other ≡ None
    by_first i j one other differ got_one got_other (inl own) its =
        let within = slice_get_within (turn state hart).harts j other got_other in
        let both = apart j (omega arith) within (λ same. differ (sym own ∙ same)) in
        let one_is : one ≡ hart_at (turn state hart) hart = at_hart (turn state hart) i one got_one ∙ ap (hart_at (turn state hart)) (sym own) in
        ap (λ (h : HartState). shared_by words (turn state hart).text (length (turn state hart).memory) h other) one_is
        ∙ ap (shared_by words (turn state hart).text (length (turn state hart).memory) (hart_at (turn state hart) hart)) (at_hart (turn state hart) j other got_other)
        ∙ both.0
    by_first i j one other differ got_one got_other (inr apart_one) (inl own) =
        let within = slice_get_within (turn state hart).harts i one got_one in
        let both = apart i (omega arith) within apart_one in
        let other_is : other ≡ hart_at (turn state hart) hart = at_hart (turn state hart) j other got_other ∙ ap (hart_at (turn state hart)) (sym own) in
        ap (shared_by words (turn state hart).text (length (turn state hart).memory) one) other_is
        ∙ ap (λ (h : HartState). shared_by words (turn state hart).text (length (turn state hart).memory) h (hart_at (turn state hart) hart))
        (at_hart (turn state hart) i one got_one)
        ∙ both.1
    by_first i j one other differ got_one got_other (inr apart_one) (inr apart_other) =
        shared_stays words state hart one other
        (all.apart i j one other differ (sym (others-stay state hart i apart_one) ∙ got_one) (sym (others-stay state hart j apart_other) ∙ got_other))

-- ---- spans that are found one after the other

pub record SpansUpTo (state : State) (spans : List Span) (count : ℕ) : Type 0 where
  pub as_many : length spans ≡ count
  pub each : (number : ℕ) (span : Span) → slice_get spans number ≡ Some span → IsSpan state (hart_at state number) span

pushed_get : (spans : List Span) (span one : Span) (number : ℕ) → slice_get (spans ++ span ∷ []) number ≡ Some one
    → (slice_get spans number ≡ Some one) ⊎ ((number ≡ length spans) × (span ≡ one))
pushed_get [] span one zero got = inr (refl, cc)
pushed_get [] span one (suc number) got = absurd cc
pushed_get (first ∷ spans) span one zero got = inl got
pushed_get (first ∷ spans) span one (suc number) got = elim (pushed_get spans span one number got) [
  | inl before ↦ inl before
  | inr last ↦ (let at_end = last.0 in inr (omega (arith, at_end), last.1))
]

pub span_pushed : (state : State) (spans : List Span) (span : Span) (count : ℕ) → SpansUpTo state spans count → IsSpan state (hart_at state count) span
    → SpansUpTo state (spans ++ span ∷ []) (count + 1)
span_pushed state spans span count up covers = record {
  as_many = (let many = up.as_many in omega (arith, length-append spans (span ∷ []), many));
  each = λ number one got. by_place number one (pushed_get spans span one number got);
}
  where
    by_place : (number : ℕ) (one : Span) → (slice_get spans number ≡ Some one) ⊎ ((number ≡ length spans) × (span ≡ one))
        → IsSpan state (hart_at state number) one
    by_place number one (inl before) = up.each number one before
    by_place number one (inr last) =
        let at_end = last.0 in
        let many = up.as_many in
        let here : count ≡ number = omega (arith, at_end, many) in
        subst (λ (n : ℕ). IsSpan state (hart_at state n) one) here (subst (λ (s : Span). IsSpan state (hart_at state count) s) last.1 covers)

pub no_spans : (state : State) → SpansUpTo state [] 0
no_spans state = record { as_many = refl; each = λ number span got. absurd cc }

pub all_spans : (state : State) (spans : List Span) (count : ℕ) → SpansUpTo state spans count → length state.harts ≤ count → count ≤ length state.harts
    → AreSpans state spans
all_spans state spans count up most least = record {
  as_many = (let many = up.as_many in omega (arith, many, most, least));
  each = up.each;
}

-- ---- harts that are gone through

pub apart_more : (words : List ℕ) (state : State) (hart number : ℕ)
    → (hart ≢ number → AreApart words state (hart_at state hart) (hart_at state number)) → IsApartFrom words state hart (number + 1)
    → IsApartFrom words state hart number
apart_more words state hart number here later other from below differ = by_place (cases_eq number other)
  where
    by_place : (number ≡ other) ⊎ (number ≢ other) → AreApart words state (hart_at state hart) (hart_at state other)
    by_place (inl same) =
        subst (λ (n : ℕ). AreApart words state (hart_at state hart) (hart_at state n)) same (here (λ equal. differ (equal ∙ same)))
    by_place (inr other_one) = later other (omega (arith, from, other_one)) below differ

pub apart_past : (words : List ℕ) (state : State) (hart number : ℕ) → length state.harts ≤ number → IsApartFrom words state hart number
apart_past words state hart number past other from below differ = absurd (omega (arith, past, from, below))

-- two harts whose spans don't meet
pub apart_by_lookup : (words : List ℕ) (state : State) (spans : List Span) (hart number : ℕ) (d e : Span) → AreSpans state spans
    → hart < length state.harts → number < length state.harts → meet (get_or spans hart d) (get_or spans number e) ≡ false
    → AreApart words state (hart_at state hart) (hart_at state number)
apart_by_lookup words state spans hart number d e are below within apart =
    let many = are.as_many in
    apart_by_spans words state (hart_at state hart) (hart_at state number) (get_or spans hart d) (get_or spans number e)
    (are.each hart (get_or spans hart d) (looked_up spans hart d (omega (arith, many, below))))
    (are.each number (get_or spans number e) (looked_up spans number e (omega (arith, many, within)))) apart
  where
    looked_up : (xs : List Span) (i : ℕ) (x : Span) → i < length xs → slice_get xs i ≡ Some (get_or xs i x)
    looked_up [] i x inside = absurd (omega (arith, inside))
    looked_up (y ∷ xs) zero x inside = refl
    looked_up (y ∷ xs) (suc i) x inside = looked_up xs i x (omega (arith, inside))

pub spans_turned : (words : List ℕ) (state : State) (spans : List Span) (hart : ℕ) (span : Span) → JustTurned words state spans hart
    → IsSpan state (hart_at state hart) span → AreSpans state (slice_set spans hart span)
spans_turned words state spans hart span known own =
    subst (λ (ss : List Span). AreSpans state ss) (known.others span)
    (spans_after known.before state hart known.were span known.turned known.there known.spans_were own)
