-- Turns of a log that are passed without a race, one stretch after the other, up to the first race.
use Rattle.std.proofs.Common.{◌≡◌, ◌∙◌, ◌+◌, ◌-◌, ◌<◌, ◌≤◌, ◌⊎◌, inl, inr, ℕ, zero, suc, refl, sym, ap, subst, arith}
use Rattle.std.proofs.Common.{List, ◌∷◌, ◌++◌, length, replicate, take, drop, Some, None}
use Rattle.std.proofs.Math.Seq.{take-add}
use Rattle.std.proofs.lemmas.Bool.{cases_lt}
use Rattle.std.proofs.lemmas.List.{length-replicate, take-append-le, take-replicate}
use Rattle.multi_hart.specs.Run.{KeepsShape, State, run}
use Rattle.multi_hart.proofs.Resting.{run-append}
use Rattle.multi_hart.proofs.TurnByTurn.{shape-run, shape-then}
use Rattle.turn_log.specs.RunAt.{Stand}
use Rattle.turn_accesses.specs.declared.spans.Span.{Span}
use Rattle.race_reports.specs.declared.found.RacingTurns.{RacingTurns}
use Rattle.race_reports.specs.Races.{first_race, race_in}
use Rattle.race_reports.specs.inner.Watching.{AreClear, AreSpans}
use Rattle.race_reports.proofs.Told.{tells_clear, tells_first}

-- some turns of a hart were made
pub record SoFar (words : List ℕ) (start now : State) (spans : List Span) (hart made count : ℕ) : Type 0 where
  pub few : made ≤ count
  pub shape : KeepsShape start now
  pub state : now ≡ run start (replicate made hart)
  pub spans_are : AreSpans now spans
  pub clear : (k : ℕ) → k ≤ made → race_in words (run start (replicate k hart)) ≡ None

-- some stretches of a log were made
pub record UpTo (words : List ℕ) (start now : State) (spans : List Span) (turns : List ℕ) (place : ℕ) : Type 0 where
  pub within : place ≤ length turns
  pub shape : KeepsShape start now
  pub state : now ≡ run start (take place turns)
  pub spans_are : AreSpans now spans
  pub clear : (k : ℕ) → k ≤ place → race_in words (run start (take k turns)) ≡ None

pub same_shape : (state : State) → KeepsShape state state
same_shape state = record { text = refl; bytes = refl; harts = refl }

pub none_made : (words : List ℕ) (start : State) (spans : List Span) (hart count : ℕ) → AreSpans start spans → race_in words start ≡ None
    → SoFar words start start spans hart 0 count
none_made words start spans hart count are none = record {
  few = omega arith;
  shape = same_shape start;
  state = refl;
  spans_are = are;
  clear = first;
}
  where
    first : (k : ℕ) → k ≤ 0 → race_in words (run start (replicate k hart)) ≡ None
    first zero within = none
    first (suc k) within = absurd (omega (arith, within))

joined : (hart m n : ℕ) → replicate m hart ++ replicate n hart ≡ replicate (m + n) hart
joined hart zero n = let same : n ≡ 0 + n = omega arith in ap (λ (k : ℕ). replicate k hart) same
joined hart (suc m) n =
    let same : suc (m + n) ≡ suc m + n = omega arith in
    ap (λ ts. hart ∷ ts) (joined hart m n) ∙ ap (λ (k : ℕ). replicate k hart) same

-- this many more turns of the hart
pub run_then : (words : List ℕ) (start now : State) (spans : List Span) (hart made count : ℕ) → SoFar words start now spans hart made count
    → (n : ℕ) → run now (replicate n hart) ≡ run start (replicate (made + n) hart)
run_then words start now spans hart made count so n =
    ap (λ (s : State). run s (replicate n hart)) so.state ∙ sym (run-append start (replicate made hart) (replicate n hart))
    ∙ ap (run start) (joined hart made n)

pub clear_then : (words : List ℕ) (start now : State) (spans : List Span) (hart made more count : ℕ) → SoFar words start now spans hart made count
    → AreClear words now hart more → AreClear words start hart (made + more)
clear_then words start now spans hart made more count so between k below = by_place (cases_lt made k)
  where
    by_place : (made < k) ⊎ (k ≤ made) → race_in words (run start (replicate k hart)) ≡ None
    by_place (inl past) =
        let same : made + (k - made) ≡ k = omega (arith, past) in
        ap (λ (n : ℕ). race_in words (run start (replicate n hart))) (sym same)
        ∙ ap (race_in words) (sym (run_then words start now spans hart made count so (k - made)))
        ∙ between (k - made) (omega (arith, below, past))
    by_place (inr before) = so.clear k before

-- after which nothing races either
pub more_made : (words : List ℕ) (start now after : State) (spans spans' : List Span) (hart made more count : ℕ)
    → SoFar words start now spans hart made count → made + more ≤ count → after ≡ run now (replicate more hart) → AreSpans after spans'
    → AreClear words now hart more → race_in words after ≡ None → SoFar words start after spans' hart (made + more) count
more_made words start now after spans spans' hart made more count so few is are between none = record {
  few = few;
  shape = shape-then start now after so.shape (subst (KeepsShape now) (sym is) (shape-run now (replicate more hart)));
  state = is ∙ run_then words start now spans hart made count so more;
  spans_are = are;
  clear = λ k within. by_place k within (cases_lt k (made + more));
}
  where
    by_place : (k : ℕ) → k ≤ made + more → (k < made + more) ⊎ (made + more ≤ k) → race_in words (run start (replicate k hart)) ≡ None
    by_place k within (inl below) = clear_then words start now spans hart made more count so between k below
    by_place k within (inr at_end) =
        let same : k ≡ made + more = omega (arith, within, at_end) in
        ap (λ (n : ℕ). race_in words (run start (replicate n hart))) same
        ∙ ap (race_in words) (sym (is ∙ run_then words start now spans hart made count so more)) ∙ none

-- ---- stretches of a log

pub taken : (turns : List ℕ) (place hart count k : ℕ) → Stand turns place hart count → k ≤ count
    → take (place + k) turns ≡ take place turns ++ replicate k hart
taken turns place hart count k stand few =
    take-add place k turns
    ∙ ap (λ xs. take place turns ++ xs) (ap (take k) stand.parts
    ∙ take-append-le k (replicate count hart) (drop (place + count) turns) (omega (arith, length-replicate count hart, few))
    ∙ take-replicate k count hart few)

pub run_on : (words : List ℕ) (start now : State) (spans : List Span) (turns : List ℕ) (place hart count k : ℕ) → UpTo words start now spans turns place
    → Stand turns place hart count → k ≤ count → run now (replicate k hart) ≡ run start (take (place + k) turns)
run_on words start now spans turns place hart count k up stand few =
    ap (λ (s : State). run s (replicate k hart)) up.state ∙ sym (run-append start (take place turns) (replicate k hart))
    ∙ ap (run start) (sym (taken turns place hart count k stand few))

-- no race before this many turns of a stretch
pub clear_on : (words : List ℕ) (start now : State) (spans : List Span) (turns : List ℕ) (place hart count made : ℕ)
    → UpTo words start now spans turns place → Stand turns place hart count → made ≤ count → AreClear words now hart made
    → (j : ℕ) → j < place + made → race_in words (run start (take j turns)) ≡ None
clear_on words start now spans turns place hart count made up stand few between j below = by_place (cases_lt place j)
  where
    by_place : (place < j) ⊎ (j ≤ place) → race_in words (run start (take j turns)) ≡ None
    by_place (inl past) =
        let same : place + (j - place) ≡ j = omega (arith, past) in
        let inside : j - place ≤ count = omega (arith, below, few, past) in
        ap (λ (n : ℕ). race_in words (run start (take n turns))) (sym same)
        ∙ ap (race_in words) (sym (run_on words start now spans turns place hart count (j - place) up stand inside))
        ∙ between (j - place) (omega (arith, below, past))
    by_place (inr before) = up.clear j before

pub stretch_passed : (words : List ℕ) (start now after : State) (spans spans' : List Span) (turns : List ℕ) (place hart count : ℕ)
    → UpTo words start now spans turns place → Stand turns place hart count → after ≡ run now (replicate count hart) → AreSpans after spans'
    → AreClear words now hart count → race_in words after ≡ None → UpTo words start after spans' turns (place + count)
stretch_passed words start now after spans spans' turns place hart count up stand is are between none = record {
  within = stand.within;
  shape = shape-then start now after up.shape (subst (KeepsShape now) (sym is) (shape-run now (replicate count hart)));
  state = is ∙ run_on words start now spans turns place hart count count up stand (omega arith);
  spans_are = are;
  clear = λ k within. by_place k within (cases_lt k (place + count));
}
  where
    by_place : (k : ℕ) → k ≤ place + count → (k < place + count) ⊎ (place + count ≤ k) → race_in words (run start (take k turns)) ≡ None
    by_place k within (inl below) = clear_on words start now spans turns place hart count count up stand (omega arith) between k below
    by_place k within (inr at_end) =
        let same : k ≡ place + count = omega (arith, within, at_end) in
        ap (λ (n : ℕ). race_in words (run start (take n turns))) same
        ∙ ap (race_in words) (sym (is ∙ run_on words start now spans turns place hart count count up stand (omega arith))) ∙ none

pub race_told : (words : List ℕ) (start now after : State) (spans : List Span) (turns : List ℕ) (place hart count made : ℕ) (told : RacingTurns)
    → UpTo words start now spans turns place → Stand turns place hart count → made ≤ count → after ≡ run now (replicate made hart)
    → AreClear words now hart made → race_in words after ≡ Some told
    → first_race words 0 start turns ≡ Some (record { place = place + made; turns = told })
race_told words start now after spans turns place hart count made told up stand few is between tells =
    let same : 0 + (place + made) ≡ place + made = omega arith in
    let within = stand.within in
    tells_first words 0 start turns (place + made) told (omega (arith, within, few))
    (clear_on words start now spans turns place hart count made up stand few between)
    (ap (race_in words) (sym (is ∙ run_on words start now spans turns place hart count made up stand few)) ∙ tells)
    ∙ ap (λ (p : ℕ). Some (record { place = p; turns = told })) same

pub none_at_all : (words : List ℕ) (start now : State) (spans : List Span) (turns : List ℕ) (place : ℕ) → UpTo words start now spans turns place
    → length turns ≤ place → first_race words 0 start turns ≡ None
none_at_all words start now spans turns place up behind =
    tells_clear words 0 start turns (λ k within. up.clear k (omega (arith, within, behind)))

pub at_start : (words : List ℕ) (start : State) (spans : List Span) (turns : List ℕ) → AreSpans start spans → race_in words start ≡ None
    → UpTo words start start spans turns 0
at_start words start spans turns are none = record {
  within = omega arith;
  shape = same_shape start;
  state = refl;
  spans_are = are;
  clear = first;
}
  where
    first : (k : ℕ) → k ≤ 0 → race_in words (run start (take k turns)) ≡ None
    first zero within = none
    first (suc k) within = absurd (omega (arith, within))
