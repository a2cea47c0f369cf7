-- What is told of a state is a race, and none is left out.
use Rattle.std.proofs.Common.{◌≡◌, ◌≢◌, ◌∙◌, ◌+◌, ◌<◌, ◌≤◌, ◌||◌, ◌&&◌, ◌⊎◌, inl, inr, ℕ, zero, suc, Bool, false, true, refl, sym, ap, subst, arith}
use Rattle.std.proofs.Common.{List, [], ◌∷◌, length, take, Option, Some, None}
use Rattle.std.specs.Prelude.{not, slice_get}
use Rattle.std.proofs.lemmas.Option.{slice_get_within}
use Rattle.hart_core.specs.HartState.{HartState}
use Rattle.hart_core.specs.Turn.{next_of}
use Rattle.multi_hart.specs.Run.{State, is_in, reads, run, turn, writes}
use Rattle.work_sharing.specs.Turns.{Race, is_byte_of}
use Rattle.race_reports.specs.declared.found.FirstRace.{FirstRace}
use Rattle.race_reports.specs.declared.found.RacingTurns.{RacingTurns}
use Rattle.race_reports.specs.Laws.{IsFirstRace}
use Rattle.race_reports.specs.Races.{first_other, first_race, is_shared, or_later, race_in, shared_by}
use Rattle.race_reports.proofs.Sharing.{found_none, found_one, none_of_others, none_of_writers, others_none, others_some, writers_none, writers_some}

-- no two of the harts race
pub record AllApart (words : List ℕ) (state : State) : Type 0 where
  pub apart : (i j : ℕ) (one other : HartState) → i ≢ j → slice_get state.harts i ≡ Some one → slice_get state.harts j ≡ Some other
      → shared_by words state.text (length state.memory) one other ≡ None

pub none_told : (words : List ℕ) (state : State) → race_in words state ≡ None → AllApart words state
none_told words state none = record {
  apart = λ i j one other differ got_one got_other.
      (let writer = writers_none words state.text (length state.memory) state.harts 0 state.harts none i one got_one in
      let same : 0 + i ≡ i = omega arith in
      others_none words state.text (length state.memory) i one 0 state.harts
      (sym (ap (λ (n : ℕ). first_other words state.text (length state.memory) n one 0 state.harts) same) ∙ writer) j other got_other
      (λ equal. differ (omega (arith, equal))));
}

pub tells_none : (words : List ℕ) (state : State) → AllApart words state → race_in words state ≡ None
tells_none words state all =
    none_of_writers words state.text (length state.memory) state.harts 0 state.harts (λ i one got_one.
    none_of_others words state.text (length state.memory) (0 + i) one 0 state.harts (λ j other got_other differ.
    all.apart i j one other (λ equal. differ (omega (arith, equal))) got_one got_other))

-- ---- races by their definition

both_true : (a b : Bool) → a && b ≡ true → (a ≡ true) × (b ≡ true)
both_true true b e = (refl, e)
both_true false b e = absurd cc

either_true : (a b : Bool) → a || b ≡ true → (a ≡ true) ⊎ (b ≡ true)
either_true true b e = inl refl
either_true false b e = inr e

not_true : (b : Bool) → not b ≡ true → b ≡ false
not_true true e = absurd cc
not_true false e = refl

-- a byte that one turn writes and another one touches is shared
shared_byte : (words read written : List ℕ) (place : ℕ) → is_byte_of words place ≡ false
    → (is_in place read ≡ true) ⊎ (is_in place written ≡ true) → is_shared words read written place ≡ true
shared_byte words read written place outside touched =
    ap (λ b. (is_in place read || is_in place written) && not b) outside ∙ ap (λ b. b && true) (either touched)
  where
    kept : (b : Bool) → b ≡ true → (a : Bool) → a || b ≡ true
    kept b is true = refl
    kept b is false = is

    either : (is_in place read ≡ true) ⊎ (is_in place written ≡ true) → is_in place read || is_in place written ≡ true
    either (inl reads_it) = ap (λ b. b || is_in place written) reads_it
    either (inr writes_it) = kept (is_in place written) writes_it (is_in place read)

pub no_race : (words : List ℕ) (state : State) → race_in words state ≡ None → Race words state → ⊥
no_race words state none race =
    let all = none_told words state none in
    let bytes : ℕ = length state.memory in
    let next = next_of state.text bytes race.other in
    let unshared = found_none words (reads next race.other) (writes next race.other) (writes (next_of state.text bytes race.one) race.one)
    (all.apart race.first race.second race.one race.other race.apart race.is_first race.is_second) race.place race.written in
    let shared = shared_byte words (reads next race.other) (writes next race.other) race.place race.no_control race.touched in
    let clash : true ≡ false = sym shared ∙ unshared in
    absurd cc

-- the race of a state that is told
pub record IsToldRace (words : List ℕ) (state : State) (told : RacingTurns) : Type 0 where
  pub race : Race words state
  pub writer_is : race.first ≡ told.writer
  pub other_is : race.second ≡ told.other
  pub byte_is : race.place ≡ told.byte

pub told_race : (words : List ℕ) (state : State) (told : RacingTurns) → race_in words state ≡ Some told → IsToldRace words state told
told_race words state told is =
    let bytes : ℕ = length state.memory in
    let writer = writers_some words state.text bytes state.harts 0 state.harts told is in
    let second = others_some words state.text bytes (0 + writer.k) writer.one 0 state.harts told writer.tells in
    let next = next_of state.text bytes second.other in
    let found = found_one words (reads next second.other) (writes next second.other) (writes (next_of state.text bytes writer.one) writer.one) told.byte
    second.shares in
    let both = both_true (is_in told.byte (reads next second.other) || is_in told.byte (writes next second.other)) (not (is_byte_of words told.byte))
    found.shared in
    let differs = second.apart in
    let writer_is = second.writer_is in
    let number_is = second.number_is in
    record {
      race = record {
        first = writer.k;
        second = second.k;
        apart = λ same. differs (omega (arith, same));
        one = writer.one;
        other = second.other;
        is_first = writer.there;
        is_second = second.there;
        place = told.byte;
        no_control = not_true (is_byte_of words told.byte) both.1;
        written = found.among;
        touched = either_true (is_in told.byte (reads next second.other)) (is_in told.byte (writes next second.other)) both.0;
      };
      writer_is = omega (arith, writer_is);
      other_is = omega (arith, number_is);
      byte_is = refl;
    }

-- ---- turns

later_none : (place : ℕ) (o : Option RacingTurns) (later : Option FirstRace) → or_later place o later ≡ None → (o ≡ None) × (later ≡ None)
later_none place None later e = (refl, e)
later_none place (Some told) later e = absurd cc

pub clear_at : (words : List ℕ) (place : ℕ) (state : State) (turns : List ℕ) → first_race words place state turns ≡ None
    → (k : ℕ) → k ≤ length turns → race_in words (run state (take k turns)) ≡ None
clear_at words place state [] none zero within = (later_none place (race_in words state) None none).0
clear_at words place state [] none (suc k) within = absurd (omega (arith, within))
clear_at words place state (hart ∷ turns) none zero within =
    (later_none place (race_in words state) (first_race words (place + 1) (turn state hart) turns) none).0
clear_at words place state (hart ∷ turns) none (suc k) within =
    clear_at words (place + 1) (turn state hart) turns
    (later_none place (race_in words state) (first_race words (place + 1) (turn state hart) turns) none).1 k (omega (arith, within))

-- the first race is this many turns on
pub record StandsAt (words : List ℕ) (place : ℕ) (state : State) (turns : List ℕ) (found : FirstRace) : Type 0 where
  pub k : ℕ
  pub place_is : found.place ≡ place + k
  pub within : k ≤ length turns
  pub tells : race_in words (run state (take k turns)) ≡ Some found.turns
  pub clear : (j : ℕ) → j < k → race_in words (run state (take j turns)) ≡ None

found_here : (words : List ℕ) (place : ℕ) (state : State) (turns : List ℕ) (found : FirstRace) (told : RacingTurns) → race_in words state ≡ Some told
    → Some (record { place = place; turns = told }) ≡ Some found → StandsAt words place state turns found
found_here words place state turns found told tells e =
    let same : (record { place = place; turns = told }) ≡ found = cc in
    let place_is : found.place ≡ place = ap (λ (f : FirstRace). f.place) (sym same) in
    record {
      k = 0;
      place_is = omega (arith, place_is);
      within = omega arith;
      tells = tells ∙ ap (λ (f : FirstRace). Some f.turns) same;
      clear = λ j below. absurd (omega (arith, below));
    }

pub stands_at : (words : List ℕ) (place : ℕ) (state : State) (turns : List ℕ) (found : FirstRace) → first_race words place state turns ≡ Some found
    → StandsAt words place state turns found
stands_at words place state [] found is = go (race_in words state) refl is
  where
    go : (o : Option RacingTurns) → race_in words state ≡ o → or_later place o None ≡ Some found → StandsAt words place state [] found
    go None tells e = absurd cc
    go (Some told) tells e = found_here words place state [] found told tells e
stands_at words place state (hart ∷ turns) found is =
    go (race_in words state) refl is (stands_at words (place + 1) (turn state hart) turns found)
  where
    clear_before : race_in words state ≡ None → (t : StandsAt words (place + 1) (turn state hart) turns found) → (j : ℕ) → j < suc t.k
        → race_in words (run state (take j (hart ∷ turns))) ≡ None
    clear_before none t zero below = none
    clear_before none t (suc j) below = t.clear j (omega (arith, below))

    go : (o : Option RacingTurns) → race_in words state ≡ o → or_later place o (first_race words (place + 1) (turn state hart) turns) ≡ Some found
        → (first_race words (place + 1) (turn state hart) turns ≡ Some found → StandsAt words (place + 1) (turn state hart) turns found)
        → StandsAt words place state (hart ∷ turns) found
    go None none e later =
        let t = later e in
        record {
          k = suc t.k;
          place_is = (let p = t.place_is in omega (arith, p));
          within = (let w = t.within in omega (arith, w));
          tells = t.tells;
          clear = clear_before none t;
        }
    go (Some told) tells e later = found_here words place state (hart ∷ turns) found told tells e

pub told_first : (words : List ℕ) (begin : State) (turns : List ℕ) (found : FirstRace) → first_race words 0 begin turns ≡ Some found
    → IsFirstRace words begin turns found
told_first words begin turns found is =
    let t = stands_at words 0 begin turns found is in
    let place_is = t.place_is in
    let same : t.k ≡ found.place = omega (arith, place_is) in
    let tells = subst (λ (k : ℕ). race_in words (run begin (take k turns)) ≡ Some found.turns) same t.tells in
    let one = told_race words (run begin (take found.place turns)) found.turns tells in
    let within = t.within in
    record {
      within = omega (arith, within, same);
      race = one.race;
      writer_is = one.writer_is;
      other_is = one.other_is;
      byte_is = one.byte_is;
      none_before = λ place before. no_race words (run begin (take place turns)) (t.clear place (omega (arith, before, same)));
    }

-- ---- the other way: what is found turn by turn is the first race

pub tells_clear : (words : List ℕ) (place : ℕ) (state : State) (turns : List ℕ)
    → ((k : ℕ) → k ≤ length turns → race_in words (run state (take k turns)) ≡ None) → first_race words place state turns ≡ None
tells_clear words place state [] clear = ap (λ o. or_later place o None) (clear 0 (omega arith))
tells_clear words place state (hart ∷ turns) clear =
    ap (λ o. or_later place o (first_race words (place + 1) (turn state hart) turns)) (clear 0 (omega arith))
    ∙ tells_clear words (place + 1) (turn state hart) turns (λ k within. clear (suc k) (omega (arith, within)))

pub tells_first : (words : List ℕ) (place : ℕ) (state : State) (turns : List ℕ) (k : ℕ) (told : RacingTurns) → k ≤ length turns
    → ((j : ℕ) → j < k → race_in words (run state (take j turns)) ≡ None) → race_in words (run state (take k turns)) ≡ Some told
    → first_race words place state turns ≡ Some (record { place = place + k; turns = told })
tells_first words place state [] zero told within clear tells =
    let same : place ≡ place + 0 = omega arith in
    ap (λ o. or_later place o None) tells ∙ ap (λ (p : ℕ). Some (record { place = p; turns = told })) same
tells_first words place state [] (suc k) told within clear tells = absurd (omega (arith, within))
tells_first words place state (hart ∷ turns) zero told within clear tells =
    let same : place ≡ place + 0 = omega arith in
    ap (λ o. or_later place o (first_race words (place + 1) (turn state hart) turns)) tells
    ∙ ap (λ (p : ℕ). Some (record { place = p; turns = told })) same
tells_first words place state (hart ∷ turns) (suc k) told within clear tells =
    let same : place + 1 + k ≡ place + suc k = omega arith in
    ap (λ o. or_later place o (first_race words (place + 1) (turn state hart) turns)) (clear 0 (omega arith))
    ∙ tells_first words (place + 1) (turn state hart) turns k told (omega (arith, within)) (λ j below. clear (suc j) (omega (arith, below))) tells
    ∙ ap (λ (p : ℕ). Some (record { place = p; turns = told })) same

-- the harts that are told are there
pub told_harts : (words : List ℕ) (begin : State) (turns : List ℕ) (found : FirstRace) → first_race words 0 begin turns ≡ Some found
    → (found.turns.writer < length (run begin (take found.place turns)).harts) × (found.turns.other < length (run begin (take found.place turns)).harts)
told_harts words begin turns found is =
    let told = told_first words begin turns found is in
    let after = run begin (take found.place turns) in
    let first = slice_get_within after.harts told.race.first told.race.one told.race.is_first in
    let second = slice_get_within after.harts told.race.second told.race.other told.race.is_second in
    let writer = told.writer_is in
    let other = told.other_is in
    (omega (arith, first, writer), omega (arith, second, other))
