-- What a run leaves of which all threads have ended.
use Rattle.std.proofs.Common.{◌≡◌, ◌≢◌, ℕ, zero, suc, ◌+◌, ◌%◌, ◌<◌, ◌≤◌, ◌==◌, ◌&&◌, true, false, All, List, [], ◌∷◌, length, Option, Some, None, refl, sym}
use Rattle.std.proofs.Common.{ap, ◌∙◌, subst, arith, eq-eqb, true≢false}
use Rattle.std.specs.Prelude.{IsTrue, slice_index_or}
use Rattle.std.proofs.lemmas.List.Elements.{All-get_or}
use Rattle.std.proofs.lemmas.List.Folds.{list_any_at}
use Rattle.turn_log.specs.TurnLog.{LogState, IsLog, count_of, most_turns}
use Rattle.loader.specs.Image.{ImageContents}
use Rattle.board.specs.Tokens.{BoardId}
use Rattle.shared_machine.specs.declared.origins.Origin.{Ghosts}
use Rattle.shared_machine.specs.declared.refusals.TurnRefusal.TheVariants.{OutOfMemory, TurnsSpent, StopAsked}
use Rattle.shared_machine.specs.declared.seats.Ended.{Ended}
use Rattle.shared_machine.specs.declared.seats.Ended.TheVariants.{Halted, Limit, Shut, Refused}
use Rattle.shared_machine.specs.declared.seats.Seat.{Seat}
use Rattle.shared_machine.specs.Driving.{AreRunOn, HasEndedSo, refused_by, has_refused}
use Rattle.shared_machine.specs.Endings.{IsToldIn}
use Rattle.shared_machine.specs.Log.{BeginsWith, tally}
use Rattle.shared_machine.specs.Running.{IsRunOf}
use Rattle.shared_machine.specs.Seats.{IsSeatAt, AreSeatsAt, has_hart, has_all, hart, number}
use Rattle.shared_machine.specs.Seats as seats
use Rattle.shared_machine.proofs.Stopping.{halted-after}

module _ {O F : Type 0} {G : Ghosts O} (name : BoardId) (numbers tallies : ℕ → ℕ) where
  -- the seats of all harts are in order
  seat-at : (which : ℕ) (seats : List (Seat O F G)) (k : ℕ) (d : Seat O F G) → k < length seats → AreSeatsAt name numbers tallies which seats
      → IsSeatAt name (numbers (which + k)) (tallies (which + k)) (which + k) (slice_index_or seats k d)
  seat-at which [] k d below at = absurd (omega (arith, below))
  seat-at which (seat ∷ others) zero d below at =
      subst (λ n. IsSeatAt name (numbers n) (tallies n) n seat) (let e : which ≡ which + 0 = omega (arith) in e) at.0
  seat-at which (seat ∷ others) (suc k) d below at =
      subst (λ n. IsSeatAt name (numbers n) (tallies n) n (slice_index_or others k d)) (let e : suc which + k ≡ which + suc k = omega (arith) in e)
      (seat-at (suc which) others k d (omega (arith, below)) at.1)

  seat-of : (seats : List (Seat O F G)) (k : ℕ) (d : Seat O F G) → k < length seats → AreSeatsAt name numbers tallies 0 seats
      → IsSeatAt name (numbers k) (tallies k) k (slice_index_or seats k d)
  seat-of seats k d below at =
      subst (λ n. IsSeatAt name (numbers n) (tallies n) n (slice_index_or seats k d)) (let e : 0 + k ≡ k = omega (arith) in e) (seat-at 0 seats k d below at)

-- ---- a seat for each hart

abbrev InOrder : {O F : Type 0} {G : Ghosts O} → List (Seat O F G) → Type 0
InOrder {O} {F} {G} all = (k : ℕ) (d : Seat O F G) → k < length all → hart (slice_index_or all k d) ≡ k

has-one : {O F : Type 0} {G : Ghosts O} (all : List (Seat O F G)) (which : ℕ) → which < length all → InOrder all → has_hart all which ≡ true
has-one [] which below order = absurd (omega (arith, below))
has-one {O} {F} {G} (first ∷ others) which below order =
    list_any_at (λ (seat : Seat O F G). hart seat == which) (first ∷ others) which first below (eq-eqb _ which (order which first below))

has-each : {O F : Type 0} {G : Ghosts O} (all : List (Seat O F G)) (harts : ℕ) → harts ≤ length all → InOrder all → has_all harts all ≡ true
has-each all zero few order = refl
has-each all (suc harts) few order =
    ap (λ b. b && has_hart all harts) (has-each all harts (omega (arith, few)) order) ∙ has-one all harts (omega (arith, few)) order

-- ---- why threads ended

ended-so : {O F : Type 0} {G : Ghosts O} (limit before : ℕ) (seat : Seat O F G) (ended : Option Ended) → HasEndedSo true limit before seat ended
    → refused_by ended ≢ 1 → refused_by ended ≢ 3 → number seat < before + limit → number seat < most_turns → seats.tally seat % 16 ≢ 0
ended-so limit before seat None so memory stop few most = absurd so
ended-so limit before seat (Some Halted) so memory stop few most = so
ended-so limit before seat (Some Limit) so memory stop few most = absurd (omega (arith, so, few))
ended-so limit before seat (Some Shut) so memory stop few most = absurd (true≢false so)
ended-so limit before seat (Some (Refused OutOfMemory)) so memory stop few most = absurd (memory refl)
ended-so limit before seat (Some (Refused TurnsSpent)) so memory stop few most = absurd (omega (arith, so, most))
ended-so limit before seat (Some (Refused StopAsked)) so memory stop few most = absurd (stop refl)

refused-not : {O F : Type 0} {G : Ghosts O} (which : ℕ) (all : List (Seat O F G)) (k : ℕ) (d : Seat O F G) → k < length all → has_refused which all ≡ false
    → refused_by (slice_index_or all k d).ended ≢ which
refused-not {O} {F} {G} which all k d below none is =
    absurd (true≢false (sym (list_any_at (λ (seat : Seat O F G). refused_by seat.ended == which) all k d below (eq-eqb _ which is)) ∙ none))

-- ---- the seats after a drive

module _ {O F : Type 0} {G : Ghosts O} (name : BoardId) (image : ImageContents) (harts : ℕ) (first : List ℕ) (limit : ℕ)
    (olds news : List (Seat O F G)) (all : length olds ≡ harts) (kept : length news ≡ length olds)
    (at : AreSeatsAt name (count_of first) (tally image harts first) 0 olds) (driven : AreRunOn name limit olds news) where
  in-order : InOrder news
  in-order k d below =
      let there : k < length olds = omega (arith, below, kept) in
      (driven k d there).same ∙ (seat-of name (count_of first) (tally image harts first) olds k d there at).is

  pub all-have : IsTrue (has_all harts news)
  all-have = has-each news harts (omega (arith, all, kept)) in-order

  module _ (memory : has_refused 1 news ≡ false) (stopped : has_refused 3 news ≡ false)
      (log : LogState) (words : List ℕ) (told : All (IsToldIn image harts log.turns words) news) where
    -- what is known of a hart by its seat
    record Known (which : ℕ) : Type 0 where
      few : count_of log.turns which ≤ count_of first which + limit
      ends : count_of log.turns which < count_of first which + limit → count_of log.turns which < most_turns → tally image harts log.turns which % 16 ≢ 0

    known-of : (which : ℕ) (d : Seat O F G) → which < harts → Known which
    known-of which d below =
        let there : which < length olds = omega (arith, below, all) in
        let here : which < length news = omega (arith, below, all, kept) in
        let old = slice_index_or olds which d in
        let new = slice_index_or news which d in
        let was = seat-of name (count_of first) (tally image harts first) olds which d there at in
        let drove = driven which d there in
        let is = in-order which d here in
        let tells = All-get_or (IsToldIn image harts log.turns words) news which d here told in
        let count : number new ≡ count_of log.turns which = tells.count ∙ ap (count_of log.turns) is in
        let sum : seats.tally new ≡ tally image harts log.turns which = tells.sum ∙ ap (tally image harts log.turns) is in
        let made : number old ≡ count_of first which = was.made in
        let most = drove.few in
        record {
          few = omega (arith, count, made, most);
          ends = λ fewer most'.
              subst (λ n. n % 16 ≢ 0) sum
              (ended-so limit (number old) new new.ended drove.ended (refused-not 1 news which d here memory) (refused-not 3 news which d here stopped)
              (omega (arith, count, made, fewer)) (omega (arith, count, most')));
        }

    known : (which : ℕ) → which < harts → Known which
    known which below = go news refl
      where
        go : (some : List (Seat O F G)) → some ≡ news → Known which
        go [] is = absurd (let e = ap length is in omega (arith, e, all, kept, below))
        go (d ∷ others) is = known-of which d below

    pub run-of : IsLog log → log.harts ≡ harts → BeginsWith log.turns first → IsRunOf image harts first limit log
    run-of is_log same begins = record {
      is_log = is_log;
      same = same;
      begins = begins;
      few = λ which below. (known which below).few;
      ends = λ which below fewer most. halted-after image harts which log.turns below ((known which below).ends fewer most);
    }
