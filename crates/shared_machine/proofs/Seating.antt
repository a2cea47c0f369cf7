-- Shares and places are taken from the end.
use Rattle.std.proofs.Common.{◌≡◌, ℕ, zero, suc, ◌+◌, ◌<◌, ◌&&◌, Bool, true, false, List, [], ◌∷◌, ◌++◌, length, take, subst, refl, sym, ap, ◌∙◌, arith}
use Rattle.std.specs.Prelude.{All}
use Rattle.std.proofs.lemmas.List.Elements.{All-nil, All-cons}
use mathlib.Core.Logic.{dite}
use native.Mathlib.Decide.{ℕ_discrete}
use Rattle.board.specs.Tokens.{BoardId}
use Rattle.board.specs.declared.boards.BoardSeat.{BoardSeat}
use Rattle.board.specs.Closing as on_board
use Rattle.shared_machine.specs.declared.books.Shares.{Shares}
use Rattle.shared_machine.specs.declared.origins.Origin.{Ghosts}
use Rattle.shared_machine.specs.declared.seats.Seat.{Seat}
use Rattle.shared_machine.specs.Seats.{IsSeatOf, AreSeatsAt, has_hart, has_all}
use Rattle.shared_machine.specs.Tallies.{hart_of, number_in, tally_in, AreSharesAt}

pub record LastShares {F : Type 0} (numbers tallies : ℕ → ℕ) (hart : ℕ) (shares : List (Shares F)) (last : Shares F) : Type 0 where
  pub front : AreSharesAt numbers tallies hart shares
  pub is : hart_of last ≡ hart + length shares
  pub number : number_in last ≡ numbers (hart + length shares)
  pub tally : tally_in last ≡ tallies (hart + length shares)

pub shares-last : {F : Type 0} (numbers tallies : ℕ → ℕ) (hart : ℕ) (all shares : List (Shares F)) (last : Shares F) → all ≡ shares ++ last ∷ []
    → AreSharesAt numbers tallies hart all → LastShares numbers tallies hart shares last
shares-last {F} numbers tallies hart all shares last is at = go hart shares (subst (AreSharesAt numbers tallies hart) is at)
  where
    go : (hart : ℕ) (shares : List (Shares F)) → AreSharesAt numbers tallies hart (shares ++ last ∷ []) → LastShares numbers tallies hart shares last
    go hart [] at = let e : hart ≡ hart + 0 = omega (arith) in record { front = tt; is = at.0 ∙ e; number = at.1 ∙ ap numbers e; tally = at.2 ∙ ap tallies e }
    go hart (one ∷ others) at = let r = go (suc hart) others at.3 in let e : suc hart + length others ≡ hart + length (one ∷ others) = omega (arith) in
        record { front = (at.0, at.1, at.2, r.front); is = r.is ∙ e; number = r.number ∙ ap numbers e; tally = r.tally ∙ ap tallies e }

pub places-last : (board : BoardId) (hart : ℕ) (all places : List BoardSeat) (last : BoardSeat) → all ≡ places ++ last ∷ []
    → on_board.AreNewSeats board hart all → on_board.AreNewSeats board hart places × on_board.IsNewSeat board (hart + length places) last
places-last board hart all places last is new = go hart places (subst (on_board.AreNewSeats board hart) is new)
  where
    go : (hart : ℕ) (places : List BoardSeat) → on_board.AreNewSeats board hart (places ++ last ∷ []) → on_board.AreNewSeats board hart places
        × on_board.IsNewSeat board (hart + length places) last
    go hart [] new = (tt, subst (λ n. on_board.IsNewSeat board n last) (let e : hart ≡ hart + 0 = omega (arith) in e) new.0)
    go hart (one ∷ others) new = let r = go (suc hart) others new.1 in (
      (new.0, r.0),
      subst (λ n. on_board.IsNewSeat board n last) (let e : suc hart + length
          others ≡ hart + length (one ∷ others) = omega (arith) in e) r.1,
    )

pub shorter : {A : Type 0} (all front : List A) (last : A) → all ≡ front ++ last ∷ [] → length all ≡ length front + 1
shorter {A} all front last is = ap length is ∙ go front
  where
    go : (front : List A) → length (front ++ last ∷ []) ≡ length front + 1
    go [] = omega (arith)
    go (x ∷ xs) = let h = go xs in omega (arith, h)

pub shares-take : {F : Type 0} (numbers tallies : ℕ → ℕ) (hart n : ℕ) (shares : List (Shares F)) → AreSharesAt numbers tallies hart shares
    → AreSharesAt numbers tallies hart (take n shares)
shares-take numbers tallies hart zero shares at = tt
shares-take numbers tallies hart (suc n) [] at = tt
shares-take numbers tallies hart (suc n) (one ∷ others) at = (at.0, at.1, at.2, shares-take numbers tallies (suc hart) n others at.3)

-- where one hart has no seat, not all have
pub has-not-all : {O F : Type 0} {G : Ghosts O} (seats : List (Seat O F G)) (which harts : ℕ) → which < harts → has_hart seats which ≡ false
    → has_all harts seats ≡ false
has-not-all seats which zero below none = absurd (omega (arith))
has-not-all seats which (suc harts) below none =
    dite (ℕ_discrete which harts)
    (λ e. ap (λ b. has_all harts seats && b) (ap (has_hart seats) (sym e) ∙ none) ∙ and-false (has_all harts seats))
    (λ n. ap (λ b. b && has_hart seats harts) (has-not-all seats which harts (omega (arith, n)) none))
  where
    and-false : (b : Bool) → (b && false) ≡ false
    and-false true = refl
    and-false false = refl

-- such seats are the machine's
pub seats-of : {O F : Type 0} {G : Ghosts O} (name : BoardId) (numbers tallies : ℕ → ℕ) (which : ℕ) (seats : List (Seat O F G))
    → AreSeatsAt name numbers tallies which seats → All (IsSeatOf name) seats
seats-of name numbers tallies which [] at = All-nil (IsSeatOf name)
seats-of name numbers tallies which (seat ∷ others) at = All-cons (IsSeatOf name) seat others at.0.of (seats-of name numbers tallies (suc which) others at.1)
