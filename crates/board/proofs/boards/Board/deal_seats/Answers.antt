use Rattle.std.proofs.Common.{◌≡◌, All, suc, ◌+◌, ◌-◌, ◌∷◌, rules, drop, sym, ap, ◌∙◌, subst, arith}
use Rattle.std.proofs.lemmas.List.Elements.{All-push}
use Rattle.board.specs.Rule.{at_start}
use Rattle.board.specs.Closing.{IsNewSeat, AreNewSeats, IsUnused}
use Rattle.board.specs.Tokens.{name_of}
use Rattle.board.proofs.Handing.{start-first}
use Rattle.board.proofs.Dealt.{new-push}
use Rattle.board.proofs.boards.Board.deal_seats.Goals as goal

pub deal_seat-seat-requires-clause-first : goal.deal_seat-seat-requires-clause-first
deal_seat-seat-requires-clause-first c =
    let i = c.loop-hart.invariant in
    let f = i.4 ∙ start-first c.loop-hart.hart c.args.self.now.harts (search rules) in
    f ∙ ap (λ rest. (c.loop-hart.hart, 0) ∷ rest) (sym (ap (drop 1) f))

pub loop-hart-preserved : goal.loop-hart-preserved
loop-hart-preserved c =
    let i = c.loop-hart.invariant in
    let f = i.4 ∙ start-first c.loop-hart.hart c.args.self.now.harts (search rules) in
    let d = c.deal_seat-seat.ensures in (
      d.of,
      (search rules),
      subst (AreNewSeats (name_of c.args.self.now) 0) (sym c.in_ok-push.ensures.items) (new-push (name_of c.args.self.now) 0 c.loop-hart.seats.items
          c.deal_seat-seat.result i.2 (subst (λ n. IsNewSeat (name_of c.args.self.now) n c.deal_seat-seat.result) (omega (arith, i.1)) d.seat)),
      subst (All (IsUnused (name_of c.args.self.now))) (sym c.in_ok-push.ensures.items) (All-push (IsUnused (name_of c.args.self.now)) c.loop-hart.seats.items
          c.deal_seat-seat.result i.3 (d.seat.of, d.seat.number)),
      d.rest ∙ ap (drop 1) f ∙ (let next : suc c.loop-hart.hart ≡ c.loop-hart.hart + 1 = omega (arith) in ap (λ n. at_start n (c.args.self.now.harts - n))
          next),
    )
