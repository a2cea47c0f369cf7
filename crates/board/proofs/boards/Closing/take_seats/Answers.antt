use Rattle.std.proofs.Common.{All, Some, rules, sym, ap, ◌∙◌, subst}
use Rattle.std.proofs.lemmas.List.Elements.{All-pop, All-push}
use Rattle.board.specs.Closing.{HasItsWord}
use Rattle.board.specs.Tokens.{name_of, IsSeatOf}
use Rattle.board.proofs.boards.Closing.take_seats.Goals as goal

pub take_seat-requires : goal.take_seat-requires
take_seat-requires c =
    let i = c.loop-seat.invariant in
    let here = All-pop (IsSeatOf (name_of c.args.self.now.board)) c.loop-seat.seats.items c.pop.new.self.items (Some c.in-Some.seat) c.in-Some.ensures.items i.1
    in
    here.1 ∙ ap name_of (sym i.0)

pub loop-seat-preserved : goal.loop-seat-preserved
loop-seat-preserved c =
    let i = c.loop-seat.invariant in
    let items = c.in-Some.ensures.items in
    let here = All-pop (IsSeatOf (name_of c.args.self.now.board)) c.loop-seat.seats.items c.pop.new.self.items (Some c.in-Some.seat) items i.1 in
    let took = c.take_seat.ensures in (
      took.board ∙ i.0,
      here.0,
      λ numbers ends.
          let now = took.known numbers ends in
          let before = i.2 numbers now.0 in (
            before.0,
            λ rest. before.1 (subst (All (HasItsWord numbers)) (sym items) (All-push (HasItsWord numbers) c.pop.new.self.items c.in-Some.seat rest
                now.1)),
          ),
    )

pub returns-clause-known : goal.returns-clause-known
returns-clause-known c = λ numbers ends. let before = c.loop-seat.invariant.2 numbers ends in (before.0, before.1 (search rules))
