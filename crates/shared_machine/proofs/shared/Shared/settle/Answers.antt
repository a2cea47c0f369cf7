use Rattle.std.proofs.Common.{All, Some, rules, sym, ap, ◌∙◌, subst}
use Rattle.std.proofs.lemmas.List.Elements.{All-pop, All-push}
use Rattle.std.specs.Prelude.{slice_index}
use Rattle.board.specs.Tokens.{name_of}
use Rattle.shared_machine.specs.Seats.{IsSeatOf}
use Rattle.shared_machine.specs.Endings.{IsToldIn}
use Rattle.shared_machine.proofs.shared.Shared.settle.Goals as goal

pub loop-seat-preserved : goal.loop-seat-preserved
loop-seat-preserved g c =
    let i = c.loop-seat.invariant in
    let seat = c.in-Some.seat in
    let items = c.in-Some.ensures.items in
    let here = All-pop (IsSeatOf (name_of c.args.self.board)) c.loop-seat.seats.items c.pop.new.self.items (Some seat) items i.of in
    let board = c.take_glance.ensures.board ∙ c.take_seat.ensures.board in
    let turns = c.loop-seat.guarded.locked.log.turns in
    let log = ap (λ l. l.turns) c.agree.ensures.same.1 in record {
      name = ap name_of board ∙ i.name;
      harts = ap (λ b. b.harts) board ∙ i.harts;
      of = here.0;
      told = λ words ends.
          let looked = c.take_glance.ensures.known words ends in
          let counted = c.take_seat.ensures.known words looked.0 in
          let before = i.told words counted.0 in
          let told : IsToldIn g.O.Origin.image g.O.Origin.harts turns words seat = record {
            count = c.agree.ensures.number;
            sum = c.agree.ensures.tally;
            word = ap (slice_index words) (sym seat.hart) ∙ counted.1 ∙ seat.number;
          } in
          subst (λ ts. All (IsToldIn g.O.Origin.image g.O.Origin.harts ts words) c.pop.new.self.items
          → All (IsToldIn g.O.Origin.image g.O.Origin.harts ts words) c.args.seats.items) (sym log)
          (λ rest. before (subst (All (IsToldIn g.O.Origin.image g.O.Origin.harts turns words)) (sym items)
          (All-push (IsToldIn g.O.Origin.image g.O.Origin.harts turns words) c.pop.new.self.items seat rest told)));
    }

pub returns-clause-told : goal.returns-clause-told
returns-clause-told g c =
    let i = c.loop-seat.invariant in
    let log = ap (λ l. l.turns) c.into_parts-machine.ensures.same.1 in
    subst (λ ts. All (IsToldIn g.O.Origin.image g.O.Origin.harts ts c.finish.result) c.args.seats.items) (sym log) (i.told c.finish.result c.finish.ensures.ends
    (search rules))

pub take_glance-requires : goal.take_glance-requires
take_glance-requires g c =
    let i = c.loop-seat.invariant in
    let here = All-pop (IsSeatOf (name_of c.args.self.board)) c.loop-seat.seats.items c.pop.new.self.items (Some c.in-Some.seat) c.in-Some.ensures.items i.of in
    here.1.1 ∙ sym (ap name_of c.take_seat.ensures.board ∙ i.name)
