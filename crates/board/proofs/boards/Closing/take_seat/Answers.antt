use Rattle.std.proofs.Common.{rules, ap, ◌∙◌, subst}
use Rattle.board.specs.Rule.{Fits}
use Rattle.board.proofs.Handing.{gathers, of-both, knows-word}
use Rattle.board.proofs.boards.Closing.take_seat.Goals as goal

pub join_seat-requires : goal.join_seat-requires
join_seat-requires c = (c.args.self.now.of, c.requires, c.args.seat.counts.1, (search rules), gathers _ _ _ _ _)

pub returns-clause-known : goal.returns-clause-known
returns-clause-known c numbers ends =
    let seat = c.args.seat in
    let was = c.args.self.now.gatherer.me.0 in
    let parts = of-both ends.words was seat.token.me.0 (subst (Fits ends.words) (ap (λ m. m.0) c.join_seat.ensures.2) ends.fits) in (
      record { words = ends.words; fits = parts.0; same = ends.same },
      ends.same seat.hart seat.below
          ∙ knows-word ends.words seat.token.me.0.counts seat.hart seat.number seat.counts.0 parts.1,
    )
