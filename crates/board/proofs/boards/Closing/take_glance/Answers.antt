use Rattle.std.proofs.Common.{◌≤◌, rules, sym, ap, subst}
use Rattle.board.specs.Rule.{Fits}
use Rattle.board.specs.Tokens.{seen}
use Rattle.board.proofs.Moves.{found-within}
use Rattle.board.proofs.Handing.{gathers, of-both}
use Rattle.board.proofs.boards.Closing.take_glance.Goals as goal

pub join_seat-requires : goal.join_seat-requires
join_seat-requires c = (c.args.self.now.of, c.requires, c.args.glance.counts.1, (search rules), gathers _ _ _ _ _)

pub returns-clause-known : goal.returns-clause-known
returns-clause-known c numbers ends =
    let glance = c.args.glance in
    let was = c.args.self.now.gatherer.me.0 in
    let parts = of-both ends.words was glance.token.me.0 (subst (Fits ends.words) (ap (λ m. m.0) c.join_seat.ensures.2) ends.fits) in (
      record { words = ends.words; fits = parts.0; same = ends.same },
      λ hart below. subst (λ n. seen glance hart ≤ n) (sym (ends.same hart below))
          (found-within ends.words glance.token.me.0.sights hart parts.2),
    )
