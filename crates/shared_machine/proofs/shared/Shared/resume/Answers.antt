use Rattle.std.proofs.Common.{sym, ap, ◌∙◌, subst, take}
use Rattle.shared_machine.specs.Tallies.{AreSharesAt}
use Rattle.shared_machine.proofs.Seating.{shares-take, seats-of}
use Rattle.shared_machine.proofs.shared.Shared.resume.Goals as goal

pub take_seats-requires-clause-shares : goal.take_seats-requires-clause-shares
take_seats-requires-clause-shares g c =
    subst (AreSharesAt (λ hart. 0) (λ hart. 0) 0) (sym (c.truncate.ensures.items ∙ ap (take c.harts-harts.result) c.in_ok-shares.ensures.items))
    (shares-take (λ hart. 0) (λ hart. 0) 0 c.harts-harts.result _ c.open_all-books.ensures.shares)

pub returns-clause-of : goal.returns-clause-of
returns-clause-of g c = seats-of _ _ _ 0 _ c.in_ok-seats.ensures.seats
