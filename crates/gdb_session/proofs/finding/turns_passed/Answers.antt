use Rattle.std.proofs.Common.{◌-◌, sym, arith}
use Rattle.turn_log.proofs.RunAtLaws.{run_at-none, run_at-stands}
use Rattle.gdb_session.proofs.Turns.{its_last, width_passed}
use Rattle.gdb_session.proofs.finding.turns_passed.Goals as goal

pub returns-in_default-clause-some : goal.returns-in_default-clause-some
returns-in_default-clause-some c =
    let behind = run_at-none c.args.log.now.turns (c.args.place - c.args.width) (sym c.in_default.ensures) in
    λ none one some. absurd (omega (arith, behind, one, some, c.requires))

pub returns-then-other-hart-clause-some : goal.returns-then-other-hart-clause-some
returns-then-other-hart-clause-some c =
    λ none one some. its_last c.args.log.now.turns c.args.hart c.in-Some.other c.args.place c.args.width c.in-Some.count one (sym c.in-Some.ensures)
    c.if-other-hart.true

pub returns-then-count-width-clause-some : goal.returns-then-count-width-clause-some
returns-then-count-width-clause-some c =
    let begins = (run_at-stands c.args.log.now.turns (c.args.place - c.args.width) c.in-Some.other c.in-Some.count (sym c.in-Some.ensures)).some in
    λ none one some. absurd (omega (arith, begins, one, c.if-count-width.true))

pub returns-else-count-width-clause-none : goal.returns-else-count-width-clause-none
returns-else-count-width-clause-none c =
    width_passed c.args.log.now.turns c.args.hart c.in-Some.other c.args.place c.args.width c.in-Some.count c.if-width-place.false (sym c.in-Some.ensures)
    c.if-other-hart.false c.if-count-width.false
