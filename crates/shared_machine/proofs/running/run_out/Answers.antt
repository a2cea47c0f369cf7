use Rattle.std.proofs.Common.{sym, ap, ◌∙◌, true≢false}
use Rattle.board.specs.Tokens.{name_of}
use Rattle.shared_machine.specs.Driving.{has_refused}
use Rattle.shared_machine.proofs.RunningOut.{all-have, run-of}
use Rattle.shared_machine.proofs.running.run_out.Goals as goal

pub unreachable-requires : goal.unreachable-requires
unreachable-requires g c =
    true≢false (sym (c.in_default.ensures.exact.1 (
    all-have (name_of c.args.shared.board) g.O.Origin.image g.O.Origin.harts g.O.Origin.resumed c.args.limit c.args.seats.items c.drive_all.new.seats.items
    c.requires.all c.drive_all.ensures.all c.requires.at c.in_ok-drive_all.ensures.driven
    )))

pub returns-clause-log : goal.returns-clause-log
returns-clause-log g c =
    let same = sym c.deref.ensures.value in
    run-of (name_of c.args.shared.board) g.O.Origin.image g.O.Origin.harts g.O.Origin.resumed c.args.limit c.args.seats.items c.drive_all.new.seats.items
    c.requires.all c.drive_all.ensures.all c.requires.at c.in_ok-drive_all.ensures.driven
    (ap (has_refused 1) same ∙ c.in_ok-check_ended.ensures.memory) (ap (has_refused 3) same ∙ c.in_ok-check_ended.ensures.stopped)
    c.in-Ok.log _ c.in-Ok.ensures.told c.in-Ok.ensures.log c.in-Ok.ensures.harts c.in-Ok.ensures.begins
