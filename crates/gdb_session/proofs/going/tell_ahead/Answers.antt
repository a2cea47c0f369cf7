use Rattle.std.proofs.Common.{sym}
use Rattle.gdb_session.proofs.Searches.{told_break, told_break_stop, told_change, told_change_stop}
use Rattle.gdb_session.proofs.going.tell_ahead.Goals as goal

pub returns-in-Some-clause-state : goal.returns-in-Some-clause-state
returns-in-Some-clause-state c =
    told_change c.args.session.now.state c.last_changing.new.session.state c.stop_before.new.session.state c.in-Some.address c.in-Some.ensures.state
    (sym c.in-Some.ensures.changed) c.stop_before.ensures.state

pub returns-in-Some-clause-stop : goal.returns-in-Some-clause-stop
returns-in-Some-clause-stop c =
    told_change_stop c.args.session.now.state c.last_changing.new.session.state c.in-Some.address c.stop_before.result c.in-Some.ensures.state
    (sym c.in-Some.ensures.changed) c.stop_before.ensures.stop

pub returns-in-None-clause-state : goal.returns-in-None-clause-state
returns-in-None-clause-state c =
    told_break c.args.session.now.state c.last_changing.new.session.state c.in-None.ensures.state (sym c.in-None.ensures.changed)

pub returns-in-None-clause-stop : goal.returns-in-None-clause-stop
returns-in-None-clause-stop c =
    told_break_stop c.args.session.now.state c.last_changing.new.session.state c.stop_at_next.result c.in-None.ensures.state (sym c.in-None.ensures.changed)
    c.stop_at_next.ensures.stop
