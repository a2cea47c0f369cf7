use Rattle.std.proofs.Common.{ap, sym}
use Rattle.std.specs.Prelude.{Err}
use Rattle.gdb_session.proofs.Watching.{refused_for}
use Rattle.gdb_session.proofs.Searches.{back_changed, back_changed_stop, back_started, back_started_stop, back_stopped, back_stopped_stop}
use Rattle.gdb_session.proofs.going.go_back.Goals as goal

pub returns-in-Some-clause-state : goal.returns-in-Some-clause-state
returns-in-Some-clause-state c =
    back_changed c.args.session.now.state c.last_changing.new.session.state c.args.focus c.in-Some.address c.in-Some.ensures.state
    (sym c.in-Some.ensures.changed)

pub returns-in-Some-clause-stop : goal.returns-in-Some-clause-stop
returns-in-Some-clause-stop c =
    back_changed_stop c.args.session.now.state c.last_changing.new.session.state c.args.focus c.in-Some.address c.stop_at_last.result c.in-Some.ensures.state
    (sym c.in-Some.ensures.changed) c.stop_at_last.ensures.stop

pub returns-in-Ok-clause-state : goal.returns-in-Ok-clause-state
returns-in-Ok-clause-state c =
    back_stopped c.args.session.now.state c.last_changing.new.session.state c.reverse.new.self.state c.tell_behind.new.session.state c.args.focus
    c.in_default.ensures.state (sym c.in_default.ensures.changed) c.in-Ok.ensures.ok c.in-Ok.ensures.marks_stay c.tell_behind.ensures.state

pub returns-in-Ok-clause-stop : goal.returns-in-Ok-clause-stop
returns-in-Ok-clause-stop c =
    back_stopped_stop c.args.session.now.state c.last_changing.new.session.state c.reverse.new.self.state c.args.focus c.tell_behind.result
    c.in_default.ensures.state (sym c.in_default.ensures.changed) c.in-Ok.ensures.ok c.in-Ok.ensures.marks_stay c.tell_behind.ensures.stop

pub returns-in-Err-clause-state : goal.returns-in-Err-clause-state
returns-in-Err-clause-state c =
    let none = refused_for c.in-Err._refusal _ (λ e. c.in-Err.ensures.memory (ap Err e)) c.in-Err.ensures.err in
    back_started c.args.session.now.state c.last_changing.new.session.state c.reverse.new.self.state c.arrive.new.session.state c.args.focus
    c.in_default.ensures.state (sym c.in_default.ensures.changed) none.1 c.in-Err.ensures.unchanged c.arrive.ensures.state

pub returns-in-Err-clause-stop : goal.returns-in-Err-clause-stop
returns-in-Err-clause-stop c =
    let none = refused_for c.in-Err._refusal _ (λ e. c.in-Err.ensures.memory (ap Err e)) c.in-Err.ensures.err in
    back_started_stop c.args.session.now.state c.last_changing.new.session.state c.args.focus c.arrive.result c.in_default.ensures.state
    (sym c.in_default.ensures.changed) none.1 c.arrive.ensures.stop
