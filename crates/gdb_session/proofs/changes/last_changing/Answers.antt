use Rattle.std.proofs.Common.{ap, arith, length}
use Rattle.std.specs.Prelude.{Err}
use Rattle.debugger.specs.Places.{SessionState}
use Rattle.gdb_session.proofs.Watching.{back_again, changed_back, none_at_start, refused_for}
use Rattle.gdb_session.proofs.changes.last_changing.Goals as goal

pub next_changing-requires : goal.next_changing-requires
next_changing-requires c =
    let here = ap (λ (x : SessionState). x.place) c.in-Ok.ensures.ok in
    let turns = ap (λ (x : SessionState). length x.log.turns) c.in-Ok.ensures.ok in
    omega (arith, here, turns, c.in-Ok.ensures.behind_start, c.place-place.ensures.within)

pub returns-in-Ok-clause-state : goal.returns-in-Ok-clause-state
returns-in-Ok-clause-state c =
    back_again c.args.session.now.state c.back.new.self.state c.next_changing.new.session.state c.in-Ok.ensures.behind_start c.in-Ok.ensures.ok
    c.next_changing.ensures.state

pub returns-in-Ok-clause-changed : goal.returns-in-Ok-clause-changed
returns-in-Ok-clause-changed c =
    changed_back c.args.session.now.state c.back.new.self.state c.next_changing.result c.in-Ok.ensures.behind_start c.in-Ok.ensures.ok
    c.next_changing.ensures.changed

pub returns-in-Err-clause-changed : goal.returns-in-Err-clause-changed
returns-in-Err-clause-changed c =
    let start = refused_for c.in-Err._refusal _ (λ e. c.in-Err.ensures.memory (ap Err e)) c.in-Err.ensures.err in
    none_at_start c.args.session.now.state start.1
