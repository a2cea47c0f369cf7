use Rattle.std.proofs.Common.{sym}
use Rattle.debugger.proofs.Stopping.{breaks-end}
use Rattle.gdb_session.proofs.changes.is_at_break.Goals as goal

pub returns-in-None : goal.returns-in-None
returns-in-None c =
    let s = c.args.session.now.state in
    sym (breaks-end s s.place (sym (rw (c.log-2.ensures, c.place.ensures.value) at c.in-None.ensures)))
