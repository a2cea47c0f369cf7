use Rattle.std.proofs.Common.{sym, arith}
use Rattle.gdb_session.proofs.Turns.{next_within}
use Rattle.gdb_session.proofs.going.step.Goals as goal

pub overflow_add-place : goal.overflow_add-place
overflow_add-place c =
    let s = c.args.session.now.state in
    let below = next_within s.log.turns c.args.hart s.place c.in-Some.place (sym (rw (c.log.ensures, c.place.ensures.value) at c.in-Some.ensures)) in
    omega (arith, below, c.length-end.ensures)

pub arrive-requires : goal.arrive-requires
arrive-requires c =
    let s = c.args.session.now.state in
    let below = next_within s.log.turns c.args.hart s.place c.in-Some.place (sym (rw (c.log.ensures, c.place.ensures.value) at c.in-Some.ensures)) in
    omega (arith, below)
