use Rattle.std.proofs.Common.{sym, arith}
use Rattle.gdb_session.proofs.Turns.{last_turn_within}
use Rattle.gdb_session.proofs.going.step_back.Goals as goal

pub arrive-requires : goal.arrive-requires
arrive-requires c =
    let s = c.args.session.now.state in
    let below = last_turn_within s.log.turns c.args.hart s.place c.in-Some.place (sym (rw (c.log.ensures, c.place.ensures.value) at c.in-Some.ensures)) in
    omega (arith, below, c.place.ensures.value, c.place.ensures.within)
