use Rattle.std.proofs.Common.{sym, arith}
use Rattle.gdb_session.proofs.Turns.{last_turn_is, last_turn_is_none, none_here}
use Rattle.gdb_session.proofs.finding.last_turn_of.Goals as goal

pub places-init : goal.places-init
places-init c = record {
  within = omega arith;
  some = omega arith;
  none = none_here c.args.log.now.turns c.args.hart c.args.before;
}

pub returns-then-width-eq1 : goal.returns-then-width-eq1
returns-then-width-eq1 c =
    sym (last_turn_is c.args.log.now.turns c.args.hart c.args.before c.places.place (omega (arith, c.places-test.true)) c.places.invariant.within
    c.places.invariant.none
    (c.turns_passed-passed.ensures.some c.if-passed-eq0.true c.if-width-eq1.true (omega (arith, c.places-test.true))))

pub returns : goal.returns
returns c =
    sym (last_turn_is_none c.args.log.now.turns c.args.hart c.args.before c.places.place (omega (arith, c.places-test.false)) c.places.invariant.none)
