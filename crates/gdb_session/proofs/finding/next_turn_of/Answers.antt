use Rattle.std.proofs.Common.{arith, sym}
use Rattle.turn_log.proofs.RunAtLaws.{run_at-none, run_at-stands}
use Rattle.gdb_session.proofs.Turns.{next_is, next_is_none, passed_on}
use Rattle.gdb_session.proofs.finding.next_turn_of.Goals as goal

pub overflow_add-place : goal.overflow_add-place
overflow_add-place c =
    let within = (run_at-stands c.args.log.now.turns c.runs.place c.in-Some.other c.in-Some.count (sym c.in-Some.ensures)).within in
    omega (arith, within, c.len-length.ensures)

pub runs-smaller : goal.runs-smaller
runs-smaller c =
    let stand = run_at-stands c.args.log.now.turns c.runs.place c.in-Some.other c.in-Some.count (sym c.in-Some.ensures) in
    let some = stand.some in
    let within = stand.within in
    omega (arith, some, within)

pub runs-preserved : goal.runs-preserved
runs-preserved c = record {
  onwards = omega (arith, c.runs.invariant.onwards);
  none = passed_on c.args.log.now.turns c.args.hart c.in-Some.other c.args.from c.runs.place c.in-Some.count c.runs.invariant.none (sym c.in-Some.ensures)
      c.if-other-hart.false;
}

pub returns-then-other-hart : goal.returns-then-other-hart
returns-then-other-hart c =
    sym (next_is c.args.log.now.turns c.args.hart c.in-Some.other c.args.from c.runs.place c.in-Some.count c.runs.invariant.onwards c.runs.invariant.none
    (sym c.in-Some.ensures) c.if-other-hart.true)

pub returns : goal.returns
returns c =
    sym (next_is_none c.args.log.now.turns c.args.hart c.args.from c.runs.place c.runs.invariant.none (run_at-none c.args.log.now.turns c.runs.place
    (sym c.in_default.ensures)))
