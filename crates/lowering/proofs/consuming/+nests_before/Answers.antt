use Rattle.std.proofs.Common.{◌≡◌, ℕ, suc, ◌+◌, ◌-◌, ◌<◌, length, subst, arith, ap}
use Rattle.schedule.specs.declared.schedules.Schedule.{Schedule}
use Rattle.lowering.specs.Consuming.{HasNests, None_left, One_more}
use Rattle.lowering.proofs.consuming.+nests_before.Goals as goal

-- src/consuming.rt:189:9
pub returns-then-len-from : goal.returns-then-len-from
returns-then-len-from t c = None_left c.args.from c.args.inside (omega (
  arith,
  c.if-len-from.true,
  c.len.ensures,
  ap (λ (s : Schedule). length s.standings)
      c.schedule.ensures.value,
))

-- src/consuming.rt:191:16
pub nests_before-requires : goal.nests_before-requires
nests_before-requires t c =
    let less : length c.args.plan.now.schedule.standings - (c.args.from + 1) < length c.args.plan.now.schedule.standings - c.args.from =
    omega (arith, c.if-len-from.false, c.len.ensures, ap (λ (s : Schedule). length s.standings) c.schedule.ensures.value) in
    (rw c.decreases at less, tt)

-- src/consuming.rt:175:1
pub returns : goal.returns
returns t c =
    let next : c.args.from + 1 ≡ suc c.args.from = omega arith in
    One_more c.args.from c.in_ok-found.found c.args.inside c.in_ok-rest.rest c.in_ok-statement.statement
    c.in_ok-found.ensures
    (subst (λ (n : ℕ). HasNests c.args.plan.now.pipeline c.args.plan.now.schedule c.args.plan.now.boxes c.args.at n c.args.inside c.in_ok-rest.rest) next
    c.in_ok-rest.ensures) c.in_ok-statement.ensures
