use Rattle.std.proofs.Common.{refl, subst}
use Rattle.task_code_registers.specs.Holding.{TakesIf}
use Rattle.task_code_loops.proofs.Telling.{betters-none, betters-held}
use Rattle.task_code_loops.proofs.tests.hold_limit.Goals as goal

pub returns-in-Register : goal.returns-in-Register
returns-in-Register c = betters-none c.args.counter c.args.reserved c.args.tested _ _ refl

pub returns-in-None : goal.returns-in-None
returns-in-None c = betters-none c.args.counter c.args.reserved c.args.tested _ _ (c.in_ok-hold-in-Number.ensures.none c.in-None.is).0

pub returns-in-Some : goal.returns-in-Some
returns-in-Some c =
    betters-held c.args.counter c.args.reserved c.in-Number.end c.in-Some.taken.register c.args.tested _ c.number-form.result c.as_slice.result.now
    c.in-Some.taken.scope.items _ _ c.in-Number.is c.number-form.ensures c.as_slice.ensures.value
    (subst (λ o. TakesIf c.args.code.now.items c.hold.new.code.items c.args.counter c.as_slice.result.now c.number-form.result c.args.reserved o)
    c.in-Some.is c.in_ok-hold-in-Number.ensures.some) refl refl refl
