use Rattle.std.proofs.Common.{refl, subst}
use Rattle.task_code_registers.specs.Holding.{TakesIf}
use Rattle.task_code_loops.proofs.Telling.{tests-variable, plain-taken}
use Rattle.task_code_loops.proofs.tests.by_variable.Goals as goal

pub returns-in-Some-clause-ok : goal.returns-in-Some-clause-ok
returns-in-Some-clause-ok c =
    tests-variable c.args.counter c.args.count c.args.scope.now c.args.reserved c.in_ok-form.form c.in-Some.taken.scope.items c.in-Some.taken.register _ _
    c.ranges.count.fits c.in_ok-form.ensures
    (subst (λ o. TakesIf c.args.code.now.items c.hold.new.code.items c.args.counter c.args.scope.now c.in_ok-form.form c.args.reserved o)
    c.in-Some.is c.in_ok-taken.ensures.some) _ refl refl refl

pub returns-in-Some-clause-plain : goal.returns-in-Some-clause-plain
returns-in-Some-clause-plain c =
    plain-taken c.args.counter c.args.count c.args.scope.now c.args.reserved c.in_ok-form.form c.in-Some.taken.scope.items c.in-Some.taken.register _ _
    c.in_ok-form.ensures
    (subst (λ o. TakesIf c.args.code.now.items c.hold.new.code.items c.args.counter c.args.scope.now c.in_ok-form.form c.args.reserved o)
    c.in-Some.is c.in_ok-taken.ensures.some)
