use Rattle.std.proofs.Common.{◌+◌, ◌*◌, ◌≤◌, refl, subst, arith}
use Rattle.task_code_registers.specs.Emitting.{sum_words}
use Rattle.task_code_registers.specs.Holding.{TakesIf}
use Rattle.task_code_loops.proofs.Telling.{tests-form, tests-fewer, tests-later}
use Rattle.task_code_loops.proofs.tests.by_form.Goals as goal

pub returns-in-None-2-clause-ok : goal.returns-in-None-2-clause-ok
returns-in-None-2-clause-ok c =
    tests-later c.args.bound.counter c.args.bound.count c.args.scope.now c.in-Some.own.scope.items c.as_slice-first.result.now c.args.form.now c.args.reserved
    c.in-Some.own.register _ c.hold_known.new.code.items c.hold_known-in-Some.new.code.items _ _ c.as_slice-first.ensures.value
    (c.in_ok-hold_known-in-Some.ensures.none c.in-None-2.is)
    (subst (λ o. TakesIf c.args.code.now.items c.hold_known.new.code.items c.args.bound.counter c.args.scope.now c.args.form.now (c.args.reserved + 1) o)
    c.in-Some.is c.in_ok-hold_known.ensures.some)
    c.in_ok-tested-in-None-2.ensures.ok

pub returns-in-None-clause-ok : goal.returns-in-None-clause-ok
returns-in-None-clause-ok c =
    let n = sum_words c.args.form.now.per_hart c.args.form.now.sum.terms in
    let more : 10 ≤ 10 + 2 * n = omega arith in
    tests-fewer c.args.bound.counter c.args.bound.count c.args.scope.now c.args.reserved 10 (10 + 2 * n) _ _ _ _ more
    (c.in_ok-hold_known.ensures.none c.in-None.is) c.in_ok-tested-in-None.ensures.ok

pub returns-clause-ok : goal.returns-clause-ok
returns-clause-ok c =
    tests-form c.args.bound.counter c.args.bound.count c.args.scope.now c.args.reserved c.args.form.now c.in_ok-limit.limit c.in-Some.own.scope.items
    c.as_slice-first.result.now c.in-Some-2.last.scope.items c.in-Some.own.register c.in-Some-2.last.register _ _ _ c.as_slice-first.ensures.value
    c.in_ok-limit.ensures c.requires.test
    (subst (λ o. TakesIf c.args.code.now.items c.hold_known.new.code.items c.args.bound.counter c.args.scope.now c.args.form.now (c.args.reserved + 1) o)
    c.in-Some.is c.in_ok-hold_known.ensures.some)
    (subst (λ o. TakesIf c.hold_known.new.code.items c.hold_known-in-Some.new.code.items c.args.bound.counter c.as_slice-first.result.now c.in_ok-limit.limit
    c.args.reserved o) c.in-Some-2.is c.in_ok-hold_known-in-Some.ensures.some)
    _ refl refl refl
