use Rattle.std.proofs.Common.{◌+◌, ◌*◌, ◌≤◌, refl, arith}
use Rattle.task_code_loops.specs.Beginning.{forms_words}
use Rattle.task_code_loops.proofs.Telling.{tests-fewer, tests-first, tests-others}
use Rattle.task_code_loops.proofs.tests.+begin_test.Goals as goal

pub returns-then-is_test-clause-ok : goal.returns-then-is_test-clause-ok
returns-then-is_test-clause-ok t c =
    tests-first c.args.bound.counter c.args.bound.count c.args.scope.now c.args.reserved c.args.wanted.now c.first-item.result _ _ _
    c.in_ok-tested-in-len1-up.tested
    c.in-len1-up.len_at_least c.first-item.is c.in_ok-tested-in-len1-up.ensures.ok

pub returns-in_ok-tested-in-len1-up-2-clause-ok : goal.returns-in_ok-tested-in-len1-up-2-clause-ok
returns-in_ok-tested-in-len1-up-2-clause-ok t c =
    tests-others c.args.bound.counter c.args.bound.count c.args.scope.now c.args.reserved c.args.wanted.now c.first-item.result _ _ _
    c.in_ok-tested-in-len1-up-2.tested
    c.in-len1-up.len_at_least c.first-item.is c.in_ok-tested-in-len1-up-2.ensures.ok

pub returns-in_ok-tested-in-empty-clause-ok : goal.returns-in_ok-tested-in-empty-clause-ok
returns-in_ok-tested-in-empty-clause-ok t c =
    let more : 10 ≤ 10 + 2 * forms_words c.args.wanted.now = omega arith in
    tests-fewer c.args.bound.counter c.args.bound.count c.args.scope.now c.args.reserved 10 (10 + 2 * forms_words c.args.wanted.now) _ _ _ _ more refl
    c.in_ok-tested-in-empty.ensures.ok
