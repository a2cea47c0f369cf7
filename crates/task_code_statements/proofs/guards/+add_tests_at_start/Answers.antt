use Rattle.task_code_vector_loops.proofs.Fronts.{cons-of}
use Rattle.task_code_statements.proofs.Guarding.{first-more}
use Rattle.task_code_statements.proofs.guards.+add_tests_at_start.Goals as goal

pub returns-in_ok-add_tests_at_start-in-len1-up : goal.returns-in_ok-add_tests_at_start-in-len1-up
returns-in_ok-add_tests_at_start-in-len1-up t c =
    first-more c.args.bounds.now c.args.counter c.args.fixed.now.items _ _ c.args.hanging.now _ c.first-item.result c.in_ok-start-in-len1-up.start
    (cons-of c.args.hanging.now c.first-item.result c.in-len1-up.len_at_least c.first-item.is) c.in_ok-start-in-len1-up.ensures
    c.in_ok-add_test-in-len1-up.ensures c.in_ok-add_tests_at_start-in-len1-up.ensures
