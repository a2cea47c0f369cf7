use Rattle.std.proofs.Common.{length}
use Rattle.task_code_statements.proofs.guards.+add_tests_at_start.Given as goal

abbrev pub decreases-add_tests_at_start : goal.decreases-add_tests_at_start
decreases-add_tests_at_start l = length l.hanging.now
