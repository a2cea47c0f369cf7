use Rattle.std.proofs.Common.{length}
use Rattle.task_code_loops.proofs.tests.+begin_test.Given as goal

abbrev pub decreases-begin_test : goal.decreases-begin_test
decreases-begin_test l = length l.wanted.now
