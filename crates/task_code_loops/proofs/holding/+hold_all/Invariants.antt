use Rattle.std.proofs.Common.{length}
use Rattle.task_code_loops.proofs.holding.+hold_all.Given as goal

abbrev pub decreases-hold_all : goal.decreases-hold_all
decreases-hold_all l = length l.forms.now
