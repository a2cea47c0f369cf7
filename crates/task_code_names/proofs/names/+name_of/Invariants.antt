use Rattle.std.proofs.Common.{length}
use Rattle.task_code_names.proofs.names.+name_of.Given as goal

abbrev pub decreases-name_of : goal.decreases-name_of
decreases-name_of l = length l.names.now
