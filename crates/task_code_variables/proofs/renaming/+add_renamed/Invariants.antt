use Rattle.std.proofs.Common.{length}
use Rattle.task_code_variables.proofs.renaming.+add_renamed.Given as goal

abbrev pub decreases-add_renamed : goal.decreases-add_renamed
decreases-add_renamed l = length l.terms.now
