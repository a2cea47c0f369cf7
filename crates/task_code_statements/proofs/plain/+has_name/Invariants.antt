use Rattle.std.proofs.Common.{length}
use Rattle.task_code_statements.proofs.plain.+has_name.Given as goal

abbrev pub decreases-has_name : goal.decreases-has_name
decreases-has_name l = length l.terms.now
