use Rattle.std.proofs.Common.{◌+◌, ◌*◌}
use Rattle.loop_ir.specs.declared.statements.Stmt.{size-Stmt}
use Rattle.task_code_statements.proofs.guessing.+renaming.Given as goal

abbrev pub decreases-part_by_names : goal.decreases-part_by_names
decreases-part_by_names l = 2 * size-Stmt l.statement + 1

abbrev pub decreases-statement_by_names : goal.decreases-statement_by_names
decreases-statement_by_names l = 2 * size-Stmt l.statement
