-- The size of the statement; a loop and a split loop are made of their bodies.
use Rattle.std.proofs.Common.{◌+◌, ◌*◌}
use Rattle.task_code_variables.proofs.statements.+statements.Given as goal

abbrev pub decreases-emit_statement : goal.decreases-emit_statement
decreases-emit_statement l = 3 * goal.size-emit_statement l

abbrev pub decreases-emit_iterations : goal.decreases-emit_iterations
decreases-emit_iterations l = 3 * goal.size-emit_iterations l + 1

abbrev pub decreases-emit_split : goal.decreases-emit_split
decreases-emit_split l = 3 * goal.size-emit_split l + 1

abbrev pub decreases-emit_loop : goal.decreases-emit_loop
decreases-emit_loop l = 3 * goal.size-emit_loop l + 2
