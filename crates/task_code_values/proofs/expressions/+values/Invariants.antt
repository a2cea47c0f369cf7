-- The size of the expression; an index is made of itself.
use Rattle.std.proofs.Common.{suc, ◌*◌}
use Rattle.task_code_values.proofs.expressions.+values.Given as goal

abbrev pub decreases-emit_operand : goal.decreases-emit_operand
decreases-emit_operand l = 2 * goal.size-emit_operand l

abbrev pub decreases-emit_index : goal.decreases-emit_index
decreases-emit_index l = suc (2 * goal.size-emit_index l)
