-- The size of the expression; some of these are made of itself.
use Rattle.std.proofs.Common.{suc, ◌+◌, ◌*◌}
use Rattle.task_code_values.proofs.spilling.+deeply.Given as goal

abbrev pub decreases-emit_spilling : goal.decreases-emit_spilling
decreases-emit_spilling l = 4 * goal.size-emit_spilling l

abbrev pub decreases-emit_deep : goal.decreases-emit_deep
decreases-emit_deep l = suc (4 * goal.size-emit_deep l)

abbrev pub decreases-emit_pair : goal.decreases-emit_pair
decreases-emit_pair l = 2 + 4 * goal.size-emit_pair l

abbrev pub decreases-emit_beside : goal.decreases-emit_beside
decreases-emit_beside l = 3 + 4 * goal.size-emit_beside l

abbrev pub decreases-emit_row : goal.decreases-emit_row
decreases-emit_row l = 3 + 4 * goal.size-emit_row l
