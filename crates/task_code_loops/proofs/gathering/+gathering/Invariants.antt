-- The size of the expression; some of these are made of itself.
use Rattle.std.proofs.Common.{suc, ◌*◌}
use Rattle.task_code_loops.proofs.gathering.+gathering.Given as goal

abbrev pub decreases-gather_expr : goal.decreases-gather_expr
decreases-gather_expr l = suc (suc (3 * goal.size-gather_expr l))

abbrev pub decreases-gather_parts : goal.decreases-gather_parts
decreases-gather_parts l = suc (3 * goal.size-gather_parts l)

abbrev pub decreases-gather_load : goal.decreases-gather_load
decreases-gather_load l = 3 * goal.size-gather_load l

abbrev pub decreases-gather_both : goal.decreases-gather_both
decreases-gather_both l = 3 * goal.size-gather_both l
