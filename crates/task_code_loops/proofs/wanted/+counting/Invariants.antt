-- The size of the statement; a split loop's body is smaller, and is counted from two functions.
use Rattle.std.proofs.Common.{suc, ◌*◌}
use Rattle.task_code_loops.proofs.wanted.+counting.Given as goal

abbrev pub decreases-gather : goal.decreases-gather
decreases-gather l = suc (2 * goal.size-gather l)

abbrev pub decreases-gather_split : goal.decreases-gather_split
decreases-gather_split l = 2 * goal.size-gather_split l
