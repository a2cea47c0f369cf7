use Rattle.task_code_lane_values.proofs.scalars.+is_loop_invariant.Given as goal

abbrev pub decreases-is_loop_invariant : goal.decreases-is_loop_invariant
decreases-is_loop_invariant l = goal.size-is_loop_invariant l
