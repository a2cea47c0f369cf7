use Rattle.task_code_lane_values.proofs.kept.+is_same.Given as goal

abbrev pub decreases-is_same : goal.decreases-is_same
decreases-is_same l = goal.size-is_same l
