use Rattle.task_code_values.proofs.depths.+height.Given as goal

abbrev pub decreases-height : goal.decreases-height
decreases-height l = goal.size-height l
