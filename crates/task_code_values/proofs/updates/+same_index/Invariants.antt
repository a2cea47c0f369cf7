use Rattle.task_code_values.proofs.updates.+same_index.Given as goal

abbrev pub decreases-same_index : goal.decreases-same_index
decreases-same_index l = goal.size-same_index l
