use Rattle.task_code_values.proofs.needs.+need.Given as goal

abbrev pub decreases-need : goal.decreases-need
decreases-need l = goal.size-need l
