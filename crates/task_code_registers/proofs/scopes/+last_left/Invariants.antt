use Rattle.task_code_registers.proofs.scopes.+last_left.Given as goal

abbrev pub decreases-last_left : goal.decreases-last_left
decreases-last_left l = l.end
