use Rattle.task_code_registers.proofs.scopes.+has_more_left.Given as goal

abbrev pub decreases-has_more_left : goal.decreases-has_more_left
decreases-has_more_left l = l.end
