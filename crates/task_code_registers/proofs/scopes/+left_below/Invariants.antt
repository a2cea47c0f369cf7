use Rattle.task_code_registers.proofs.scopes.+left_below.Given as goal

abbrev pub decreases-left_below : goal.decreases-left_below
decreases-left_below l = l.end
