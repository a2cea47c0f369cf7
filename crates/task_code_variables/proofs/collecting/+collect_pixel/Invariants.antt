use Rattle.task_code_variables.proofs.collecting.+collect_pixel.Given as goal

abbrev pub decreases-collect_pixel : goal.decreases-collect_pixel
decreases-collect_pixel l = goal.size-collect_pixel l
