use Rattle.std.proofs.Common.{suc, ◌*◌}
use Rattle.task_code_lane_values.proofs.values.+values.Given as goal

abbrev pub decreases-emit_at : goal.decreases-emit_at
decreases-emit_at l = suc (suc (3 * goal.size-emit_at l))

abbrev pub decreases-emit_results : goal.decreases-emit_results
decreases-emit_results l = suc (3 * goal.size-emit_results l)

abbrev pub decreases-emit_both : goal.decreases-emit_both
decreases-emit_both l = 3 * goal.size-emit_both l

abbrev pub decreases-emit_quotients : goal.decreases-emit_quotients
decreases-emit_quotients l = 3 * goal.size-emit_quotients l

abbrev pub decreases-emit_remainders : goal.decreases-emit_remainders
decreases-emit_remainders l = 3 * goal.size-emit_remainders l

abbrev pub decreases-emit_choices : goal.decreases-emit_choices
decreases-emit_choices l = suc (3 * goal.size-emit_choices l)

abbrev pub decreases-emit_condition_first : goal.decreases-emit_condition_first
decreases-emit_condition_first l = 3 * goal.size-emit_condition_first l

abbrev pub decreases-emit_one_first : goal.decreases-emit_one_first
decreases-emit_one_first l = 3 * goal.size-emit_one_first l

abbrev pub decreases-emit_other_first : goal.decreases-emit_other_first
decreases-emit_other_first l = 3 * goal.size-emit_other_first l

abbrev pub decreases-emit_pixels : goal.decreases-emit_pixels
decreases-emit_pixels l = 3 * goal.size-emit_pixels l
