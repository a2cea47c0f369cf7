use Rattle.task_code_variables.proofs.Marking.{puts-into-lane}
use Rattle.task_code_variables.proofs.collecting.put_into_lane.Goals as goal

pub returns : goal.returns
returns c =
    puts-into-lane c.args.lane.group c.args.lane.r c.args.s c.slot.result c.slot-2.result c.slot-numbers.result _ _ _ _ _ _ _ c.requires.0 c.requires.1
    c.slot-numbers.ensures.0 c.slot.ensures.0 c.slot-2.ensures.0 c.in_ok-alu_small.ensures c.in_ok-configure.ensures c.in_ok-lane_numbers.ensures
    c.in_ok-mark_lane.ensures c.in_ok-put_marked.ensures c.in_ok-put_marked-2.ensures
