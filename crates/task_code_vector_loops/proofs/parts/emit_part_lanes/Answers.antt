use Rattle.task_code_vector_loops.proofs.Fronts.{cons-of, none-there}
use Rattle.task_code_vector_loops.proofs.Parting.{rest-part, whole-part}
use Rattle.task_code_vector_loops.proofs.parts.emit_part_lanes.Goals as goal

pub returns-in_ok-put_all-in-empty : goal.returns-in_ok-put_all-in-empty
returns-in_ok-put_all-in-empty c =
    whole-part c.args.lane_parts.now c.requires.ready c.args.from c.requires.inside _ _ _ (none-there c.args.lane_parts.now.left.now c.in-empty.len_below)
    c.in_ok-emit_number.ensures c.in_ok-put_all-in-empty.ensures

pub returns-in_ok-configure-in-len1-up : goal.returns-in_ok-configure-in-len1-up
returns-in_ok-configure-in-len1-up c =
    rest-part c.args.lane_parts.now c.requires.ready c.args.from c.requires.inside c.first-item.result _ _ _ _ _ _ _ _
    (cons-of c.args.lane_parts.now.left.now c.first-item.result c.in-len1-up.len_at_least c.first-item.is)
    c.in_ok-emit_number.ensures c.in_ok-emit_least-in-len1-up.ensures c.in_ok-alu-in-len1-up.ensures c.in_ok-emit_times-in-len1-up.ensures
    c.in_ok-alu-in-len1-up-2.ensures c.in_ok-configure-in-len1-up.ensures
