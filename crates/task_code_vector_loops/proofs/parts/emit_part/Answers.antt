use Rattle.task_code_vector_loops.proofs.Parting.{part-made}
use Rattle.task_code_vector_loops.proofs.parts.emit_part.Goals as goal

pub returns : goal.returns
returns c =
    part-made c.args.lane_parts.now c.requires.ready c.args.part.from c.requires.inside c.args.part.slot _ _ _ c.requires.stack c.in_ok-emit_part_lanes.ensures
    c.in_ok-emit_lanes.ensures
