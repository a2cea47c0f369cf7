use Rattle.std.proofs.Common.{◌-◌}
use Rattle.task_code_vector_loops.specs.Runs.{all_lanes}
use Rattle.task_code_vector_loops.proofs.parts.+emit_parts.Given as goal

abbrev pub decreases-emit_parts : goal.decreases-emit_parts
decreases-emit_parts l = all_lanes l.lane_parts.now.lanes - l.part.from
