use Rattle.task_code_vector_loops.specs.Runs.{left_lanes}
use Rattle.task_code_vector_loops.proofs.Parting.{values-run}
use Rattle.task_code_vector_loops.proofs.runs.emit_made.Goals as goal

pub returns-in_ok-emit_values-in-None : goal.returns-in_ok-emit_values-in-None
returns-in_ok-emit_values-in-None c =
    values-run c.args.site.now.places.now c.args.site.now.scope.now c.args.site.now.lanes (left_lanes c.args.site.now.lanes c.args.left.now) c.args.e.now
    _ _ _ c.in_ok-emit_left_lanes-in-None.ensures c.in_ok-emit_values-in-None.ensures
