use Rattle.task_code_vector_loops.specs.Runs.{left_lanes}
use Rattle.task_code_vector_loops.proofs.Aiming.{scattered-aims, two-slots}
use Rattle.task_code_vector_loops.proofs.Running.{stored-as}
use Rattle.task_code_vector_loops.proofs.runs.emit_scattered.Goals as goal

pub returns : goal.returns
returns c =
    stored-as c.args.site.now.places.now c.args.site.now.scope.now c.args.site.now.lanes (left_lanes c.args.site.now.lanes c.args.left.now) c.args.store.now
    c.place_of-place.result c.in_ok-pointer.pointer c.slot.result _ _ _ _ _ c.place_of-place.ensures c.slot.ensures.0 c.in_ok-emit_made.ensures
    (scattered-aims c.args.site.now.places.now c.args.site.now.scope.now c.args.site.now.lanes (left_lanes c.args.site.now.lanes c.args.left.now)
    c.args.store.now c.of_number-zero.result c.in_ok-form.form c.place_of-place.result
    c.in_ok-pointer.pointer c.slot-2.result _ _ _ (two-slots c.args.site.now.lanes.group) c.of_number-zero.ensures.value c.in_ok-form.ensures
    c.slot-2.ensures.0 c.in_ok-emit_far.ensures c.in_ok-pointer.ensures) c.in_ok-store_at.ensures
