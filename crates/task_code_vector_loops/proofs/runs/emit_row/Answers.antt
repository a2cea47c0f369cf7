use Rattle.std.proofs.Common.{◌∙◌, ap, ◌%◌, ◌^◌}
use Rattle.task_code_registers.specs.Strides.{strides}
use Rattle.task_code_vector_loops.specs.Runs.{left_lanes}
use Rattle.task_code_vector_loops.proofs.Aiming.{dense-aims, strided-aims}
use Rattle.task_code_vector_loops.proofs.Running.{stored-as}
use Rattle.task_code_vector_loops.proofs.runs.emit_row.Goals as goal

pub returns-then-stride-eq-WORD_BYTES : goal.returns-then-stride-eq-WORD_BYTES
returns-then-stride-eq-WORD_BYTES c =
    stored-as c.args.site.now.places.now c.args.site.now.scope.now c.args.site.now.lanes (left_lanes c.args.site.now.lanes c.args.left.now) c.args.store.now
    c.place_of-place.result c.in_ok-pointer.pointer c.slot-values.result _ _ _ _ _ c.place_of-place.ensures c.slot-values.ensures.0
    c.in_ok-emit_made.ensures
    (dense-aims c.args.site.now.places.now c.args.site.now.scope.now c.args.site.now.lanes (left_lanes c.args.site.now.lanes c.args.left.now)
    c.args.store.now c.args.point.now.column c.args.point.now.row
    c.in_ok-form.form c.place_of-place.result c.requires.sums.0 c.requires.sums.1 c.in_ok-form.ensures c.stride_of-stride.result
    (c.stride_of-stride.ensures ∙ ap (λ ts. strides c.args.site.now.lanes.counter ts % 2 ^ 32) c.as_slice.ensures) c.in_ok-pointer.pointer _ _
    c.if-stride-eq-WORD_BYTES.true c.in_ok-pointer.ensures) c.in_ok-store_row.ensures

pub returns : goal.returns
returns c =
    stored-as c.args.site.now.places.now c.args.site.now.scope.now c.args.site.now.lanes (left_lanes c.args.site.now.lanes c.args.left.now) c.args.store.now
    c.place_of-place.result c.in_ok-pointer-2.pointer c.slot-values.result _ _ _ _ _ c.place_of-place.ensures c.slot-values.ensures.0
    c.in_ok-emit_made.ensures
    (strided-aims c.args.site.now.places.now c.args.site.now.scope.now c.args.site.now.lanes (left_lanes c.args.site.now.lanes c.args.left.now)
    c.args.store.now c.args.point.now.column c.args.point.now.row
    c.in_ok-form.form c.place_of-place.result c.requires.sums.0 c.requires.sums.1 c.in_ok-form.ensures c.stride_of-stride.result
    (c.stride_of-stride.ensures ∙ ap (λ ts. strides c.args.site.now.lanes.counter ts % 2 ^ 32) c.as_slice.ensures) c.in_ok-pointer-2.pointer _ _ _
    c.in_ok-emit_number.ensures c.in_ok-pointer-2.ensures) c.in_ok-store_strided.ensures
