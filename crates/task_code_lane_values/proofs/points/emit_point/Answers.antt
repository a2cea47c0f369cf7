use Rattle.std.proofs.Common.{ap, ◌∙◌, ◌%◌, ◌^◌}
use Rattle.task_code_registers.specs.Strides.{strides}
use Rattle.task_code_lane_values.proofs.Loading.{dense-made, strided-made, stepped-made}
use Rattle.task_code_lane_values.proofs.points.emit_point.Goals as goal

pub returns-then-stride-bytes_of : goal.returns-then-stride-bytes_of
returns-then-stride-bytes_of c =
    dense-made c.args.site.now.places.now c.args.site.now.scope.now c.args.site.now.lanes c.args.k c.requires c.args.source c.args.sums.now.x c.args.sums.now.y
    c.place_of-place.result
    c.place_of-place.ensures
    c.in_ok-form.form c.in_ok-form.ensures c.stride_of-stride.result (c.stride_of-stride.ensures ∙ ap
    (λ ts. strides c.args.site.now.lanes.counter ts % 2 ^ 32) c.as_slice.ensures) _
    c.in_ok-b.b c.in_ok-start.start _ _ _ (c.if-stride-bytes_of.true ∙ c.bytes_of.ensures) c.in_ok-start.ensures c.in_ok-b.ensures c.in_ok-emit_along.ensures

pub returns-in-Words : goal.returns-in-Words
returns-in-Words c =
    strided-made c.args.site.now.places.now c.args.site.now.scope.now c.args.site.now.lanes c.args.k c.requires c.args.source c.args.sums.now.x
    c.args.sums.now.y c.place_of-place.result
    c.place_of-place.ensures c.in_ok-form.form c.in_ok-form.ensures c.stride_of-stride.result (c.stride_of-stride.ensures ∙ ap
    (λ ts. strides c.args.site.now.lanes.counter ts % 2 ^ 32) c.as_slice.ensures) _ c.in_ok-b-in-Words.b c.in_ok-start.start _ _ _ _ c.in-Words.is
    c.in_ok-start.ensures c.in_ok-emit_number-in-Words.ensures c.in_ok-b-in-Words.ensures c.in_ok-emit_strided-in-Words.ensures

pub returns : goal.returns
returns c =
    stepped-made c.args.site.now.places.now c.args.site.now.scope.now c.args.site.now.lanes c.args.k c.requires c.args.source c.args.sums.now.x
    c.args.sums.now.y c.place_of-place.result
    c.place_of-place.ensures c.in_ok-form.form c.in_ok-form.ensures c.stride_of-stride.result (c.stride_of-stride.ensures ∙ ap
    (λ ts. strides c.args.site.now.lanes.counter ts % 2 ^ 32) c.as_slice.ensures) _ c.in_ok-b-in-Bytes.b c.in_ok-start.start _ _ _ _
    c.in_ok-emit_steps-in-Bytes.ensures c.in_ok-start.ensures c.in_ok-b-in-Bytes.ensures c.in_ok-emit_from-in-Bytes.ensures
