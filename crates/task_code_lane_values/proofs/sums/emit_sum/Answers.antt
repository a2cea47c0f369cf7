use Rattle.std.proofs.Common.{refl, ap, ◌∙◌, ◌%◌, ◌^◌}
use Rattle.task_code_registers.specs.Strides.{strides}
use Rattle.task_code_lane_values.proofs.Moving.{sum-arm}
use Rattle.task_code_lane_values.proofs.sums.emit_sum.Goals as goal

pub returns : goal.returns
returns c =
    λ places. sum-arm places c.args.scope.now c.args.lanes c.args.k c.requires _ c.args.sum.now (record { sum = c.in_ok-copied.copied; per_hart = 0 })
    c.in_ok-start.start
    c.stride_of-stride.result _ c.in_ok-s.s _ _ _ _ refl c.in_ok-copied.ensures refl
    (c.stride_of-stride.ensures ∙ ap (λ ts. strides c.args.lanes.counter ts % 2 ^ 32) c.as_slice.ensures) c.in_ok-start.ensures
    (c.in_ok-emit_steps.ensures places) c.in_ok-s.ensures
    c.in_ok-emit_by.ensures
