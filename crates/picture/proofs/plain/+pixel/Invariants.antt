-- The Func, then the update, then its point, then the size of the expression.
use Rattle.std.proofs.Common.{◌≡◌, ◌+◌, ◌-◌, ◌^◌}
use Rattle.halide_pipeline.specs.Expressions.{nodes}
use Rattle.halide_pipeline.specs.WellFormed.{is_first_in_place, is_second_in_place}
use Rattle.picture.specs.inner.Evaluation.{all_nodes, IsForward}
use Rattle.picture.proofs.Measures.{measure, state_measure, last}
use Rattle.picture.proofs.plain.+pixel.Given as goal

abbrev pub decreases-value : goal.decreases-value
decreases-value l = state_measure l.scene.now l.func_index l.state (nodes l.expr.now + 6)

abbrev pub decreases-read : goal.decreases-read
decreases-read l = state_measure l.scene.now l.func_index l.state 5

abbrev pub decreases-earlier_pixel : goal.decreases-earlier_pixel
decreases-earlier_pixel l = measure l.scene.now l.func_index 0 0 3

abbrev pub decreases-pixel : goal.decreases-pixel
decreases-pixel l = measure l.scene.now l.func_index (last l.scene.now) 0 0

abbrev pub decreases-stage : goal.decreases-stage
decreases-stage l = measure l.scene.now l.func_index l.updates (2 ^ 64) 0

abbrev pub decreases-after_of : goal.decreases-after_of
decreases-after_of l = measure l.scene.now l.func_index (l.updates + 1) l.number 2

abbrev pub decreases-after : goal.decreases-after
decreases-after l = measure l.scene.now l.pass.own (l.pass.updates + 1) l.number 1

abbrev pub decreases-is_hit : goal.decreases-is_hit
decreases-is_hit l = measure l.scene.now l.func_index 0 0 (all_nodes l.scene.now.funcs.now + 7)

abbrev pub decreases-forward_pixel : goal.decreases-forward_pixel
decreases-forward_pixel l = measure l.scene.now l.func_index (l.updates + 1) l.progress.points 4

abbrev pub decreases-stage_of : goal.decreases-stage_of
decreases-stage_of l = measure l.scene.now l.func_index l.updates (2 ^ 64) 1

abbrev pub decreases-run_forward : goal.decreases-run_forward
decreases-run_forward l = measure l.scene.now l.pass.own (l.pass.updates + 1) (2 ^ 64 - 1) 0

abbrev pub decreases-begun : goal.decreases-begun
decreases-begun l = measure l.scene.now l.pass.own (l.pass.updates + 1) (2 ^ 64 - 2) 0

abbrev pub decreases-index_value : goal.decreases-index_value
decreases-index_value l = measure l.scene.now l.func_index 0 0 (all_nodes l.scene.now.funcs.now + 7)

abbrev pub invariant-run_forward-loop-number : goal.invariant-run_forward-loop-number
invariant-run_forward-loop-number l = record {
  run : IsForward l.scene l.pass.own l.pass.updates l.number l.slice;
  x : l.slice.x ≡ l.x;
  y : l.slice.y ≡ l.y;
  first : l.slice.is_first_in_place ≡ is_first_in_place l.pass.update.now;
  second : l.slice.is_second_in_place ≡ is_second_in_place l.pass.update.now;
}

abbrev pub decreases-over_slice : goal.decreases-over_slice
decreases-over_slice l = measure l.scene.now l.pass.own (l.pass.updates + 1) (2 ^ 64 - 1) 0

abbrev pub decreases-over_forward : goal.decreases-over_forward
decreases-over_forward l = measure l.scene.now l.pass.own (l.pass.updates + 1) (2 ^ 64 - 1) 1
