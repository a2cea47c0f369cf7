use Rattle.std.proofs.Common.{◌≡◌, ◌≤◌}
use Rattle.std.specs.Prelude.{slice_index}
use Rattle.arrayvec.specs.ArrayVec.{array_vec_len}
use Rattle.drawn_runs.specs.Drawing.{ready_below}
use Rattle.drawn_runs.proofs.drawing.ready_harts.Given as goal

-- those of the harts so far that are ready
abbrev pub invariant-loop-hart : goal.invariant-loop-hart
invariant-loop-hart l = record {
  items : l.ready.items ≡ ready_below (slice_index l.bounds) l.machine l.log.turns l.hart;
  few : array_vec_len l.ready ≤ l.hart;
}
