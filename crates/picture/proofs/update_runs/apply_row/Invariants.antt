use Rattle.std.proofs.Common.{◌≡◌, ◌+◌}
use Rattle.picture.specs.inner.Evaluation.{IsForward}
use Rattle.picture.specs.inner.UpdateRows.{IsOfUpdate}
use Rattle.picture.proofs.update_runs.apply_row.Given as goal

abbrev pub invariant-loop-at : goal.invariant-loop-at
invariant-loop-at l = record {
  of : IsOfUpdate l.pass.update.now l.slice;
  run : IsForward l.scene l.pass.own l.pass.updates (l.first + l.at) l.slice;
  x : l.slice.x ≡ l.fn.slice.x;
  y : l.slice.y ≡ l.fn.slice.y;
}
