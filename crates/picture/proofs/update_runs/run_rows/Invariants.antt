use Rattle.std.proofs.Common.{◌*◌}
use Rattle.picture.specs.inner.Evaluation.{IsForward}
use Rattle.picture.specs.inner.UpdateRows.{IsOfUpdate}
use Rattle.picture.proofs.update_runs.run_rows.Given as goal

abbrev pub invariant-loop-row : goal.invariant-loop-row
invariant-loop-row l = record {
  of : IsOfUpdate l.pass.update.now l.slice;
  run : IsForward l.scene l.pass.own l.pass.updates (l.row * l.pass.update.now.first.extent) l.slice;
}
