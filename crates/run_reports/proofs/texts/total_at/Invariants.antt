use Rattle.std.proofs.Common.{◌≡◌, ◌*◌, ◌≤◌}
use Rattle.turn_log.specs.TurnLog.{most_turns}
use Rattle.run_reports.specs.ProfileText.{total}
use Rattle.run_reports.specs.inner.Counting.{counts_in}
use Rattle.run_reports.proofs.texts.total_at.Given as goal

abbrev pub invariant-loop-hart : goal.invariant-loop-hart
invariant-loop-hart l = record {
  sum : l.total ≡ total (counts_in l.profiles) l.place l.hart;
  few : l.total ≤ l.hart * (8 * most_turns);
}
