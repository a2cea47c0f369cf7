use Rattle.std.proofs.Common.{◌≡◌}
use Rattle.std.specs.String.{string_bytes}
use Rattle.run_reports.specs.ProfileText.{hart_lines}
use Rattle.run_reports.specs.inner.Counting.{counts_in}
use Rattle.run_reports.proofs.texts.hart_lines.Given as goal

abbrev pub invariant-loop-hart : goal.invariant-loop-hart
invariant-loop-hart l = string_bytes l.text ≡ hart_lines (counts_in l.profiles) l.hart
