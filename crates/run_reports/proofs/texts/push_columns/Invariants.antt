use Rattle.std.proofs.Common.{◌≡◌, ◌++◌}
use Rattle.std.specs.String.{string_bytes}
use Rattle.run_reports.specs.ProfileText.{columns}
use Rattle.run_reports.specs.inner.Counting.{counts_in}
use Rattle.run_reports.proofs.texts.push_columns.Given as goal

abbrev pub invariant-loop-hart : goal.invariant-loop-hart
invariant-loop-hart l = string_bytes l.text ≡ string_bytes l.fn.text ++ columns (counts_in l.profiles) l.place l.hart
