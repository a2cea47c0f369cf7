use Rattle.std.proofs.Common.{◌≡◌, length}
use Rattle.bounds_inlining.specs.inner.Summing.{Counts}
use Rattle.bounds_inlining.proofs.counts.count_calls.Given as goal

abbrev pub invariant-loop-place : goal.invariant-loop-place
invariant-loop-place l = Counts l.flags l.funcs l.table.items × (length l.table.items ≡ l.place)
