use Rattle.std.proofs.Common.{◌≡◌, length}
use Rattle.bounds_inlining.specs.inner.Summing.{Needs}
use Rattle.bounds_inlining.proofs.needs.need_calls.Given as goal

abbrev pub invariant-loop-place : goal.invariant-loop-place
invariant-loop-place l = Needs l.flags l.funcs l.table.items × (length l.table.items ≡ l.place)
