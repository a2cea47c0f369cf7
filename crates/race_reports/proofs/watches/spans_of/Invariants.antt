use Rattle.race_reports.proofs.Turning.{SpansUpTo}
use Rattle.race_reports.proofs.watches.spans_of.Given as goal

abbrev pub invariant-loop-hart : goal.invariant-loop-hart
invariant-loop-hart l = SpansUpTo l.machine l.spans.items l.hart
