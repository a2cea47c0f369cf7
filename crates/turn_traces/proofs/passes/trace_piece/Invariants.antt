use Rattle.std.proofs.Common.{◌-◌, length}
use Rattle.turn_traces.proofs.Lines.{UpTo}
use Rattle.turn_traces.proofs.passes.trace_piece.Given as goal

abbrev pub invariant-runs : goal.invariant-runs
invariant-runs l = UpTo l.wanted l.log.turns l.place l.next l.fn.machine l.machine l.text.items

abbrev pub decreases-runs : goal.decreases-runs
decreases-runs l = length l.log.turns - l.next
