use Rattle.std.proofs.Common.{length}
use Rattle.schedule.proofs.calls.+updates_call.Given as goal

abbrev pub decreases-updates_call : goal.decreases-updates_call
decreases-updates_call l = length l.updates.now
