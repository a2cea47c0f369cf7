use Rattle.std.proofs.Common.{◌-◌, length}
use Rattle.lowering.proofs.consuming.+nests_before.Given as goal

abbrev pub decreases-nests_before : goal.decreases-nests_before
decreases-nests_before l = length l.plan.now.schedule.standings - l.from
