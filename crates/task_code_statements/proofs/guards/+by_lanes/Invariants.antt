use Rattle.std.proofs.Common.{length}
use Rattle.task_code_statements.proofs.guards.+by_lanes.Given as goal

abbrev pub decreases-by_lanes : goal.decreases-by_lanes
decreases-by_lanes l = length l.guards.now
