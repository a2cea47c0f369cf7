use Rattle.std.proofs.Common.{length}
use Rattle.schedule_lines.proofs.directives.+same_ids.Given as goal

abbrev pub decreases-same_ids : goal.decreases-same_ids
decreases-same_ids l = length l.ids.now
