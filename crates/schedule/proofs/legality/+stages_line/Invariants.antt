use Rattle.std.proofs.Common.{length}
use Rattle.schedule.proofs.legality.+stages_line.Given as goal

abbrev pub decreases-stages_line : goal.decreases-stages_line
decreases-stages_line l = length l.stages.now
