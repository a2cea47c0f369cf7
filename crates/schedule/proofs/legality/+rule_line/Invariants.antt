use Rattle.std.proofs.Common.{length}
use Rattle.schedule.proofs.legality.+rule_line.Given as goal

abbrev pub decreases-rule_line : goal.decreases-rule_line
decreases-rule_line l = length l.standings.now
