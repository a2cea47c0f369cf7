use Rattle.std.proofs.Common.{◌-◌, length}
use Rattle.race_reports.proofs.harts.+first_other.Given as goal

abbrev pub decreases-first_other : goal.decreases-first_other
decreases-first_other l = length l.machine.now.harts - l.number
