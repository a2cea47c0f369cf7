use Rattle.std.proofs.Common.{◌-◌, length}
use Rattle.race_reports.proofs.harts.+first_writer.Given as goal

abbrev pub decreases-first_writer : goal.decreases-first_writer
decreases-first_writer l = length l.machine.now.harts - l.number
