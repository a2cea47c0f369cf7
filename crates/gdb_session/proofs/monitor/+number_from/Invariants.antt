use Rattle.std.proofs.Common.{length}
use Rattle.gdb_session.proofs.monitor.+number_from.Given as goal

abbrev pub decreases-number_from : goal.decreases-number_from
decreases-number_from l = length l.digits.now
