use Rattle.std.proofs.Common.{length}
use Rattle.debugger_writes.proofs.marks.+mark_numbers.Given as goal

abbrev pub decreases-mark_numbers : goal.decreases-mark_numbers
decreases-mark_numbers l = length l.addresses.now
