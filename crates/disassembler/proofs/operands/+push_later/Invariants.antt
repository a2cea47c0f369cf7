use Rattle.std.proofs.Common.{length}
use Rattle.disassembler.proofs.operands.+push_later.Given as goal

abbrev pub decreases-push_later : goal.decreases-push_later
decreases-push_later l = length l.slots.now
