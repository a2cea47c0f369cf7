use Rattle.std.proofs.Common.{length}
use Rattle.assembler.proofs.operands.+fill.Given as goal

abbrev pub decreases-fill : goal.decreases-fill
decreases-fill l = length l.slots.now
