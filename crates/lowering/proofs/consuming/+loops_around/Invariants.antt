use Rattle.std.proofs.Common.{length}
use Rattle.lowering.proofs.consuming.+loops_around.Given as goal

abbrev pub decreases-loops_around : goal.decreases-loops_around
decreases-loops_around l = length l.loops.now
