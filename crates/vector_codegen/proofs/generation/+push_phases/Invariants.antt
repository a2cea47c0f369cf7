use Rattle.std.proofs.Common.{length}
use Rattle.vector_codegen.proofs.generation.+push_phases.Given as goal

abbrev pub decreases-push_phases : goal.decreases-push_phases
decreases-push_phases l = length l.phases.now
