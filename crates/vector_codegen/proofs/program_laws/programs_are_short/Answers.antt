use Rattle.vector_codegen.proofs.Lengths.{programs-are-short}
use Rattle.vector_codegen.proofs.program_laws.programs_are_short.Goals as goal

pub returns : goal.returns
returns c = programs-are-short
