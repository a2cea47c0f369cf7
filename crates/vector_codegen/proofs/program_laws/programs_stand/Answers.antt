use Rattle.vector_codegen.proofs.ProgramStanding.{programs-stand}
use Rattle.vector_codegen.proofs.program_laws.programs_stand.Goals as goal

pub returns : goal.returns
returns c = programs-stand
