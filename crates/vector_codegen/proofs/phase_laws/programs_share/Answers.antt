use Rattle.vector_codegen.proofs.Sharing.{programs-share}
use Rattle.vector_codegen.proofs.phase_laws.programs_share.Goals as goal

pub returns : goal.returns
returns c = programs-share
