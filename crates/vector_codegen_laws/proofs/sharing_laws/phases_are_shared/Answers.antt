use Rattle.vector_codegen_laws.proofs.Sharing.{phases-are-shared}
use Rattle.vector_codegen_laws.proofs.sharing_laws.phases_are_shared.Goals as goal

pub returns : goal.returns
returns c = phases-are-shared
