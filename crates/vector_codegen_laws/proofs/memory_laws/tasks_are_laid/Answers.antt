use Rattle.vector_codegen_laws.proofs.Laying.{tasks-are-laid}
use Rattle.vector_codegen_laws.proofs.memory_laws.tasks_are_laid.Goals as goal

pub returns : goal.returns
returns c = tasks-are-laid
