use Rattle.vector_codegen_laws.proofs.Holding.{memory-holds-funcs, tasks-find-theirs, tasks-leave-theirs}
use Rattle.vector_codegen_laws.proofs.memory_laws.memory_holds_funcs.Goals as goal

pub returns-clause-any : goal.returns-clause-any
returns-clause-any c = memory-holds-funcs

pub returns-clause-finds : goal.returns-clause-finds
returns-clause-finds c = tasks-find-theirs

pub returns-clause-leaves : goal.returns-clause-leaves
returns-clause-leaves c = tasks-leave-theirs
