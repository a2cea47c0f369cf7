use Rattle.vector_codegen_laws.proofs.RunBytes.{rules-say-runs, tasks-may-write-runs}
use Rattle.vector_codegen_laws.proofs.memory_laws.turns_write_runs.Goals as goal

pub returns-clause-may : goal.returns-clause-may
returns-clause-may c = tasks-may-write-runs

pub returns-clause-says : goal.returns-clause-says
returns-clause-says c = rules-say-runs
