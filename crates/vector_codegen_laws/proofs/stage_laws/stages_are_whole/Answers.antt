use Rattle.vector_codegen_laws.proofs.Whole.{stages-are-reached, stages-have-iterations, pure-stages-write-all}
use Rattle.vector_codegen_laws.proofs.stage_laws.stages_are_whole.Goals as goal

pub returns-clause-reached : goal.returns-clause-reached
returns-clause-reached c = stages-are-reached

pub returns-clause-iterations : goal.returns-clause-iterations
returns-clause-iterations c = stages-have-iterations

pub returns-clause-points : goal.returns-clause-points
returns-clause-points c = pure-stages-write-all
