use Rattle.halide_pipeline.proofs.Tracing.{stages_depend_on_reads}
use Rattle.halide_pipeline.proofs.laws.stages_depend_on_reads.Goals as goal

pub returns : goal.returns
returns c = stages_depend_on_reads
