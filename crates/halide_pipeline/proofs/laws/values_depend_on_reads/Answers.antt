use Rattle.halide_pipeline.proofs.Seeing.{values_depend_on_reads}
use Rattle.halide_pipeline.proofs.laws.values_depend_on_reads.Goals as goal

pub returns : goal.returns
returns c = values_depend_on_reads
