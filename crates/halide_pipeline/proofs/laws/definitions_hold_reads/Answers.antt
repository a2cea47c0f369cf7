use Rattle.halide_pipeline.proofs.Holding.{definitions_hold_reads}
use Rattle.halide_pipeline.proofs.laws.definitions_hold_reads.Goals as goal

pub returns : goal.returns
returns c = definitions_hold_reads
