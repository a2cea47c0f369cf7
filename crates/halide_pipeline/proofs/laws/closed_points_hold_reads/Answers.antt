use Rattle.halide_pipeline.proofs.Tracing.{closed_points_hold_reads}
use Rattle.halide_pipeline.proofs.laws.closed_points_hold_reads.Goals as goal

pub returns : goal.returns
returns c = closed_points_hold_reads
