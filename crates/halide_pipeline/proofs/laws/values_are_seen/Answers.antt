use Rattle.halide_pipeline.proofs.Seeing.{values_are_seen}
use Rattle.halide_pipeline.proofs.laws.values_are_seen.Goals as goal

pub returns : goal.returns
returns c = values_are_seen
