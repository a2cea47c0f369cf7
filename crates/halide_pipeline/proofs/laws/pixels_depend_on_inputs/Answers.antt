use Rattle.halide_pipeline.proofs.Tracing.{pixels_depend_on_inputs}
use Rattle.halide_pipeline.proofs.laws.pixels_depend_on_inputs.Goals as goal

pub returns : goal.returns
returns c = pixels_depend_on_inputs
