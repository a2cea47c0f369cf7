use Rattle.std.proofs.Common.{ap, ◌∙◌}
use Rattle.halide_pipeline.specs.Pipelines.{lookup}
use Rattle.halide_pipeline.proofs.Pairs.{found}
use Rattle.halide_pipeline.proofs.names.Names.get.Goals as goal

pub returns : goal.returns
returns c = c.copied.ensures ∙ c.get.ensures.value ∙ found c.args.name.now c.self.inside.sources.entries ∙ ap (lookup c.args.name.now) c.self.view_is
