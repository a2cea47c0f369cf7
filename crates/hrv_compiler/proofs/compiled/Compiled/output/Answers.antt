use Rattle.std.proofs.Common.{◌≡◌, Some, subst}
use Rattle.hrv_compiler.specs.Compiled.{CompiledContents, output_of}
use Rattle.hrv_compiler.proofs.Outputs.{root_there, own_there, holds, is_output}
use Rattle.hrv_compiler.proofs.compiled.Compiled.output.Goals as goal

pub unwrap-at-requires : goal.unwrap-at-requires
unwrap-at-requires c =
    root_there (record {
      pipeline = c.self.inside.pipeline;
      schedule = c.self.inside.schedule;
      boxes = c.self.inside.boxes;
      words = c.self.inside.words.items;
      ends = c.self.inside.ends.items;
      stages = c.self.inside.stages.items;
    })
    c.self.invariant.compiled c.output-output.result c.get.result c.output-output.ensures.value c.get.ensures.value

pub unwrap-own-requires : goal.unwrap-own-requires
unwrap-own-requires c =
    own_there (record {
      pipeline = c.self.inside.pipeline;
      schedule = c.self.inside.schedule;
      boxes = c.self.inside.boxes;
      words = c.self.inside.words.items;
      ends = c.self.inside.ends.items;
      stages = c.self.inside.stages.items;
    })
    c.self.invariant.compiled c.output-output.result c.box_at.result c.as_slice.result.now c.output-output.ensures.value c.as_slice.ensures.value
    c.box_at.ensures

pub output_in-requires : goal.output_in-requires
output_in-requires c =
    holds (record {
      pipeline = c.self.inside.pipeline;
      schedule = c.self.inside.schedule;
      boxes = c.self.inside.boxes;
      words = c.self.inside.words.items;
      ends =
          c.self.inside.ends.items;
      stages = c.self.inside.stages.items;
    })
    c.self.invariant.compiled c.output-output.result c.output-output.ensures.value c.get.result c.unwrap-at.result c.get.ensures.value c.unwrap-at.ensures
    c.box_at.result c.unwrap-own.result c.as_slice.result.now c.as_slice.ensures.value c.box_at.ensures c.unwrap-own.ensures

pub returns : goal.returns
returns c =
    subst (λ (own : CompiledContents). Some c.output_in.result ≡ output_of own.pipeline own.boxes) c.self.view_is
    (is_output (record {
      pipeline = c.self.inside.pipeline;
      schedule = c.self.inside.schedule;
      boxes = c.self.inside.boxes;
      words = c.self.inside.words.items;
      ends = c.self.inside.ends.items;
      stages = c.self.inside.stages.items;
    })
    c.self.invariant.compiled c.output-output.result c.output-output.ensures.value c.get.result c.unwrap-at.result c.get.ensures.value c.unwrap-at.ensures
    c.box_at.result c.unwrap-own.result c.as_slice.result.now c.as_slice.ensures.value c.box_at.ensures c.unwrap-own.ensures c.output_in.result
    c.output_in.ensures)
