-- What was compiled: a pipeline under a schedule that was accepted for it, the boxes of both, and words. What images of these words do is said
-- of each image that is made (Correct.antt, Assigned.antt, Runs.antt). This project's own.
use Rattle.std.specs.Prelude.{ℕ, ◌+◌, ◌*◌, ◌-◌, List, slice_get, slice_index, Option, Some, None}
use Rattle.halide_pipeline.specs.Pipelines.{Pipeline}
use Rattle.schedule.specs.declared.schedules.Schedule.{Schedule}
use Rattle.bounds.specs.declared.boxes.SourceBox.{SourceBox}
use Rattle.bounds.specs.declared.verdict.Boxes.{Boxes}
use Rattle.bounds.specs.Extents.{box_in, extent}
use Rattle.bounds_ranges.specs.Numbers.{origin}
use Rattle.loader.specs.declared.outputs.Output.{Output}
use Rattle.vector_codegen_laws.specs.Programs.{CodeStage}

pub record CompiledContents : Type 0 where
  pub pipeline : Pipeline
  pub schedule : Schedule
  pub boxes : Boxes
  -- the machine's text, whose first word is the entry
  pub words : List ℕ
  -- where the code of each phase ends in it: the place after its last word, from 0 (Map.antt)
  pub ends : List ℕ
  -- which words are the code of stages inside of phases, in the order of their code
  pub stages : List CodeStage

-- ---- the output

-- from the first point of a box that begins so far to the left and above, and has such rows
abbrev pub output_in : ℕ → Option SourceBox → ℕ → ℕ → Option Output
output_in at None width height = None
output_in at (Some own) width height = Some (record {
  address = at + 4 * ((origin - own.y.low) * extent own.x + (origin - own.x.low));
  width = width;
  height = height;
  stride = 4 * extent own.x;
})

-- The output lies where the layout has its Func, from point 0, 0 on.
abbrev pub output_of : Pipeline → Boxes → Option Output
output_of pipeline boxes =
    output_in (slice_index boxes.layout.roots pipeline.output.func) (box_in (slice_get boxes.funcs pipeline.output.func)) pipeline.output.width
    pipeline.output.height
