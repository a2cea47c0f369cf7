-- How many iterations loops have and how far these go, as values.
-- This project's own.
use Rattle.std.specs.Prelude.{List}
use Rattle.schedule_lines.specs.declared.stages.LoopId.{LoopId}
use Rattle.schedule_lines.specs.declared.stages.Split.{Split}
use Rattle.schedule_loops.specs.declared.extents.Extents.{Extents}
use Rattle.schedule_loops.specs.declared.sizes.LoopSize.{LoopSize}
use Rattle.schedule_loops.specs.Visits.{counts, strides, is_uneven}

-- The extents of whole variables, and the splits of a stage.
pub record SizedLoops : Type 0 where
  pub extents : Extents
  pub splits : List Split

-- the size of a loop that these splits leave
abbrev pub size : SizedLoops → LoopId → LoopSize
size sized_loops id = record { count = counts sized_loops.extents sized_loops.splits id; stride = strides sized_loops.splits id; is_uneven = is_uneven sized_loops.splits id }
