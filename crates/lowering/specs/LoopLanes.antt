-- Vectorized loops of phases: their lanes may be done at once.
--
-- Each has 4, 8 or 16 lanes of one store at most, no lane loads a point at which an earlier lane of the same run stores, and no value of a split
-- loop falls from a lane to the next (`loop_ir/specs/LoopLanes.antt`): what code asks for that loads for all lanes before it stores for any, and
-- leaves out the last ones where guards forbid them.
-- This project's own.
use Rattle.std.specs.Prelude.{◌≡◌, ◌<◌, ℕ, Bool, true, Option, Some, None}
use Rattle.halide_pipeline.specs.Pixel.{Reads}
use Rattle.loop_ir.specs.declared.statements.Phase.{Phase}
use Rattle.loop_ir.specs.declared.statements.Stmt.{Stmt}
use Rattle.loop_ir.specs.Counters.{Values}
use Rattle.loop_ir.specs.LoopLanes.{may_be_at_once}
use Rattle.loop_ir.specs.Running.{task_values}
use Rattle.lowering_nests.specs.LoopLanes.{AllAreSmall}

-- in each task, however loads are answered
abbrev pub LanesMayBeAtOnce : Phase → Type 0
LanesMayBeAtOnce phase = (task : ℕ) → task < phase.tasks → (reads : Reads) → may_be_at_once reads phase.body (task_values phase.counter task) ≡ true

-- of a statement, wherever all counters are small
abbrev pub MayAlwaysBeAtOnce : Stmt → Type 0
MayAlwaysBeAtOnce statement = (reads : Reads) (values : Values) → AllAreSmall values → may_be_at_once reads statement values ≡ true

abbrev pub at_once_first : Reads → Option Stmt → Values → Bool
at_once_first reads None values = true
at_once_first reads (Some first) values = may_be_at_once reads first values
