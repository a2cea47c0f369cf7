-- What the phase of a stage of a Func leaves: it takes the pixels after the stages before it to those after it.
--
-- The stages of a Func are its pure definition and its updates, in order.
-- This project's own.
use Rattle.std.specs.Prelude.{ℕ, zero, suc, Bool, true, false, ◌&&◌, List, Option, Some, None, slice_get}
use Rattle.halide_pipeline.specs.declared.definitions.Func.{Func}
use Rattle.halide_pipeline.specs.Pipelines.{Pipeline}
use Rattle.halide_pipeline.specs.Pixel.{Planes, with_plane, reads_of, stage, pixels}
use Rattle.schedule.specs.declared.schedules.Schedule.{Schedule}
use Rattle.schedule.specs.declared.placements.ComputeLevel.{ComputeLevel}
use Rattle.schedule.specs.declared.placements.ComputeLevel.TheVariants as places
use Rattle.schedule.specs.declared.placements.FuncPlacement.{FuncPlacement}
use Rattle.bounds_ranges.specs.Laws.{AnswerWords}
use Rattle.bounds.specs.declared.verdict.Boxes.{Boxes}
use Rattle.loop_ir.specs.declared.statements.Phase.{Phase}
use Rattle.loop_ir.specs.Running.{run_task}
use Rattle.lowering.specs.Phases.{DoesPhase}
use Rattle.lowering.specs.Planes.{held, box_points}

-- ---- private buffers

abbrev pub is_at_loop : ComputeLevel → Bool
is_at_loop (places.At at) = true
is_at_loop _ = false

abbrev pub is_private_in : Option FuncPlacement → Bool
is_private_in None = false
is_private_in (Some own) = own.is_reached && is_at_loop own.place

-- Each hart has buffers of its own of Funcs that are computed at loops, of whichever consumer.
abbrev pub is_private : List FuncPlacement → ℕ → Bool
is_private standings func_index = is_private_in (slice_get standings func_index)

-- ---- pixels after stages

-- the pixels of the Funcs before this one, and of this one after its first this many stages
abbrev pub after_stages : List Func → Planes → ℕ → Func → ℕ → Planes
after_stages funcs inputs func_index func zero = pixels funcs inputs func_index
after_stages funcs inputs func_index func (suc number) = with_plane func_index (stage func_index func inputs (pixels funcs inputs func_index) number) (pixels funcs inputs func_index)

-- ---- what its phase does

-- The phase of the stage with this number of a Func, each of whose tasks owns these points of it.
abbrev pub DoesStage : Pipeline → Schedule → Boxes → ℕ → Func → ℕ → (ℕ → ℕ → ℕ → Bool) → Phase → Type 0
DoesStage pipeline schedule boxes func_index func number owned phase =
    (inputs : Planes) → AnswerWords pipeline.inputs (reads_of inputs (pixels pipeline.funcs inputs 0))
    → DoesPhase (box_points boxes.funcs) (is_private schedule.standings) func_index
    (held boxes.funcs (after_stages pipeline.funcs inputs func_index func number)) (held boxes.funcs (after_stages pipeline.funcs inputs func_index func (suc number)))
    phase.tasks owned (run_task (box_points boxes.funcs) inputs phase)
