-- How many registers the tasks of phases take: no more than the judgement of weights counts.
-- This project's own.
use Rattle.std.specs.Prelude.{ℕ, ◌+◌, ◌≤◌, ◌^◌, Bool, max, List, Option, Some, None}
use Rattle.std.specs.List.{AllByRecursion}
use Rattle.halide_pipeline.specs.declared.definitions.Func.{Func}
use Rattle.halide_pipeline.specs.declared.definitions.Update.{Update}
use Rattle.halide_pipeline.specs.declared.expressions.Expr.{Expr}
use Rattle.halide_pipeline.specs.Pipelines.{Pipeline}
use Rattle.schedule.specs.declared.schedules.Schedule.{Schedule}
use Rattle.bounds_inlining.specs.Inlining.{inlined, flagged}
use Rattle.bounds_weights.specs.Weight.{needs}
use Rattle.loop_ir.specs.declared.statements.Phase.{Phase}
use Rattle.loop_ir.specs.Depths.{task_depth}
use Rattle.loop_ir.specs.Needs.{greatest_need}
use Rattle.lowering_expressions.specs.Needing.{taking}

-- ---- stores

-- a definition that calls the first this many Funcs
abbrev pub taken : List Bool → List Func → ℕ → Expr → ℕ
taken flags funcs count e = inlined taking (flagged flags) funcs count (λ v. 1) e

abbrev pub second_taken : List Bool → List Func → ℕ → Option Expr → ℕ
second_taken flags funcs count None = 1
second_taken flags funcs count (Some e) = taken flags funcs count e

-- an update of the Func at a place
abbrev pub update_taken : List Bool → List Func → ℕ → Update → ℕ
update_taken flags funcs func_index update =
    max (taken flags funcs func_index update.left_x) (max (second_taken flags funcs func_index update.left_y) (taken flags funcs (func_index + 1) update.right))

-- ---- phases

-- the most that any expression of a stage needs, or 1, for the points at which it stores
abbrev pub most_need : Pipeline → Schedule → ℕ
most_need pipeline schedule = max 1 (needs pipeline schedule).greatest

-- At most this many counters stand around a store, the task's own among them: five loops of a consumer, and five loops and four values of split
-- ones of a Func at the innermost. Its expressions need no more than the most, and harts can count its tasks in a word.
abbrev pub TakesFew : Pipeline → Schedule → Phase → Type 0
TakesFew pipeline schedule phase = (task_depth phase ≤ 14) × ((greatest_need phase.body ≤ most_need pipeline schedule) × (phase.tasks ≤ 2 ^ 31))

abbrev pub TakeFew : Pipeline → Schedule → List Phase → Type 0
TakeFew pipeline schedule phases = AllByRecursion (TakesFew pipeline schedule) phases
