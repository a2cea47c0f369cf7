-- Which stage each phase computes, how many iterations it has, and which points each of them writes.
--
-- The phases are the stages of the Funcs that are computed at root and have a box, in order of the text: of each its pure definition, then
-- its updates. A stage's iterations are those of its parallel loop, or one.
-- This project's own.
use Rattle.std.specs.Prelude.{◌≡◌, ℕ, slice_get, Some, ◌==◌, ◌&&◌, Bool, zero, suc, false, List, [], ◌∷◌, ◌++◌, length, Option, None}
use Rattle.std.specs.List.{list_any}
use Rattle.halide_pipeline.specs.declared.definitions.Func.{Func}
use Rattle.halide_pipeline.specs.Pipelines.{Pipeline}
use Rattle.halide_pipeline.specs.declared.definitions.Update.{Update}
use Rattle.schedule.specs.declared.plans.FuncPlan.{FuncPlan}
use Rattle.schedule.specs.declared.schedules.Schedule.{Schedule}
use Rattle.schedule.specs.declared.placements.ComputeLevel.{ComputeLevel}
use Rattle.schedule.specs.declared.placements.ComputeLevel.TheVariants as places
use Rattle.schedule.specs.declared.placements.FuncPlacement.{FuncPlacement}
use Rattle.schedule.specs.Uses.{IsReached}
use Rattle.bounds.specs.declared.boxes.SourceBox.{SourceBox}
use Rattle.bounds.specs.declared.verdict.Boxes.{Boxes}
use Rattle.bounds.specs.Extents.{BoxCorner, corner_of, update_extents, extents_of}
use Rattle.halide_pipeline.specs.Words as word
use Rattle.halide_pipeline.specs.Pixel.{Planes, Reads, value, index_value, at_reduction, reads_of, pixels}
use Rattle.schedule_lines.specs.declared.stages.Stage.{Stage}
use Rattle.schedule_loops.specs.Visits.{points_written, iteration_count, owns, Visit}

-- A Func that the output reaches and that is computed there, with its loops and its box.
pub record IsComputedAt (pipeline : Pipeline) (schedule : Schedule) (boxes : Boxes) (placed : ComputeLevel) (func_index : ℕ) (func : Func) (plan : FuncPlan)
    (source_box : SourceBox) : Type 0 where
  pub func_is : slice_get pipeline.funcs func_index ≡ Some func
  pub plan_is : slice_get schedule.funcs func_index ≡ Some plan
  pub box_is : slice_get boxes.funcs func_index ≡ Some (Some source_box)
  pub standing : FuncPlacement
  pub there : IsReached schedule.standings func_index standing
  pub placed_is : standing.place ≡ placed

abbrev pub IsAtRoot : Pipeline → Schedule → Boxes → ℕ → Func → FuncPlan → SourceBox → Type 0
IsAtRoot pipeline schedule boxes = IsComputedAt pipeline schedule boxes places.Root

-- the point that the left side names at a visit, counted from the corner of the box
abbrev pub named_point : Reads → BoxCorner → Update → Visit → ℕ × ℕ
named_point reads corner update visit = (
  word.subtract (value reads (at_reduction update visit.number (word.add visit.x corner.x) (word.add visit.y corner.y)) update.left_x) corner.x,
  word.subtract (index_value reads (at_reduction update visit.number (word.add visit.x corner.x) (word.add visit.y corner.y)) update.left_y) corner.y,
)

abbrev pub is_point : ℕ → ℕ → ℕ × ℕ → Bool
is_point x y point = point.0 == x && point.1 == y

-- The left side names the point at a visit of the iteration with this number, where Funcs have their pixels.
abbrev pub names : Pipeline → Planes → ℕ → SourceBox → Update → Stage → ℕ → ℕ → ℕ → Bool
names pipeline inputs func_index source_box update stage number x y =
    list_any (is_point x y) (points_written (named_point (reads_of inputs (pixels pipeline.funcs inputs func_index)) (corner_of (Some source_box)) update)
    (update_extents source_box update) stage number)

-- ---- which stages there are

-- a stage of the Func at a place: 0 is its pure definition, and its updates follow
pub record StagePosition : Type 0 where
  pub func : ℕ
  pub number : ℕ

-- the first this many of a Func
abbrev pub stages_to : ℕ → ℕ → List StagePosition
stages_to func zero = []
stages_to func (suc number) = stages_to func number ++ record { func = func; number = number } ∷ []

abbrev pub stages_where : ComputeLevel → Func → Option SourceBox → ℕ → List StagePosition
stages_where places.Root func (Some source_box) func_index = stages_to func_index (suc (length func.updates))
stages_where _ func source_box func_index = []

abbrev pub stages_at : ℕ → Option FuncPlacement → Option Func → Option (Option SourceBox) → List StagePosition
stages_at func_index None func own = []
stages_at func_index (Some standing) None own = []
stages_at func_index (Some standing) (Some func) None = []
stages_at func_index (Some standing) (Some func) (Some own) = stages_where standing.place func own func_index

module _ (pipeline : Pipeline) (schedule : Schedule) (boxes : Boxes) where
  -- of the first this many Funcs
  abbrev pub stages_below : ℕ → List StagePosition
  stages_below zero = []
  stages_below (suc place) = stages_below place
      ++ stages_at place (slice_get schedule.standings place) (slice_get pipeline.funcs place) (slice_get boxes.funcs place)

  abbrev pub stages : List StagePosition
  stages = stages_below (length pipeline.funcs)

  -- ---- their iterations

  abbrev pub update_iterations : SourceBox → Option Update → Option Stage → ℕ
  update_iterations own None stage = 0
  update_iterations own (Some update) None = 0
  update_iterations own (Some update) (Some stage) = iteration_count (update_extents own update) stage

  abbrev pub iterations_of : Func → FuncPlan → SourceBox → ℕ → ℕ
  iterations_of func plan own zero = iteration_count (extents_of own) plan.pure
  iterations_of func plan own (suc at) = update_iterations own (slice_get func.updates at) (slice_get plan.updates at)

  abbrev pub iterations_in : Option Func → Option FuncPlan → Option (Option SourceBox) → ℕ → ℕ
  iterations_in (Some func) (Some plan) (Some (Some own)) number = iterations_of func plan own number
  iterations_in _ plan own number = 0

  -- how many a stage has
  abbrev pub iterations : StagePosition → ℕ
  iterations stage = iterations_in (slice_get pipeline.funcs stage.func) (slice_get schedule.funcs stage.func) (slice_get boxes.funcs stage.func) stage.number

  -- ---- the points that they write

  abbrev pub update_writes : Planes → ℕ → SourceBox → Option Update → Option Stage → ℕ → ℕ → ℕ → Bool
  update_writes inputs place own None stage iteration x y = false
  update_writes inputs place own (Some update) None iteration x y = false
  update_writes inputs place own (Some update) (Some stage) iteration x y = names pipeline inputs place own update stage iteration x y

  abbrev pub writes_of : Planes → ℕ → Func → FuncPlan → SourceBox → ℕ → ℕ → ℕ → ℕ → Bool
  writes_of inputs place func plan own zero iteration x y = owns (extents_of own) plan.pure iteration x y
  writes_of inputs place func plan own (suc at) iteration x y = update_writes inputs place own (slice_get func.updates at) (slice_get plan.updates at) iteration
      x y

  abbrev pub writes_in : Planes → ℕ → Option Func → Option FuncPlan → Option (Option SourceBox) → ℕ → ℕ → ℕ → ℕ → Bool
  writes_in inputs place (Some func) (Some plan) (Some (Some own)) number iteration x y = writes_of inputs place func plan own number iteration x y
  writes_in inputs place _ plan own number iteration x y = false

  -- The iteration with this number of a stage writes the point, counted from the corner of the Func's box, where inputs hold this: of a pure
  -- definition those that it visits, of an update those that the left side names at a reduction point, where arguments in place lie in it.
  abbrev pub writes : Planes → StagePosition → ℕ → ℕ → ℕ → Bool
  writes inputs stage iteration x y =
      writes_in inputs stage.func (slice_get pipeline.funcs stage.func) (slice_get schedule.funcs stage.func) (slice_get boxes.funcs stage.func) stage.number
      iteration x y
