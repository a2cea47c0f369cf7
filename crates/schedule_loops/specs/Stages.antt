-- The stages of a Func, and how many values each variable takes in one.
-- This project's own.
use Rattle.std.specs.Prelude.{◌≡◌, ◌<◌, ℕ, ◌*◌, Bool, true, ◌&&◌, nat_lt, if◌then◌else◌, List, Option, Some, None, is_some}
use Rattle.std.specs.List.{list_any}
use Rattle.halide_pipeline.specs.declared.definitions.Func.{Func}
use Rattle.halide_pipeline.specs.declared.definitions.Update.{Update}
use Rattle.halide_pipeline.specs.declared.expressions.Variable.{Variable}
use Rattle.halide_pipeline.specs.declared.expressions.Variable.TheVariants as variables
use Rattle.halide_pipeline.specs.Expressions.{same_variable}
use Rattle.schedule_lines.specs.declared.stages.Loop.{Loop}
use Rattle.schedule_lines.specs.declared.stages.Stage.{Stage}
use Rattle.schedule_lines.specs.Making.{IsStage}
use Rattle.schedule.specs.declared.legality.LoopRule.{LoopRule}
use Rattle.schedule.specs.Accepted.{Keeps}
use Rattle.schedule.specs.Plans.{pure_loops, update_loops}
use Rattle.schedule_loops.specs.declared.extents.Extents.{Extents}
use Rattle.schedule_loops.specs.Visits.{extent_of, Visit}

-- the loops before any line, of an update or, where none is named, of the pure definition
abbrev pub first_loops : Func → Option Update → List Loop
first_loops func None = pure_loops func
first_loops func (Some update) = update_loops func update

-- Lines make the stage of an update or of the pure definition.
abbrev pub IsStageOf : Func → Option Update → Stage → Type 0
IsStageOf func update stage = IsStage (is_some update) (first_loops func update) stage

-- Its marked loops keep the rules.
abbrev pub KeepsRules : Stage → Type 0
KeepsRules stage = (at_root : Bool) × ((rule : LoopRule) → Keeps rule at_root stage)

-- One of the loops is over the variable.
abbrev pub has_variable : Variable → List Loop → Bool
has_variable variable loops = list_any (λ own. same_variable own.variable variable) loops

-- how many values the variable takes: 0 alone, where no loop is over it
abbrev pub extent_in : Func → Option Update → Extents → Variable → ℕ
extent_in func update extents variable = if has_variable variable (first_loops func update) then extent_of extents variable else 1

-- how many reduction points each slice goes through; of a pure definition, the one point
abbrev pub points_of : Func → Option Update → Extents → ℕ
points_of func update extents = extent_in func update extents variables.SecondReduction * extent_in func update extents variables.FirstReduction

abbrev pub is_slice_of : Func → Option Update → Extents → ℕ → ℕ → Bool
is_slice_of func update extents x y =
    nat_lt x (extent_in func update extents variables.FirstArgument) && nat_lt y (extent_in func update extents variables.SecondArgument)

-- The visit is one of the slices and reduction points of the stage.
pub record IsVisitOf (func : Func) (update : Option Update) (extents : Extents) (visit : Visit) : Type 0 where
  pub slice : is_slice_of func update extents visit.x visit.y ≡ true
  pub number : visit.number < points_of func update extents
