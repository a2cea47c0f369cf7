-- What every schedule keeps that a text means for a pipeline.
-- This project's own.
use Rattle.std.specs.Prelude.{◌≡◌, ℕ, ◌+◌, ◌<◌, Bool, true, false, not, ◌&&◌, List, [], ◌∷◌, length, slice_get, Some}
use Rattle.std.specs.List.{AllByRecursion}
use Rattle.halide_pipeline.specs.declared.definitions.Func.{Func}
use Rattle.halide_pipeline.specs.declared.definitions.Update.{Update}
use Rattle.halide_pipeline.specs.Pipelines.{Pipeline}
use Rattle.schedule_lines.specs.declared.stages.Loop.{Loop}
use Rattle.schedule_lines.specs.declared.stages.Mark.TheVariants as marks
use Rattle.schedule_lines.specs.declared.stages.Stage.{Stage}
use Rattle.schedule_lines.specs.Directives.{find, is_marked}
use Rattle.schedule_lines.specs.Making.{IsStage}
use Rattle.schedule.specs.declared.legality.LoopRule.{LoopRule}
use Rattle.schedule.specs.declared.plans.FuncPlan.{FuncPlan}
use Rattle.schedule.specs.declared.schedules.Schedule.{Schedule}
use Rattle.schedule.specs.declared.placements.LoopPosition.{LoopPosition}
use Rattle.schedule.specs.declared.placements.ComputeLevel.TheVariants as places
use Rattle.schedule.specs.declared.placements.FuncPlacement.{FuncPlacement}
use Rattle.schedule.specs.Legal.{breaks, is_empty, is_root, is_inlined, is_nowhere}
use Rattle.schedule.specs.Plans.{pure_loops, update_loops}
use Rattle.schedule.specs.Placements as standing
use Rattle.schedule.specs.Uses.{HasConsumerAtRoot, HasUsesWithin}

-- Two lists of one length, of which each two in the same place are so.
abbrev pub Pairwise : {A B : Type 0} → (A → B → Type 0) → List A → List B → Type 0
Pairwise P [] [] = Unit {0}
Pairwise P [] (y ∷ ys) = ⊥
Pairwise P (x ∷ xs) [] = ⊥
Pairwise P (x ∷ xs) (y ∷ ys) = P x y × Pairwise P xs ys

-- Each of a list is so with its place, of which the first has this number.
abbrev pub Numbered : {A : Type 0} → (ℕ → A → Type 0) → ℕ → List A → Type 0
Numbered P at [] = Unit {0}
Numbered P at (x ∷ xs) = P at x × Numbered P (at + 1) xs

-- ---- the stages of a Func are made of their first loops

abbrev pub IsUpdateStage : Func → Update → Stage → Type 0
IsUpdateStage func update stage = IsStage true (update_loops func update) stage

pub record IsPlan (func : Func) (plan : FuncPlan) : Type 0 where
  pub pure : IsStage false (pure_loops func) plan.pure
  -- where no line is about its loops, they are the first ones
  pub undirected : plan.is_directed ≡ false → plan.pure ≡ record { loops = pure_loops func; splits = [] }
  pub updates : Pairwise (IsUpdateStage func) func.updates plan.updates

-- ---- the loops of a Func that the output reaches keep the rules

-- from a loop on, going outward
abbrev pub keeps : LoopRule → Bool → Bool → List Loop → Bool
keeps rule at_root is_innermost [] = true
keeps rule at_root is_innermost (first ∷ outside) =
    not (breaks rule at_root is_innermost (is_empty outside) first) && keeps rule at_root false outside

abbrev pub Keeps : LoopRule → Bool → Stage → Type 0
Keeps rule at_root stage = keeps rule at_root true stage.loops ≡ true

-- It is computed somewhere; and where that is in the expressions that call it, it has no updates and no line is
-- about its loops.
pub record IsComputed (plan : FuncPlan) (placement : FuncPlacement) : Type 0 where
  pub pure : (rule : LoopRule) → Keeps rule (is_root placement.place) plan.pure
  pub updates : (rule : LoopRule) → AllByRecursion (Keeps rule (is_root placement.place)) plan.updates
  pub somewhere : is_nowhere placement.place ≡ false
  pub no_updates : is_inlined placement.place ≡ true → length plan.updates ≡ 0
  pub no_lines : is_inlined placement.place ≡ true → plan.is_directed ≡ false

abbrev pub IsLegal : FuncPlan → FuncPlacement → Type 0
IsLegal plan placement = placement.is_reached ≡ true → IsComputed plan placement

-- ---- the loop at which a Func is computed is one of a later Func at root without updates, and not vectorized

pub record IsConsumer (pipeline : Pipeline) (plans : List FuncPlan) (at : ℕ) (consumer : LoopPosition) : Type 0 where
  pub later : at < consumer.func
  pub plan : FuncPlan
  pub plan_is : slice_get plans consumer.func ≡ Some plan
  pub root : standing.is_root pipeline consumer.func plan ≡ true
  pub no_updates : length plan.updates ≡ 0
  pub name : List ℕ
  pub loop : Loop
  pub loop_is : find name plan.pure.loops ≡ Some loop
  pub id_is : loop.id ≡ consumer.inside
  pub unvectorized : is_marked marks.Vectorized loop ≡ false

abbrev pub IsProduced : Pipeline → List FuncPlan → ℕ → FuncPlacement → Type 0
IsProduced pipeline plans at placement = (consumer : LoopPosition) → placement.place ≡ places.At consumer → IsConsumer pipeline plans at consumer

-- ---- the whole

pub record IsAccepted (pipeline : Pipeline) (schedule : Schedule) : Type 0 where
  pub plans : Pairwise IsPlan pipeline.funcs schedule.funcs
  pub standings : schedule.standings ≡ standing.standings pipeline schedule.funcs
  pub legal : Pairwise IsLegal schedule.funcs schedule.standings
  pub consumers : Numbered (IsProduced pipeline schedule.funcs) 0 schedule.standings
  -- the consumer of a Func that the output reaches is reached, and is at root
  pub consumers_at_root : Numbered (HasConsumerAtRoot schedule.standings) 0 schedule.standings
  -- what reads a Func that is computed at a loop is within the loop
  pub uses : Numbered (HasUsesWithin pipeline schedule.funcs schedule.standings) 0 schedule.standings
