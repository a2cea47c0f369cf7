-- A Func whose line names a loop is computed there exactly where all that read it do so within the loop. Else, or where its line names
-- no loop that may have it, it is computed nowhere; where the output reaches it, the schedule is then refused
-- (`schedule/specs/Legal.antt`).
-- This project's own.
use Rattle.std.specs.Prelude.{◌≡◌, ◌<◌, ◌⊎◌, ℕ, true, List, slice_get, Option, Some, None}
use Rattle.halide_pipeline.specs.Pipelines.{Pipeline}
use Rattle.schedule_lines.specs.declared.lines.Computed.TheVariants as computed
use Rattle.schedule_lines.specs.declared.lines.LoopNames.{LoopNames}
use Rattle.schedule.specs.declared.plans.ComputeLine.{ComputeLine}
use Rattle.schedule.specs.declared.plans.FuncPlan.{FuncPlan}
use Rattle.schedule.specs.declared.placements.LoopPosition.{LoopPosition}
use Rattle.schedule.specs.declared.placements.ComputeLevel.TheVariants as places
use Rattle.schedule.specs.declared.placements.FuncPlacement.{FuncPlacement}
use Rattle.schedule.specs.Placements.{place_calls, consumer, standings}
use Rattle.schedule.specs.Uses.{IsReached, StandsWithin}

-- Each later Func that is reached and calls the one at a place makes its reads within the loop.
abbrev pub HasReadersWithin : Pipeline → List FuncPlan → ℕ → LoopPosition → Type 0
HasReadersWithin pipeline plans at loop =
    (reader : ℕ) (its : FuncPlacement) → at < reader → IsReached (standings pipeline plans) reader its → place_calls pipeline reader at ≡ true
    → StandsWithin pipeline plans (standings pipeline plans) loop reader

-- A line names this loop for a Func that isn't the output, or no loop that may have it.
pub record IsSaidAt (pipeline : Pipeline) (plans : List FuncPlan) (at : ℕ) (loop : Option LoopPosition) : Type 0 where
  pub plan : FuncPlan
  pub line : ComputeLine
  pub names : LoopNames
  pub plan_is : slice_get plans at ≡ Some plan
  pub line_is : plan.compute ≡ Some line
  pub at_loop : line.computed ≡ computed.At names
  pub loop_is : consumer pipeline plans at names ≡ loop
  pub no_output : at ≡ pipeline.output.func → ⊥

-- It is computed there, or nowhere.
pub record StandsThere (pipeline : Pipeline) (plans : List FuncPlan) (at : ℕ) (loop : LoopPosition) (placement : FuncPlacement) : Type 0 where
  pub there_or_nowhere : (placement.place ≡ places.At loop) ⊎ (placement.place ≡ places.Nowhere)
  pub only_if : placement.place ≡ places.At loop → HasReadersWithin pipeline plans at loop
  pub where_so : HasReadersWithin pipeline plans at loop → placement.place ≡ places.At loop

abbrev pub StandsWhereReadersDo : Type 0
StandsWhereReadersDo = (pipeline : Pipeline) (plans : List FuncPlan) (at : ℕ) (loop : LoopPosition) (placement : FuncPlacement) → IsSaidAt pipeline plans at (Some loop)
    → slice_get (standings pipeline plans) at ≡ Some placement → StandsThere pipeline plans at loop placement

abbrev pub StandsNowhereElse : Type 0
StandsNowhereElse = (pipeline : Pipeline) (plans : List FuncPlan) (at : ℕ) (placement : FuncPlacement) → IsSaidAt pipeline plans at None
    → slice_get (standings pipeline plans) at ≡ Some placement → placement.place ≡ places.Nowhere
