-- Where the reads of a Func stand that is computed at a loop: within that loop.
-- This project's own.
use Rattle.std.specs.Prelude.{◌≡◌, ℕ, ◌<◌, true, List, slice_get, Some}
use Rattle.halide_pipeline.specs.Pipelines.{Pipeline}
use Rattle.schedule.specs.declared.plans.FuncPlan.{FuncPlan}
use Rattle.schedule.specs.declared.placements.LoopPosition.{LoopPosition}
use Rattle.schedule.specs.declared.placements.ComputeLevel.TheVariants as places
use Rattle.schedule.specs.declared.placements.FuncPlacement.{FuncPlacement}
use Rattle.schedule.specs.Placements.{place_calls, is_within}

-- The output reaches the Func at a place, and this becomes of it.
pub record IsReached (standings : List FuncPlacement) (at : ℕ) (placement : FuncPlacement) : Type 0 where
  pub standing : slice_get standings at ≡ Some placement
  pub reached : placement.is_reached ≡ true

-- The reads that a Func makes stand within a loop of another Func: it is that other one; or it is computed at the loop, or at one inside
-- it; or it is inlined, and each later Func that is reached and calls it makes its reads within the loop.
pub data StandsWithin (pipeline : Pipeline) (plans : List FuncPlan) (standings : List FuncPlacement) (consumer : LoopPosition) : ℕ → Type 0 where
  Consumer : StandsWithin pipeline plans standings consumer consumer.func
  Computed : (reader : ℕ) (placement : FuncPlacement) (at : LoopPosition)
      → IsReached standings reader placement → placement.place ≡ places.At at → is_within plans consumer at ≡ true
      → StandsWithin pipeline plans standings consumer reader
  Inlined : (reader : ℕ) (placement : FuncPlacement)
      → IsReached standings reader placement → placement.place ≡ places.Inlined
      → ((caller : ℕ) (its : FuncPlacement) → reader < caller → IsReached standings caller its → place_calls pipeline caller reader ≡ true
      → StandsWithin pipeline plans standings consumer caller)
      → StandsWithin pipeline plans standings consumer reader

-- Where the Func at a place is computed at a loop, each later Func that is reached and calls it makes its reads within that loop.
abbrev pub HasUsesWithin : Pipeline → List FuncPlan → List FuncPlacement → ℕ → FuncPlacement → Type 0
HasUsesWithin pipeline plans standings at placement =
    (consumer : LoopPosition) → placement.place ≡ places.At consumer
    → (reader : ℕ) (its : FuncPlacement) → at < reader → IsReached standings reader its → place_calls pipeline reader at ≡ true
    → StandsWithin pipeline plans standings consumer reader

-- the standing of the Func that has the loop: it is reached, and computed at root
pub record IsRootReached (standings : List FuncPlacement) (func : ℕ) : Type 0 where
  pub own : FuncPlacement
  pub there : IsReached standings func own
  pub root : own.place ≡ places.Root

-- The consumer of a Func that is reached is reached, and is at root.
abbrev pub HasConsumerAtRoot : List FuncPlacement → ℕ → FuncPlacement → Type 0
HasConsumerAtRoot standings at placement = placement.is_reached ≡ true → (consumer : LoopPosition) → placement.place ≡ places.At consumer → IsRootReached standings consumer.func
