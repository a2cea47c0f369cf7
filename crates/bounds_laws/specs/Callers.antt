-- Which Funcs another reads, also through those that are inlined, and where they stand.
-- This project's own.
use Rattle.std.specs.Prelude.{◌≡◌, ◌<◌, ℕ, suc, true, false, List, ◌⊎◌, slice_get, Some, is_some}
use Rattle.std.specs.List.{AllByRecursion}
use Rattle.halide_pipeline.specs.declared.definitions.Func.{Func}
use Rattle.halide_pipeline.specs.declared.definitions.Update.{Update}
use Rattle.halide_pipeline.specs.declared.expressions.Source.{Source}
use Rattle.halide_pipeline.specs.declared.expressions.Source.TheVariants as sources
use Rattle.halide_pipeline.specs.Pipelines.{Pipeline}
use Rattle.halide_pipeline.specs.WellFormed.{IsWellFormed}
use Rattle.halide_pipeline.specs.Pixel.{Reads}
use Rattle.halide_pipeline.specs.Points.{Point}
use Rattle.schedule.specs.declared.schedules.Schedule.{Schedule}
use Rattle.schedule.specs.declared.placements.LoopPosition.{LoopPosition}
use Rattle.schedule.specs.declared.placements.ComputeLevel.TheVariants as places
use Rattle.schedule.specs.declared.placements.FuncPlacement.{FuncPlacement}
use Rattle.schedule.specs.Accepted.{IsAccepted}
use Rattle.schedule.specs.Placements.{place_calls, is_within}
use Rattle.schedule.specs.Uses.{IsReached}
use Rattle.bounds_inlining.specs.Inlining.{flagged}
use Rattle.bounds_weights.specs.Weight.{flags_of}
use Rattle.bounds_laws.specs.Laws.{IsComputed, pure_points, update_points}

-- A Func reads an earlier one: it calls it, or an inlined one in between that reads it.
pub data ReadsThrough (pipeline : Pipeline) (standings : List FuncPlacement) : ℕ → ℕ → Type 0 where
  Calls : (reader func : ℕ) → func < reader → place_calls pipeline reader func ≡ true → ReadsThrough pipeline standings reader func
  Through : (reader between func : ℕ) → between < reader → flagged (flags_of standings) between ≡ true → place_calls pipeline reader between ≡ true
      → ReadsThrough pipeline standings between func → ReadsThrough pipeline standings reader func

-- A point is of an input that is there, or of one of the first this many Funcs: of the reader itself, or of one that it
-- reads, and not of an inlined one.
abbrev pub IsReadThrough : Pipeline → List FuncPlacement → ℕ → ℕ → Source → Type 0
IsReadThrough pipeline standings reader count (sources.Input place) = is_some (slice_get pipeline.inputs place) ≡ true
IsReadThrough pipeline standings reader count (sources.Func func) =
    (flagged (flags_of standings) func ≡ false) × ((func < count) × ((func ≡ reader) ⊎ ReadsThrough pipeline standings reader func))

abbrev pub AreReadThrough : Pipeline → List FuncPlacement → ℕ → ℕ → List Point → Type 0
AreReadThrough pipeline standings reader count points = AllByRecursion (λ (point : Point). IsReadThrough pipeline standings reader count point.source) points

-- Each point that a pure definition reads, its inlined Funcs put in place, is of a source that it reads so.
abbrev pub PurePointsAreReadThrough : Type 0
PurePointsAreReadThrough = (pipeline : Pipeline) (schedule : Schedule) → IsWellFormed pipeline
    → (reader : ℕ) (func : Func) → slice_get pipeline.funcs reader ≡ Some func → (reads : Reads) (x y : ℕ)
    → AreReadThrough pipeline schedule.standings reader reader (pure_points pipeline schedule reads reader func x y)

-- So is each that an update reads of a Func that isn't inlined.
abbrev pub UpdatePointsAreReadThrough : Type 0
UpdatePointsAreReadThrough = (pipeline : Pipeline) (schedule : Schedule) → IsWellFormed pipeline
    → (reader : ℕ) (func : Func) → slice_get pipeline.funcs reader ≡ Some func → flagged (flags_of schedule.standings) reader ≡ false
    → (at : ℕ) (update : Update) → slice_get func.updates at ≡ Some update → (reads : Reads) (number x y : ℕ)
    → AreReadThrough pipeline schedule.standings reader (suc reader) (update_points pipeline schedule reads reader update number x y)

-- It is the Func that has the loop, or it is computed at that loop or at one inside it.
pub data StandsAt (schedule : Schedule) (consumer : LoopPosition) (reader : ℕ) : Type 0 where
  HasLoop : reader ≡ consumer.func → StandsAt schedule consumer reader
  IsWithin : (placement : FuncPlacement) (at : LoopPosition) → IsReached schedule.standings reader placement → placement.place ≡ places.At at → is_within schedule.funcs consumer at
      ≡ true → StandsAt schedule consumer reader

-- What a Func that is computed reads of others is reached and computed; and where that is at a loop, the reader is at it.
pub record IsReadWithin (schedule : Schedule) (reader func : ℕ) : Type 0 where
  pub own : FuncPlacement
  pub there : IsReached schedule.standings func own
  pub before : func < reader
  pub within : (consumer : LoopPosition) → own.place ≡ places.At consumer → StandsAt schedule consumer reader

abbrev pub ReadersStandWithin : Type 0
ReadersStandWithin = (pipeline : Pipeline) (schedule : Schedule) → IsAccepted pipeline schedule
    → (reader : ℕ) (its : FuncPlacement) → IsReached schedule.standings reader its → IsComputed reader its.place
    → (func : ℕ) → ReadsThrough pipeline schedule.standings reader func → IsReadWithin schedule reader func
