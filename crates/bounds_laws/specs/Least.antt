-- Boxes are the least that hold all ranges that are asked.
--
-- All ranges that are asked of a source, in one dimension, are a list; its box goes from the least of their lows to the greatest of
-- their highs, in whatever order they stand, widened first over all values of the loops where they differ in base; for an input or a
-- Func at root each is widened (`taken`). This project's own.
use Rattle.std.specs.Prelude.{◌≡◌, ℕ, ◌+◌, ◌==◌, nat_le, Bool, true, false, if◌then◌else◌, List, [], ◌∷◌, ◌++◌, drop, map, slice_get, Option, Some, None, Ok}
use Rattle.std.specs.List.{list_all, list_any}
use Rattle.halide_pipeline.specs.declared.definitions.Func.{Func}
use Rattle.halide_pipeline.specs.declared.definitions.Output.{Output}
use Rattle.halide_pipeline.specs.declared.definitions.Update.{Update}
use Rattle.halide_pipeline.specs.declared.expressions.Source.{Source}
use Rattle.halide_pipeline.specs.declared.expressions.Source.TheVariants as sources
use Rattle.halide_pipeline.specs.WellFormed.{is_first_in_place, is_second_in_place, IsWellFormed}
use Rattle.halide_pipeline.specs.Pipelines.{Pipeline}
use Rattle.schedule.specs.declared.schedules.Schedule.{Schedule}
use Rattle.schedule.specs.declared.placements.FuncPlacement.{FuncPlacement}
use Rattle.schedule.specs.Accepted.{IsAccepted}
use Rattle.bounds_ranges.specs.declared.expressions.ReadRange.{ReadRange}
use Rattle.bounds_ranges.specs.declared.ranges.Ends.{Ends}
use Rattle.bounds_ranges.specs.declared.ranges.Range.{Range}
use Rattle.bounds_ranges.specs.Ranges.{no_base, same_base, ends_of, widened}
use Rattle.bounds_weights.specs.Weight.{flags_of}
use Rattle.bounds.specs.declared.boxes.ConsumerLoop.{ConsumerLoop}
use Rattle.bounds.specs.declared.boxes.SourceBox.{SourceBox}
use Rattle.bounds.specs.declared.verdict.Boxes.{Boxes}
use Rattle.bounds.specs.Inference.{update_asked, func_asked, unplaced, pixels_range}
use Rattle.bounds.specs.Boxes.{no_loops, lasts_of, taken, same_source}
use Rattle.bounds.specs.Verdict.{inferred}
use Rattle.bounds.specs.Views.{view_of}
use Rattle.bounds_laws.specs.Laws.{consumer_in}

-- ---- the least range that holds all of a list

-- from the least of the lows to the greatest of the highs
pub record IsSpan (own_ends : Ends) (all : List Ends) : Type 0 where
  pub none_lower : list_all (λ (ends : Ends). nat_le own_ends.low ends.low) all ≡ true
  pub none_higher : list_all (λ (ends : Ends). nat_le ends.high own_ends.high) all ≡ true
  pub lowest : list_any (λ (ends : Ends). ends.low == own_ends.low) all ≡ true
  pub highest : list_any (λ (ends : Ends). ends.high == own_ends.high) all ≡ true

-- all of one base
abbrev pub have_one_base : List Range → Bool
have_one_base [] = true
have_one_base (first ∷ others) = list_all (λ (range : Range). same_base first.base range.base) others

abbrev pub has_base_of : Range → List Range → Bool
has_base_of own_range all = list_all (λ (range : Range). same_base own_range.base range.base) all

-- The range holds all of these, and nothing more: over their base; or, where they have more than one, over all values of the loops.
pub record IsLeast (lasts : List ℕ) (all : List Range) (range : Range) : Type 0 where
  pub one_base : have_one_base all ≡ true → (has_base_of range all ≡ true) × IsSpan (ends_of range) (map ends_of all)
  pub more_bases : have_one_base all ≡ false → (range.base ≡ no_base) × IsSpan (ends_of range) (map (widened lasts) all)

-- ---- what is asked of a source in one dimension, the one that `side` has of a read

module _ (side : ReadRange → Range) where
  -- among these reads
  abbrev pub asked_of : Option ConsumerLoop → List ℕ → Source → List ReadRange → List Range
  asked_of consumer lasts source [] = []
  asked_of consumer lasts source (read ∷ others) =
      if same_source read.source source then taken consumer lasts (side read) ∷ asked_of consumer lasts source others else asked_of consumer lasts source others

  module _ (pipeline : Pipeline) (schedule : Schedule) where
    -- by the updates of the Func itself, but those in which this dimension is in place
    abbrev pub asked_by_updates : (Update → Bool) → ℕ → Option ConsumerLoop → List Update → List Range
    asked_by_updates is_in_place at consumer [] = []
    asked_by_updates is_in_place at consumer (update ∷ others) =
        (if is_in_place update then [] else asked_of consumer no_loops (sources.Func at) (update_asked pipeline.inputs pipeline.funcs
        (flags_of schedule.standings) at unplaced update))
        ++ asked_by_updates is_in_place at consumer others

    abbrev pub asked_by_func : ℕ → SourceBox → Option ConsumerLoop → Source → Option Func → List Range
    asked_by_func reader view consumer source None = []
    asked_by_func reader view consumer source (Some func) =
        asked_of consumer view.lasts source (func_asked pipeline.inputs pipeline.funcs (flags_of schedule.standings) reader view func)

    abbrev pub asked_by : ℕ → Option ConsumerLoop → Source → Option SourceBox → List Range
    asked_by reader consumer source None = []
    asked_by reader consumer source (Some own) =
        asked_by_func reader (view_of (slice_get schedule.funcs reader) (slice_get schedule.standings reader) own consumer) consumer source
        (slice_get pipeline.funcs reader)

    -- by the Funcs from a place on, which have these boxes
    abbrev pub asked_from : ℕ → Option ConsumerLoop → Source → List (Option SourceBox) → List Range
    asked_from reader consumer source [] = []
    asked_from reader consumer source (first ∷ others) = asked_by reader consumer source first ++ asked_from (reader + 1) consumer source others

-- the output's picture, of this many pixels
abbrev pub wanted_of : Output → ℕ → Option ConsumerLoop → ℕ → List Range
wanted_of output at consumer count = if at == output.func then pixels_range (lasts_of consumer) count ∷ [] else []

-- of the Func at a place: as picture, by its own updates, by later Funcs
abbrev pub columns_asked : Pipeline → Schedule → List (Option SourceBox) → ℕ → Option ConsumerLoop → Func → List Range
columns_asked pipeline schedule boxes at consumer func =
    wanted_of pipeline.output at consumer pipeline.output.width
    ++ (asked_by_updates (λ read. read.x) pipeline schedule is_first_in_place at consumer func.updates
    ++ asked_from (λ read. read.x) pipeline schedule (at + 1) consumer (sources.Func at) (drop (at + 1) boxes))

abbrev pub rows_asked : Pipeline → Schedule → List (Option SourceBox) → ℕ → Option ConsumerLoop → Func → List Range
rows_asked pipeline schedule boxes at consumer func =
    wanted_of pipeline.output at consumer pipeline.output.height
    ++ (asked_by_updates (λ read. read.y) pipeline schedule is_second_in_place at consumer func.updates
    ++ asked_from (λ read. read.y) pipeline schedule (at + 1) consumer (sources.Func at) (drop (at + 1) boxes))

-- ---- the boxes

-- It is the least in both dimensions, over the loops of its consumer.
pub record IsLeastBox (consumer : Option ConsumerLoop) (columns rows : List Range) (source_box : SourceBox) : Type 0
  where
    pub lasts_are : source_box.lasts ≡ lasts_of consumer
    pub columns_are : IsLeast (lasts_of consumer) columns source_box.x
    pub rows_are : IsLeast (lasts_of consumer) rows source_box.y

-- That of a Func is the least that holds what is asked of it.
abbrev pub FuncBoxesAreLeast : Type 0
FuncBoxesAreLeast = (pipeline : Pipeline) (schedule : Schedule) (boxes : Boxes) → IsWellFormed pipeline → IsAccepted pipeline schedule
    → inferred pipeline schedule ≡ Ok boxes
    → (at : ℕ) (func : Func) (placement : FuncPlacement) (source_box : SourceBox)
    → slice_get pipeline.funcs at ≡ Some func → slice_get schedule.standings at ≡ Some placement → slice_get boxes.funcs at ≡ Some (Some source_box)
    → let consumer = consumer_in schedule boxes.funcs placement.place in
    IsLeastBox consumer (columns_asked pipeline schedule boxes.funcs at consumer func) (rows_asked pipeline schedule boxes.funcs at consumer func) source_box

-- So is that of an input.
abbrev pub InputBoxesAreLeast : Type 0
InputBoxesAreLeast = (pipeline : Pipeline) (schedule : Schedule) (boxes : Boxes) → IsWellFormed pipeline → inferred pipeline schedule ≡ Ok boxes
    → (func_index : ℕ) (source_box : SourceBox) → slice_get boxes.inputs func_index ≡ Some (Some source_box)
    → IsLeastBox None (asked_from (λ read. read.x) pipeline schedule 0 None (sources.Input func_index) boxes.funcs)
    (asked_from (λ read. read.y) pipeline schedule 0 None (sources.Input func_index) boxes.funcs) source_box

-- One that has no box isn't asked for.
abbrev pub InputsWithoutBoxes : Type 0
InputsWithoutBoxes = (pipeline : Pipeline) (schedule : Schedule) (boxes : Boxes) → inferred pipeline schedule ≡ Ok boxes
    → (func_index : ℕ) → slice_get boxes.inputs func_index ≡ Some None
    → asked_from (λ read. read.x) pipeline schedule 0 None (sources.Input func_index) boxes.funcs ≡ []
