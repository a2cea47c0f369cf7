-- What lies in a spread in some dimensions lies there in these whatever else is gathered.
use Rattle.std.proofs.Common.{◌≡◌, ℕ, ◌+◌, Bool, true, false, List, [], ◌∷◌, Option, Some, None, sym, ap, ◌∙◌, subst}
use Rattle.std.specs.Prelude.{not, if◌then◌else◌, slice_get}
use Rattle.std.specs.List.{AllByRecursion}
use Rattle.halide_pipeline.specs.declared.definitions.Func.{Func}
use Rattle.halide_pipeline.specs.declared.definitions.Update.{Update}
use Rattle.halide_pipeline.specs.declared.expressions.Source.{Source}
use Rattle.halide_pipeline.specs.declared.expressions.Source.TheVariants as sources
use Rattle.halide_pipeline.specs.WellFormed.{is_first_in_place, is_second_in_place}
use Rattle.halide_pipeline.specs.Pipelines.{Pipeline}
use Rattle.halide_pipeline.specs.Points.{Point}
use Rattle.schedule.specs.declared.schedules.Schedule.{Schedule}
use Rattle.bounds_ranges.specs.declared.expressions.ReadRange.{ReadRange}
use Rattle.bounds_ranges.specs.declared.ranges.Range.{Range}
use Rattle.bounds_ranges.specs.Laws.{Below, Lies, LiesAt, AllLie}
use Rattle.bounds.specs.declared.boxes.ConsumerLoop.{ConsumerLoop}
use Rattle.bounds.specs.declared.boxes.SourceBox.{SourceBox}
use Rattle.bounds.specs.declared.boxes.Spread.{Spread}
use Rattle.bounds.specs.Inference.{func_asked, update_asked, unplaced, own_update, own_updates, read_in, read_of, read_by_box, read_from}
use Rattle.bounds.specs.Boxes.{no_loops, lasts_of, taken, joined, with_read, gathered, IsFitOrNone, IsSpread, same_source}
use Rattle.bounds_laws.specs.Laws.{values_for}
use Rattle.bounds.specs.Views.{view_of}
use Rattle.bounds_laws.proofs.Covering.{IsIn, joined_keeps, joined_takes, taken_lies, next_fits}

pub record InPart (lasts values : List ℕ) (counts_first counts_second : Bool) (spread : Spread) (x y : ℕ) : Type 0 where
  pub first : counts_first ≡ true → IsIn lasts values spread.x x
  pub second : counts_second ≡ true → IsIn lasts values spread.y y

abbrev pub HoldsPart : List ℕ → List ℕ → Bool → Bool → Source → Spread → List Point → Type 0
HoldsPart lasts values first second source spread points =
    AllByRecursion (λ point. same_source point.source source ≡ true → InPart lasts values first second spread point.x point.y) points

pub part_more : (lasts values : List ℕ) (first second : Bool) (source : Source) (spread other : Spread)
    → ((x y : ℕ) → InPart lasts values first second spread x y → InPart lasts values first second other x y)
    → (points : List Point) → HoldsPart lasts values first second source spread points → HoldsPart lasts values first second source other points
part_more lasts values first second source spread other keeps [] all = tt
part_more lasts values first second source spread other keeps (point ∷ points) all =
    (λ e. keeps point.x point.y (all.0 e), part_more lasts values first second source spread other keeps points all.1)

joined_part : (lasts values : List ℕ) → Below values lasts → (counts : Bool) (own_range : Option Range) (range : Range) (x : ℕ) → counts ≡ true
    → IsFitOrNone lasts own_range → Lies lasts values range x
    → IsIn lasts values (joined lasts counts own_range range) x
joined_part lasts values below true own_range range x e fits lies = joined_takes lasts values below own_range range x
    fits lies
joined_part lasts values below false own_range range x e fits lies = absurd cc

module _ (consumer : Option ConsumerLoop) (values : List ℕ) (below : Below (values_for consumer values) (lasts_of consumer)) (counts_first counts_second : Bool)
  where
    abbrev Part : Spread → ℕ → ℕ → Type 0
    Part spread x y = InPart (lasts_of consumer) (values_for consumer values) counts_first counts_second spread x y

    next_keeps : (lasts : List ℕ) (first second test : Bool) (spread : Spread) (read : ReadRange) (x y : ℕ) → Part spread x y
        → Part (if test then with_read consumer lasts first second spread read else spread) x y
    next_keeps lasts first second true spread read x y lies = record {
      first = λ e. joined_keeps (lasts_of consumer) (values_for consumer values) below first spread.x (taken consumer lasts read.x) x (lies.first e);
      second = λ e. joined_keeps (lasts_of consumer) (values_for consumer values) below second spread.y (taken consumer lasts read.y) y (lies.second e);
    }
    next_keeps lasts first second false spread read x y lies = lies

    gathered_keep : (lasts : List ℕ) (source : Source) (first second : Bool) (spread : Spread) (asked : List ReadRange) (x y : ℕ) → Part spread x y
        → Part (gathered consumer lasts source first second spread asked) x y
    gathered_keep lasts source first second spread [] x y lies = lies
    gathered_keep lasts source first second spread (read ∷ others) x y lies =
        gathered_keep lasts source first second (if same_source read.source source then with_read consumer lasts first second spread read else spread) others x
        y
        (next_keeps lasts first second (same_source read.source source) spread read x y lies)

    pub updates_keep : (pipeline : Pipeline) (flags : List Bool) (at : ℕ) (spread : Spread) (updates : List Update) (x y : ℕ) → Part spread x y
        → Part (own_updates pipeline flags at consumer spread updates) x y
    unfolding own_update
    updates_keep pipeline flags at spread [] x y lies = lies
    updates_keep pipeline flags at spread (update ∷ others) x y lies =
        updates_keep pipeline flags at (own_update pipeline flags at consumer spread update) others x y
        (gathered_keep no_loops (sources.Func at) (not (is_first_in_place update)) (not (is_second_in_place update)) spread (update_asked pipeline.inputs
        pipeline.funcs flags at unplaced update) x y lies)

    of_keep : (pipeline : Pipeline) (flags : List Bool) (source : Source) (at : ℕ) (view : SourceBox) (spread : Spread) (func : Option Func) (x y : ℕ)
        → Part spread x y
        → Part (read_of pipeline flags at view consumer source spread func) x y
    unfolding read_in
    of_keep pipeline flags source at view spread None x y lies = lies
    of_keep pipeline flags source at view spread (Some func) x y lies = gathered_keep view.lasts source true true spread (func_asked pipeline.inputs
        pipeline.funcs flags at view func) x y lies

    box_keep : (pipeline : Pipeline) (schedule : Schedule) (flags : List Bool) (source : Source) (at : ℕ) (source_box : Option SourceBox) (spread : Spread) (x y : ℕ)
        → Part spread x y
        → Part (read_by_box pipeline schedule flags at source_box consumer source spread) x y
    box_keep pipeline schedule flags source at None spread x y lies = lies
    box_keep pipeline schedule flags source at (Some source_box) spread x y lies =
        of_keep pipeline flags source at (view_of (slice_get schedule.funcs at) (slice_get schedule.standings at) source_box consumer) spread (slice_get pipeline.funcs
        at) x y lies

    pub all_keep : (pipeline : Pipeline) (schedule : Schedule) (flags : List Bool) (source : Source) (at : ℕ) (boxes : List (Option SourceBox))
        (spread : Spread)
        (x y : ℕ) → Part spread x y
        → Part (read_from pipeline schedule flags at consumer source boxes spread) x y
    all_keep pipeline schedule flags source at [] spread x y lies = lies
    all_keep pipeline schedule flags source at (source_box ∷ boxes) spread x y lies =
        all_keep pipeline schedule flags source (at + 1) boxes (read_by_box pipeline schedule flags at source_box consumer source spread) x y
        (box_keep pipeline schedule
        flags source at source_box spread x y lies)

    -- ---- what is asked, in the dimensions that are gathered

    part_takes : (lasts : List ℕ) → Below values lasts → (spread : Spread) (read : ReadRange) (point : Point) → IsSpread (lasts_of consumer) spread
        → LiesAt lasts values read point → Part (with_read consumer lasts counts_first counts_second spread read) point.x point.y
    part_takes lasts source_box spread read point fits lies = record {
      first = λ e. joined_part (lasts_of consumer) (values_for consumer values) below counts_first spread.x (taken consumer lasts read.x) point.x e fits.x
          (taken_lies consumer lasts values source_box below read.x point.x lies.x);
      second = λ e. joined_part (lasts_of consumer) (values_for consumer values) below counts_second spread.y (taken consumer lasts read.y) point.y e fits.y
          (taken_lies consumer lasts values source_box below read.y point.y lies.y);
    }

    pub gathered_part : (lasts : List ℕ) → Below values lasts → (source : Source) (spread : Spread) (asked : List ReadRange) (points : List Point)
        → IsSpread (lasts_of consumer) spread → AllLie lasts values asked points
        → HoldsPart (lasts_of consumer) (values_for consumer values) counts_first counts_second source (gathered consumer lasts source counts_first
        counts_second
        spread asked) points
    gathered_part lasts source_box source spread [] [] fits all = tt
    gathered_part lasts source_box source spread [] (point ∷ points) fits all = absurd all
    gathered_part lasts source_box source spread (read ∷ others) [] fits all = absurd all
    gathered_part lasts source_box source spread (read ∷ others) (point ∷ points) fits all = (
      λ e.
          gathered_keep lasts source counts_first counts_second (if same_source read.source source then with_read consumer lasts counts_first counts_second
          spread
          read else spread) others point.x point.y
          (subst (λ (test : Bool). Part (if test then with_read consumer lasts counts_first counts_second spread read else spread) point.x point.y)
          (sym e ∙ ap (λ (s : Source). same_source s source) all.0.source)
          (part_takes lasts source_box spread read point fits all.0)),
      gathered_part lasts source_box source (if same_source read.source source then with_read consumer lasts counts_first counts_second spread read else spread) others
          points
          (next_fits consumer lasts counts_first counts_second (same_source read.source source) spread read fits) all.1,
    )
