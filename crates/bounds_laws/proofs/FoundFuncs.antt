-- The boxes of Funcs are those of what is gathered of the Funcs after them.
use Rattle.std.proofs.Common.{◌≡◌, ℕ, zero, suc, ◌+◌, ◌-◌, ◌<◌, Bool, true, false, cond, List, [], ◌∷◌, Option, Some, None, refl, sym, ap, ◌∙◌, subst, arith}
use Rattle.std.specs.Prelude.{◌==◌, not, slice_get, Ok}
use Rattle.std.proofs.lemmas.Bool.{ne_eqb, eq-eqb}
use Rattle.halide_pipeline.specs.declared.definitions.Func.{Func}
use Rattle.halide_pipeline.specs.declared.definitions.Output.{Output}
use Rattle.halide_pipeline.specs.declared.definitions.Update.{Update}
use Rattle.halide_pipeline.specs.declared.expressions.Source.{Source}
use Rattle.halide_pipeline.specs.declared.expressions.Source.TheVariants as sources
use Rattle.halide_pipeline.specs.WellFormed.{is_first_in_place, is_second_in_place}
use Rattle.halide_pipeline.specs.Pipelines.{Pipeline}
use Rattle.halide_pipeline.specs.Points.{Point}
use Rattle.schedule.specs.declared.schedules.Schedule.{Schedule}
use Rattle.schedule.specs.declared.placements.ComputeLevel.{ComputeLevel}
use Rattle.schedule.specs.declared.placements.ComputeLevel.TheVariants as places
use Rattle.schedule.specs.declared.placements.FuncPlacement.{FuncPlacement}
use Rattle.bounds_ranges.specs.Ranges.{no_base, IsFit}
use Rattle.bounds_ranges.specs.Laws.{Below}
use Rattle.bounds_ranges.specs.Numbers.{origin}
use Rattle.bounds_weights.specs.Weight.{flags_of}
use Rattle.bounds.specs.declared.boxes.ConsumerLoop.{ConsumerLoop}
use Rattle.bounds.specs.declared.boxes.SourceBox.{SourceBox}
use Rattle.bounds.specs.declared.boxes.Spread.{Spread}
use Rattle.bounds.specs.declared.verdict.Boxes.{Boxes}
use Rattle.bounds.specs.Inference.{update_asked, unplaced, pixels_range, wanted, box_at, consumer_of, own_update, own_updates, read_in, read_from, computed_box}
use Rattle.bounds.specs.Inference.{placed_box, func_box, with_func, boxes_from}
use Rattle.bounds.specs.Boxes.{no_loops, lasts_of, no_spread, spread_box, IsSpread}
use Rattle.bounds.specs.Extents.{box_in}
use Rattle.bounds_laws.specs.Laws.{IsBoxed, AreBoxed, values_for, consumer_in, IsComputed, PureReadsOfFuncsLie}
use Rattle.bounds.specs.Verdict.{inferred}
use Rattle.bounds.specs.Views.{view_of}
use Rattle.bounds_laws.proofs.Covering.{HoldsAll, gathered_fits}
use Rattle.bounds_laws.proofs.Found.{AreFound, are_found, in_front_is, boxed_by, none_boxed, got}
use Rattle.bounds_laws.proofs.Hulls.{fit_fits}
use Rattle.bounds_laws.proofs.Readers.{points_of, in_takes, from_takes}

-- ---- what is wanted, and what is read of a Func itself, keeps to the words

pub pixels_fit : (lasts : List ℕ) (count : ℕ) → IsFit lasts (pixels_range lasts count)
pixels_fit lasts count = fit_fits lasts no_base (record { low = origin; high = origin + (count - 1) }) (omega arith)

wanted_by : (output : Output) (consumer : Option ConsumerLoop) (test : Bool)
    → IsSpread (lasts_of consumer) (cond test (record {
      x = Some (pixels_range (lasts_of consumer) output.width);
      y =
          Some (pixels_range (lasts_of consumer) output.height);
    }) no_spread)
wanted_by output consumer true = record { x = pixels_fit (lasts_of consumer) output.width; y = pixels_fit (lasts_of consumer) output.height }
wanted_by output consumer false = record { x = tt; y = tt }

pub wanted_fits : (output : Output) (at : ℕ) (consumer : Option ConsumerLoop) → IsSpread (lasts_of consumer) (wanted output at consumer)
wanted_fits output at consumer = wanted_by output consumer (at == output.func)

pub updates_fit : (pipeline : Pipeline) (flags : List Bool) (at : ℕ) (consumer : Option ConsumerLoop) (spread : Spread) (updates : List Update)
    → IsSpread (lasts_of consumer) spread
    → IsSpread (lasts_of consumer) (own_updates pipeline flags at consumer spread updates)
unfolding own_update
updates_fit pipeline flags at consumer spread [] fits = fits
updates_fit pipeline flags at consumer spread (update ∷ others) fits =
    updates_fit pipeline flags at consumer (own_update pipeline flags at consumer spread update) others
    (gathered_fits consumer no_loops (sources.Func at) (not (is_first_in_place update)) (not (is_second_in_place update)) spread (update_asked pipeline.inputs
    pipeline.funcs flags at unplaced update) fits)

-- ---- the box at a place is that of the Funcs after it

module _ (pipeline : Pipeline) (schedule : Schedule) (flags : List Bool) where
  pub record IsAt (at before : ℕ) (funcs : List Func) (later_boxes : List (Option SourceBox)) (source_box : Option SourceBox) : Type 0 where
    pub func : Func
    pub func_is : slice_get funcs before ≡ Some func
    pub behind : List (Option SourceBox)
    pub own_is : source_box ≡ func_box pipeline schedule flags (at + before) func behind (slice_get schedule.standings (at + before))
    pub later : (n : ℕ) → slice_get behind n ≡ slice_get later_boxes (before + 1 + n)

  abbrev AreAt : ℕ → List Func → List (Option SourceBox) → Type 0
  AreAt at funcs later_boxes = (before : ℕ) (source_box : Option SourceBox) → slice_get later_boxes before ≡ Some source_box → IsAt at before funcs later_boxes source_box

  front : (at : ℕ) (func : Func) (others : List Func) (behind : List (Option SourceBox)) → AreAt (at + 1) others behind
      → AreAt at (func ∷ others) (func_box pipeline schedule flags at func behind (slice_get schedule.standings at) ∷ behind)
  front at func others behind next zero source_box e = record {
    func = func;
    func_is = refl;
    behind = behind;
    own_is = sym (got (func_box pipeline schedule flags at func behind (slice_get schedule.standings at)) source_box e)
        ∙ ap (λ (n : ℕ). func_box pipeline schedule flags n func behind (slice_get schedule.standings n)) (omega arith);
    later = λ n. ap (λ (m : ℕ). slice_get (func_box pipeline schedule flags at func behind (slice_get schedule.standings at) ∷ behind) m) (suc_is n);
  }
    where
      suc_is : (n : ℕ) → suc n ≡ zero + 1 + n
      suc_is n = omega arith
  front at func others behind next (suc before) source_box e =
      let there = next before source_box e in
      record {
        func = there.func;
        func_is = there.func_is;
        behind = there.behind;
        own_is = there.own_is ∙ ap (λ (n : ℕ). func_box pipeline schedule flags n there.func there.behind (slice_get schedule.standings n)) (omega arith);
        later = λ n. there.later n ∙ ap (λ (m : ℕ). slice_get (func_box pipeline schedule flags at func behind (slice_get schedule.standings at) ∷ behind) m)
            (suc_is n);
      }
    where
      suc_is : (n : ℕ) → suc (before + 1 + n) ≡ suc before + 1 + n
      suc_is n = omega arith

  same : (at : ℕ) (funcs : List Func) (all later_boxes : List (Option SourceBox)) → all ≡ later_boxes → AreAt at funcs all → AreAt at funcs later_boxes
  same at funcs all later_boxes e are = subst (λ (l : List (Option SourceBox)). AreAt at funcs l) e are

  step : (at : ℕ) (func : Func) (others : List Func) (rest : Option (List (Option SourceBox))) (later_boxes : List (Option SourceBox))
      → ((behind : List (Option SourceBox)) → rest ≡ Some behind → AreAt (at + 1) others behind)
      → with_func pipeline schedule flags at func rest ≡ Some later_boxes → AreAt at (func ∷ others) later_boxes
  step at func others None later_boxes next e before source_box there = absurd cc
  step at func others (Some behind) later_boxes next e before source_box there =
      same at (func ∷ others) (func_box pipeline schedule flags at func behind (slice_get schedule.standings at) ∷ behind) later_boxes
      (in_front_is (func_box pipeline schedule flags at func behind (slice_get schedule.standings at)) behind
      later_boxes e)
      (front at func others behind (next behind refl)) before source_box there

  nothing : (later_boxes : List (Option SourceBox)) → [] ≡ later_boxes → (before : ℕ) (source_box : Option SourceBox) → slice_get later_boxes before ≡ Some source_box → ⊥
  nothing [] e zero source_box there = cc
  nothing [] e (suc before) source_box there = cc
  nothing (other ∷ later_boxes) e before source_box there = cc

  pub boxes_at : (at : ℕ) (funcs : List Func) (later_boxes : List (Option SourceBox)) → boxes_from pipeline schedule flags at funcs ≡ Some later_boxes
      → AreAt at funcs later_boxes
  boxes_at at [] later_boxes e before source_box there = absurd
      (nothing later_boxes (got [] later_boxes e) before source_box there)
  boxes_at at (func ∷ others) later_boxes e before source_box there =
      step at func others (boxes_from pipeline schedule flags (at + 1) others) later_boxes (λ behind is. boxes_at (at + 1) others behind is) e before source_box there

-- the box of a later Func, among those from a place on
box_at_is : (before at func_index : ℕ) (boxes : List (Option SourceBox)) → func_index ≡ at + before → box_at func_index at boxes ≡ box_in (slice_get boxes before)
box_at_is zero at func_index [] e = refl
box_at_is (suc before) at func_index [] e = refl
box_at_is zero at func_index (first ∷ others) e = ap (λ (test : Bool). cond test first (box_at func_index (at + 1) others)) (eq-eqb at func_index (omega (arith, e)))
box_at_is (suc before) at func_index (first ∷ others) e =
    ap (λ (test : Bool). cond test first (box_at func_index (at + 1) others)) (ne_eqb at func_index (λ (same : at ≡ func_index). omega (arith, e, same)))
    ∙ box_at_is before (at + 1) func_index others (omega (arith, e))

-- ---- a point in what is gathered lies in the box

boxed_for : (consumer : Option ConsumerLoop) (values : List ℕ) (source : Source) (spread : Spread) (points : List Point)
    → HoldsAll (lasts_of consumer) values source spread points
    → (source_box : Option SourceBox) → source_box ≡ spread_box consumer spread
    → AreBoxed values source (Some source_box) points
boxed_for consumer values source spread [] all source_box is = tt
boxed_for consumer values source spread (point ∷ points) all source_box is = (
  λ e. subst (λ (o : Option SourceBox). IsBoxed values (Some o) point.x point.y) (sym is) (boxed_by (lasts_of consumer) values spread.x spread.y point.x point.y
      (all.0 e).first (all.0 e).second),
  boxed_for consumer values source spread points all.1 source_box is,
)

-- ---- the Func that is sought

module _ (pipeline : Pipeline) (schedule : Schedule) (flags : List Bool) (boxes : List (Option SourceBox)) where
  placed_is : (func_index : ℕ) (func : Func) (later_boxes : List (Option SourceBox)) → ((n : ℕ) → slice_get later_boxes n ≡ slice_get boxes (func_index + 1 + n)) → (where_ : ComputeLevel)
      → IsComputed func_index where_
      → placed_box pipeline schedule flags func_index func later_boxes where_ ≡ computed_box pipeline schedule flags func_index func later_boxes (consumer_in schedule boxes where_)
  placed_is func_index func later_boxes later places.Root computed = refl
  placed_is func_index func later_boxes later places.Inlined computed = absurd computed
  placed_is func_index func later_boxes later places.Nowhere computed = absurd computed
  placed_is func_index func later_boxes later (places.At at) computed =
      ap (λ (b : Option SourceBox). computed_box pipeline schedule flags func_index func later_boxes (consumer_of at (slice_get schedule.funcs at.func) b))
      (box_at_is (at.func - (func_index + 1)) (func_index + 1) at.func later_boxes (omega (arith, computed))
      ∙ ap box_in (later (at.func - (func_index + 1)) ∙ ap (λ (n : ℕ). slice_get boxes n) (omega (arith, computed))))

  pub sought_is : (func_index : ℕ) (func : Func) (later_boxes : List (Option SourceBox)) → ((n : ℕ) → slice_get later_boxes n ≡ slice_get boxes (func_index + 1 + n))
      → (sought : FuncPlacement) → slice_get schedule.standings func_index ≡ Some sought → sought.is_reached ≡ true → IsComputed func_index sought.place
      → func_box pipeline schedule flags func_index func later_boxes (slice_get schedule.standings func_index) ≡ computed_box pipeline schedule flags func_index func later_boxes
      (consumer_in schedule boxes sought.place)
  sought_is func_index func later_boxes later sought there reached computed =
      ap (λ (s : Option FuncPlacement). func_box pipeline schedule flags func_index func later_boxes s) there
      ∙ ap (λ (test : Bool). cond test (placed_box pipeline schedule flags func_index func later_boxes sought.place)
      None) reached
      ∙ placed_is func_index func later_boxes later sought.place computed

-- whatever what is read of a Func holds lies in its box
pub funcs_lie : (pipeline : Pipeline) (schedule : Schedule) (boxes : Boxes) → inferred pipeline schedule ≡ Ok boxes
    → (reader : ℕ) (func : Func) (source_box : SourceBox) → slice_get pipeline.funcs reader ≡ Some func → slice_get boxes.funcs reader ≡ Some (Some source_box)
    → (func_index : ℕ) (sought : FuncPlacement) → func_index < reader → slice_get schedule.standings func_index ≡ Some sought → sought.is_reached ≡ true
    → IsComputed func_index sought.place
    → (consumer : Option ConsumerLoop) → consumer_in schedule boxes.funcs sought.place ≡ consumer
    → (view : SourceBox) → view_of (slice_get schedule.funcs reader) (slice_get schedule.standings reader) source_box consumer ≡ view
    → (values : List ℕ) → Below (values_for consumer values) (lasts_of consumer) → (points : List Point)
    → ((spread : Spread) → IsSpread (lasts_of consumer) spread → HoldsAll (lasts_of consumer) (values_for consumer values) (sources.Func func_index)
    (read_in pipeline (flags_of schedule.standings) reader view consumer (sources.Func func_index) spread func) points)
    → AreBoxed (values_for consumer values) (sources.Func func_index) (slice_get boxes.funcs func_index) points
funcs_lie pipeline schedule boxes is reader func source_box func_is own_is func_index sought before there reached computed consumer consumer_is view view_is values inside
    points takes =
    by_found (slice_get boxes.funcs func_index) refl
  where
    flags : List Bool
    flags = flags_of schedule.standings

    found : AreFound pipeline schedule boxes
    found = are_found pipeline schedule boxes is

    by_at : (other : Option SourceBox) → IsAt pipeline schedule flags 0 func_index pipeline.funcs boxes.funcs other
        → AreBoxed (values_for consumer values) (sources.Func func_index) (Some other) points
    by_at other at =
        let begun = own_updates pipeline flags func_index consumer (wanted pipeline.output func_index consumer)
        at.func.updates in
        boxed_for consumer (values_for consumer values) (sources.Func func_index) (read_from pipeline schedule flags (func_index + 1) consumer (sources.Func func_index)
        at.behind begun) points
        (from_takes pipeline schedule flags consumer (sources.Func func_index) values inside reader func func_is source_box view view_is points takes (func_index + 1)
        (reader - (func_index + 1)) (omega (arith, before)) at.behind
        (at.later (reader - (func_index + 1)) ∙ ap (λ (n : ℕ). slice_get boxes.funcs n) (omega (arith, before)) ∙
        own_is)
        begun (updates_fit pipeline flags func_index consumer (wanted pipeline.output func_index consumer) at.func.updates (wanted_fits pipeline.output func_index consumer)))
        other
        (at.own_is
        ∙ ap (λ (n : ℕ). func_box pipeline schedule flags n at.func at.behind (slice_get schedule.standings n)) (omega arith)
        ∙ sought_is pipeline schedule flags boxes.funcs func_index at.func at.behind at.later sought there reached
        computed
        ∙ ap (λ (h : Option ConsumerLoop). computed_box pipeline schedule flags func_index at.func at.behind h)
        consumer_is)

    by_found : (answer : Option (Option SourceBox)) → slice_get boxes.funcs func_index ≡ answer
        → AreBoxed (values_for consumer values) (sources.Func func_index) answer points
    by_found None e = none_boxed (values_for consumer values) (sources.Func func_index) points
    by_found (Some other) e = by_at other (boxes_at pipeline schedule flags 0 pipeline.funcs boxes.funcs found.funcs func_index other e)

pub pure_reads_of_funcs_lie : PureReadsOfFuncsLie
pure_reads_of_funcs_lie pipeline schedule boxes rules is reader func own func_is own_is place sought before there reached computed consumer consumer_is view
    view_is reads words values below inside x y lies =
    funcs_lie pipeline schedule boxes is reader func own func_is own_is place sought before there reached computed consumer consumer_is view view_is values
    inside (points_of pipeline (flags_of schedule.standings) reads reader func x y)
    (in_takes pipeline schedule (flags_of schedule.standings) consumer (sources.Func place) values inside rules reads words reader func func_is view below x y
    lies)
