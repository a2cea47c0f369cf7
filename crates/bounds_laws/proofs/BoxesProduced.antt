-- Boxes have two ends, are near and are over the loops of their consumers; what stages visit lies in them.
use Rattle.std.proofs.Common.{◌≡◌, ℕ, zero, suc, ◌+◌, ◌-◌, ◌^◌, ◌<◌, Bool, true, false, cond, List, [], ◌∷◌, Option, Some, None, refl, sym, ap, ◌∙◌, subst}
use Rattle.std.proofs.Common.{arith}
use Rattle.std.specs.Prelude.{nat_le, nat_lt, slice_get}
use Rattle.std.proofs.lemmas.Bool.{and_parts, leb-true, ltb-true}
use Rattle.halide_pipeline.specs.declared.definitions.Func.{Func}
use Rattle.halide_pipeline.specs.declared.expressions.Source.TheVariants as sources
use Rattle.halide_pipeline.specs.declared.expressions.Variable.TheVariants as variables
use Rattle.halide_pipeline.specs.Pipelines.{Pipeline}
use Rattle.schedule.specs.declared.schedules.Schedule.{Schedule}
use Rattle.schedule_loops.specs.Stages.{extent_in, first_loops, has_variable}
use Rattle.bounds_ranges.specs.declared.ranges.Range.{Range}
use Rattle.bounds_ranges.specs.Laws.{Below, Lies}
use Rattle.bounds_ranges.specs.Ranges.{IsFit, widened}
use Rattle.bounds_ranges.specs.Numbers.{origin}
use Rattle.bounds_ranges.proofs.Lying.{widened_stands}
use Rattle.bounds_weights.specs.Weight.{flags_of}
use Rattle.bounds.specs.declared.boxes.ConsumerLoop.{ConsumerLoop}
use Rattle.bounds.specs.declared.boxes.SourceBox.{SourceBox}
use Rattle.bounds.specs.declared.boxes.Spread.{Spread}
use Rattle.bounds.specs.Boxes.{lasts_of, box_of, spread_box, are_near, stays, IsFitOrNone, IsSpread}
use Rattle.bounds.specs.Extents.{extent}
use Rattle.bounds_laws.specs.ConsumerLaws.{BoxesAreProduced, PointsAreNear, IsFrom, VisitsLie}
use Rattle.bounds.specs.Inference.{wanted, own_updates, read_from, with_func, boxes_from, func_box}
use Rattle.bounds_laws.specs.Laws.{IsNear, consumer_in}
use Rattle.bounds_laws.proofs.Found.{are_found, in_front_is, got}
use Rattle.bounds_laws.proofs.FoundFuncs.{updates_fit, wanted_fits}
use Rattle.bounds_laws.proofs.OwnReads.{gathered_at}
use Rattle.bounds_laws.proofs.Readers.{from_fits}

-- ---- two ends, over the consumer's loops

record IsOver (lasts : List ℕ) (source_box : SourceBox) : Type 0 where
  pub lasts_are : source_box.lasts ≡ lasts
  pub x : IsFit source_box.lasts source_box.x
  pub y : IsFit source_box.lasts source_box.y

over_by : (lasts : List ℕ) (a b : Option Range) (source_box : SourceBox) → Some source_box ≡ box_of lasts a b → IsFitOrNone lasts a → IsFitOrNone lasts b → IsOver lasts source_box
over_by lasts None b source_box e fa fb = absurd cc
over_by lasts (Some a) None source_box e fa fb = absurd cc
over_by lasts (Some a) (Some b) source_box e fa fb =
    let same : source_box ≡ record { x = a; y = b; lasts = lasts } = cc in
    subst (λ (o : SourceBox). IsOver lasts o) (sym same) (record { lasts_are = refl; x = fa; y = fb })

over : (consumer : Option ConsumerLoop) (spread : Spread) (source_box : SourceBox) → IsSpread (lasts_of consumer) spread → Some source_box ≡ spread_box consumer spread
    → IsOver (lasts_of consumer) source_box
over consumer spread source_box fits e = over_by (lasts_of consumer) spread.x spread.y source_box e fits.x fits.y

-- ---- near

module _ (pipeline : Pipeline) (schedule : Schedule) (flags : List Bool) where
  abbrev Near : List (Option SourceBox) → Type 0
  Near later_boxes = (before : ℕ) (source_box : Option SourceBox) → slice_get later_boxes before ≡ Some source_box
      → stays source_box ≡ true

  front_by : (test : Bool) (source_box : Option SourceBox) (behind later_boxes : List (Option SourceBox))
      → stays source_box ≡ test
      → cond test (Some (source_box ∷ behind)) None ≡ Some later_boxes → Near behind → Near (source_box ∷ behind)
  front_by false source_box behind later_boxes t e near before other there = absurd cc
  front_by true source_box behind later_boxes t e near zero other there = ap stays (got other source_box (sym there)) ∙
      t
  front_by true source_box behind later_boxes t e near (suc before) other there = near before other there

  nothing : (later_boxes : List (Option SourceBox)) → [] ≡ later_boxes → Near later_boxes
  nothing [] e zero source_box there = absurd cc
  nothing [] e (suc before) source_box there = absurd cc
  nothing (other ∷ later_boxes) e before source_box there = absurd cc

  step : (at : ℕ) (func : Func) (rest : Option (List (Option SourceBox))) (later_boxes : List (Option SourceBox)) → ((behind : List (Option SourceBox))
      → rest ≡ Some behind → Near behind)
      → with_func pipeline schedule flags at func rest ≡ Some later_boxes → Near later_boxes
  step at func None later_boxes next e = absurd cc
  step at func (Some behind) later_boxes next e =
      let source_box = func_box pipeline schedule flags at func behind (slice_get schedule.standings at) in
      subst Near (in_front_is source_box behind later_boxes e)
      (front_by (stays source_box) source_box behind later_boxes refl e (next behind refl))

  near_from : (at : ℕ) (funcs : List Func) (later_boxes : List (Option SourceBox)) → boxes_from pipeline schedule flags at funcs ≡ Some later_boxes → Near later_boxes
  near_from at [] later_boxes e = nothing later_boxes (got [] later_boxes e)
  near_from at (func ∷ others) later_boxes e = step at func (boxes_from pipeline schedule flags (at + 1) others) later_boxes (λ behind is. near_from (at + 1) others behind
      is) e

pub boxes_are_produced : BoxesAreProduced
boxes_are_produced pipeline schedule boxes is place sought there reached computed own own_is =
    let consumer = consumer_in schedule boxes.funcs sought.place in
    let flags = flags_of schedule.standings in
    let found = gathered_at pipeline schedule boxes is place sought there reached computed consumer refl (Some own) own_is in
    let begun = own_updates pipeline flags place consumer (wanted pipeline.output place consumer) found.func.updates in
    let fits : IsSpread (lasts_of consumer) (read_from pipeline schedule flags (place + 1) consumer (sources.Func place) found.behind begun) =
    from_fits pipeline schedule flags consumer (sources.Func place) (place + 1) found.behind begun (updates_fit pipeline flags place consumer
    (wanted pipeline.output place consumer) found.func.updates (wanted_fits pipeline.output place consumer)) in
    let over_it = over consumer (read_from pipeline schedule flags (place + 1) consumer (sources.Func place) found.behind begun) own fits found.box_is in
    record {
      box = record {
        x = over_it.x;
        y = over_it.y;
        near = near_from pipeline schedule flags 0 pipeline.funcs boxes.funcs (are_found pipeline schedule boxes
            is).funcs place (Some own) own_is;
      };
      lasts = over_it.lasts_are;
    }

-- ---- points

one_near : (lasts values : List ℕ) → Below values lasts → (range : Range) → are_near (widened lasts range) ≡ true → (x : ℕ) → Lies lasts values range x
    → IsNear x
one_near lasts values below range near x lies =
    let ends = widened lasts range in
    let parts = and_parts (nat_le (origin - 2 ^ 24) ends.low) (nat_le ends.high (origin + 2 ^ 24)) near in
    let stands = widened_stands lasts values below range x lies in
    record {
      low = omega (arith, leb-true (origin - 2 ^ 24) ends.low parts.0, stands.low);
      high = omega (arith, leb-true ends.high (origin + 2 ^ 24) parts.1, stands.high);
    }

pub points_are_near : PointsAreNear
points_are_near own is values below x y lies =
    let parts = and_parts (are_near (widened own.lasts own.x)) (are_near (widened own.lasts own.y)) is.near in
    (one_near own.lasts values below own.x parts.0 x lies.first, one_near own.lasts values below own.y parts.1 y lies.second)

-- ---- visits

one_visited : (lasts values : List ℕ) (range : Range) → IsFit lasts range → (has : Bool) (far : ℕ) → far < cond has (extent range) 1 → (x : ℕ)
    → IsFrom values range far x → Lies lasts values range x
one_visited lasts values range fits true far l x at = record {
  word = at.word;
  low = omega (arith, at.is);
  high = omega (arith, at.is, l);
  fits_low = fits.low;
  fits_high = fits.high;
}
one_visited lasts values range fits false far l x at = record {
  word = at.word;
  low = omega (arith, at.is);
  high = omega (arith, at.is, l, fits.ordered);
  fits_low = fits.low;
  fits_high = fits.high;
}

pub visits_lie : VisitsLie
visits_lie func update own is values below extents first_is second_is visit visited x y at_x at_y =
    let start = first_loops func update in
    let parts = and_parts (nat_lt visit.x (extent_in func update extents variables.FirstArgument))
    (nat_lt visit.y (extent_in func update extents variables.SecondArgument)) visited.slice in
    let first : visit.x < cond (has_variable variables.FirstArgument start) (extent own.x) 1 =
    subst (λ (n : ℕ). visit.x < cond (has_variable variables.FirstArgument start) n 1) first_is
    (ltb-true visit.x (extent_in func update extents variables.FirstArgument) parts.0) in
    let second : visit.y < cond (has_variable variables.SecondArgument start) (extent own.y) 1 =
    subst (λ (n : ℕ). visit.y < cond (has_variable variables.SecondArgument start) n 1) second_is
    (ltb-true visit.y (extent_in func update extents variables.SecondArgument) parts.1) in
    record {
      first = one_visited own.lasts values own.x is.x (has_variable variables.FirstArgument start) visit.x first x at_x;
      second = one_visited own.lasts values own.y is.y (has_variable variables.SecondArgument start) visit.y second y at_y;
    }
