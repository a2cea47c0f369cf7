-- A dimension of what is gathered is the hull of all that is asked in it.
use Rattle.std.proofs.Common.{◌≡◌, ℕ, ◌+◌, Bool, true, false, cond, List, [], ◌∷◌, ◌++◌, Option, Some, None, refl, sym, ap, ◌∙◌, subst}
use Rattle.std.specs.Prelude.{◌==◌, not, slice_get}
use Rattle.halide_pipeline.specs.declared.definitions.Func.{Func}
use Rattle.halide_pipeline.specs.declared.definitions.Output.{Output}
use Rattle.halide_pipeline.specs.declared.definitions.Update.{Update}
use Rattle.halide_pipeline.specs.declared.expressions.Source.{Source}
use Rattle.halide_pipeline.specs.declared.expressions.Source.TheVariants as sources
use Rattle.halide_pipeline.specs.WellFormed.{is_first_in_place, is_second_in_place}
use Rattle.halide_pipeline.specs.Pipelines.{Pipeline}
use Rattle.schedule.specs.declared.schedules.Schedule.{Schedule}
use Rattle.bounds_ranges.specs.declared.expressions.ReadRange.{ReadRange}
use Rattle.bounds_ranges.specs.declared.ranges.Range.{Range}
use Rattle.bounds_weights.specs.Weight.{flags_of}
use Rattle.bounds.specs.declared.boxes.ConsumerLoop.{ConsumerLoop}
use Rattle.bounds.specs.declared.boxes.SourceBox.{SourceBox}
use Rattle.bounds.specs.declared.boxes.Spread.{Spread}
use Rattle.bounds.specs.Inference.{update_asked, func_asked, unplaced, pixels_range, wanted, own_update, own_updates, read_in, read_of, read_by_box, read_from}
use Rattle.bounds.specs.Boxes.{no_loops, lasts_of, taken, with_range, joined, with_read, gathered, no_spread, same_source}
use Rattle.bounds.specs.Views.{view_of}
use Rattle.bounds_laws.specs.Least.{IsLeast, asked_of, asked_by_updates, asked_by_func, asked_by, asked_from, wanted_of}
use Rattle.bounds_laws.proofs.Found.{got}
use Rattle.bounds_laws.proofs.Spans.{IsNormal, AreKept, hulls, hulls_kept, hulls_least}

-- ---- ranges joined one after the other

abbrev pub folded : List ℕ → Option Range → List Range → Option Range
folded lasts own_range [] = own_range
folded lasts own_range (range ∷ others) = folded lasts (Some (with_range lasts own_range range)) others

pub folded_both : (lasts : List ℕ) (own_range : Option Range) (some more : List Range) → folded lasts own_range (some ++ more) ≡ folded lasts (folded lasts own_range some) more
folded_both lasts own_range [] more = refl
folded_both lasts own_range (range ∷ some) more = folded_both lasts (Some (with_range lasts own_range range)) some more

pub folded_is : (lasts : List ℕ) (own_range : Range) (all : List Range) → folded lasts (Some own_range) all ≡ Some (hulls lasts own_range all)
folded_is lasts own_range [] = refl
folded_is lasts own_range (range ∷ others) = folded_is lasts (with_range lasts (Some own_range) range) others

-- the fold of a list that is kept is its least range
pub folded_least : (lasts : List ℕ) (all : List Range) → AreKept lasts all → (own_range : Range) → folded lasts None all ≡ Some own_range
    → IsNormal own_range.base × IsLeast lasts all own_range
folded_least lasts [] kept own_range e = absurd cc
folded_least lasts (range ∷ others) kept own_range e =
    subst (λ (r : Range). IsNormal r.base × IsLeast lasts (range ∷ others) r) (got (hulls lasts range others) own_range (sym (folded_is lasts range others) ∙ e))
    ((hulls_kept lasts range others kept.0 kept.1).normal, hulls_least lasts range others kept.0 kept.1)

-- ---- a dimension

-- one of the two: how it is in a read and in what is gathered, whether it counts, where it is in place, and how many pixels it has
pub record Side : Type 0 where
  pub of : ReadRange → Range
  pub part : Spread → Option Range
  pub counts : Bool → Bool → Bool
  pub is_in_place : Update → Bool
  pub count : Output → ℕ
  pub none : part no_spread ≡ None
  pub drawn : (output : Output) (lasts : List ℕ) → part (record { x = Some (pixels_range lasts output.width); y = Some (pixels_range lasts output.height) })
      ≡ Some (pixels_range lasts (count output))
  pub read : (consumer : Option ConsumerLoop) (lasts : List ℕ) (first second : Bool) (spread : Spread) (one : ReadRange)
      → part (with_read consumer lasts first second spread one) ≡ joined (lasts_of consumer) (counts first second) (part spread) (taken consumer lasts (of one))
  pub all : counts true true ≡ true
  pub placed : (update : Update) → counts (not (is_first_in_place update)) (not (is_second_in_place update)) ≡ not (is_in_place update)
  pub normal : (one : ReadRange) → IsNormal one.x.base × IsNormal one.y.base → IsNormal (of one).base

abbrev pub first_side : Side
first_side = record {
  of = λ one. one.x;
  part = λ spread. spread.x;
  counts = λ first second. first;
  is_in_place = is_first_in_place;
  count = λ output. output.width;
  none = refl;
  drawn = λ output lasts. refl;
  read = λ consumer lasts first second spread one. refl;
  all = refl;
  placed = λ update. refl;
  normal = λ one are. are.0;
}

abbrev pub second_side : Side
second_side = record {
  of = λ one. one.y;
  part = λ spread. spread.y;
  counts = λ first second. second;
  is_in_place = is_second_in_place;
  count = λ output. output.height;
  none = refl;
  drawn = λ output lasts. refl;
  read = λ consumer lasts first second spread one. refl;
  all = refl;
  placed = λ update. refl;
  normal = λ one are. are.1;
}

module _ (side : Side) (consumer : Option ConsumerLoop) where
  abbrev joins : Option Range → List Range → Option Range
  joins own all = folded (lasts_of consumer) own all

  module _ (lasts : List ℕ) (source : Source) (first second : Bool) where
    abbrev with_one : Bool → Spread → ReadRange → Spread
    with_one test spread one = cond test (with_read consumer lasts first second spread one) spread

    one_counts : side.counts first second ≡ true → (test : Bool) (spread : Spread) (one : ReadRange) (rest : List Range)
        → joins (side.part (with_one test spread one)) rest ≡ joins (side.part spread) (cond test (taken consumer lasts (side.of one) ∷ rest) rest)
    one_counts e true spread one rest =
        ap (λ (own : Option Range). joins own rest) (side.read consumer lasts first second spread one
        ∙ ap (λ (t : Bool). joined (lasts_of consumer) t (side.part spread) (taken consumer lasts (side.of one))) e)
    one_counts e false spread one rest = refl

    gathered_counts : side.counts first second ≡ true → (spread : Spread) (asked : List ReadRange)
        → side.part (gathered consumer lasts source first second spread asked) ≡ joins (side.part spread) (asked_of side.of consumer lasts source asked)
    gathered_counts e spread [] = refl
    gathered_counts e spread (one ∷ others) =
        gathered_counts e (with_one (same_source one.source source) spread one) others
        ∙ one_counts e (same_source one.source source) spread one (asked_of side.of consumer lasts source others)

    one_stays : side.counts first second ≡ false → (test : Bool) (spread : Spread) (one : ReadRange) → side.part (with_one test spread one) ≡ side.part spread
    one_stays e true spread one = side.read consumer lasts first second spread one
        ∙ ap (λ (t : Bool). joined (lasts_of consumer) t (side.part spread) (taken consumer lasts (side.of one))) e
    one_stays e false spread one = refl

    gathered_stays : side.counts first second ≡ false → (spread : Spread) (asked : List ReadRange)
        → side.part (gathered consumer lasts source first second spread asked) ≡ side.part spread
    gathered_stays e spread [] = refl
    gathered_stays e spread (one ∷ others) = gathered_stays e (with_one (same_source one.source source) spread one) others
        ∙ one_stays e (same_source one.source source) spread one

  module _ (pipeline : Pipeline) (schedule : Schedule) where
    abbrev flags : List Bool
    flags = flags_of schedule.standings

    -- what is wanted
    wanted_by : (output : Output) (test : Bool)
        → side.part (cond test (record { x = Some (pixels_range (lasts_of consumer) output.width); y = Some (pixels_range (lasts_of consumer) output.height) })
        no_spread)
        ≡ joins None (cond test (pixels_range (lasts_of consumer) (side.count output) ∷ []) [])
    wanted_by output true = side.drawn output (lasts_of consumer)
    wanted_by output false = side.none

    wanted_is : (output : Output) (at : ℕ) → side.part (wanted output at consumer) ≡ joins None (wanted_of output at consumer (side.count output))
    wanted_is output at = wanted_by output (at == output.func)

    -- what a Func's updates read of it
    update_is : (at : ℕ) (spread : Spread) (update : Update) (test : Bool) → side.is_in_place update ≡ test
        → side.part (own_update pipeline flags at consumer spread update)
        ≡ joins (side.part spread) (cond test [] (asked_of side.of consumer no_loops (sources.Func at) (update_asked pipeline.inputs pipeline.funcs flags at
        unplaced update)))
    unfolding own_update
    update_is at spread update true e =
        gathered_stays no_loops (sources.Func at) (not (is_first_in_place update)) (not (is_second_in_place update)) (side.placed update ∙ ap not e) spread
        (update_asked pipeline.inputs pipeline.funcs flags at unplaced update)
    update_is at spread update false e =
        gathered_counts no_loops (sources.Func at) (not (is_first_in_place update)) (not (is_second_in_place update)) (side.placed update ∙ ap not e) spread
        (update_asked pipeline.inputs pipeline.funcs flags at unplaced update)

    updates_are : (at : ℕ) (spread : Spread) (updates : List Update)
        → side.part (own_updates pipeline flags at consumer spread updates) ≡ joins (side.part spread) (asked_by_updates side.of pipeline schedule
        side.is_in_place at consumer updates)
    updates_are at spread [] = refl
    updates_are at spread (update ∷ others) =
        let own = cond (side.is_in_place update) [] (asked_of side.of consumer no_loops (sources.Func at) (update_asked pipeline.inputs pipeline.funcs flags at
        unplaced update)) in
        updates_are at (own_update pipeline flags at consumer spread update) others
        ∙ ap (λ (o : Option Range). joins o (asked_by_updates side.of pipeline schedule side.is_in_place at consumer others)) (update_is at spread update
        (side.is_in_place update) refl)
        ∙ sym (folded_both (lasts_of consumer) (side.part spread) own (asked_by_updates side.of pipeline schedule side.is_in_place at consumer others))

    -- what Funcs read of the source
    module _ (source : Source) where
      of_is : (at : ℕ) (view : SourceBox) (spread : Spread) (func : Option Func)
          → side.part (read_of pipeline flags at view consumer source spread func) ≡ joins (side.part spread) (asked_by_func side.of pipeline schedule at view
          consumer source func)
      unfolding read_in
      of_is at view spread None = refl
      of_is at view spread (Some func) = gathered_counts view.lasts source true true side.all spread (func_asked pipeline.inputs pipeline.funcs flags at view
          func)

      by_is : (at : ℕ) (own : Option SourceBox) (spread : Spread)
          → side.part (read_by_box pipeline schedule flags at own consumer source spread) ≡ joins (side.part spread) (asked_by side.of pipeline schedule at
          consumer source own)
      by_is at None spread = refl
      by_is at (Some own) spread = of_is at (view_of (slice_get schedule.funcs at) (slice_get schedule.standings at) own consumer) spread
          (slice_get pipeline.funcs at)

      pub from_is : (at : ℕ) (boxes : List (Option SourceBox)) (spread : Spread)
          → side.part (read_from pipeline schedule flags at consumer source boxes spread) ≡ joins (side.part spread) (asked_from side.of pipeline schedule at
          consumer source boxes)
      from_is at [] spread = refl
      from_is at (own ∷ boxes) spread =
          from_is (at + 1) boxes (read_by_box pipeline schedule flags at own consumer source spread)
          ∙ ap (λ (o : Option Range). joins o (asked_from side.of pipeline schedule (at + 1) consumer source boxes)) (by_is at own spread)
          ∙ sym (folded_both (lasts_of consumer) (side.part spread) (asked_by side.of pipeline schedule at consumer source own) (asked_from side.of pipeline
          schedule (at + 1) consumer source boxes))

    -- all that is asked of the Func at a place
    abbrev pub all_asked : ℕ → Func → List (Option SourceBox) → List Range
    all_asked func_index func boxes =
        wanted_of pipeline.output func_index consumer (side.count pipeline.output)
        ++ (asked_by_updates side.of pipeline schedule side.is_in_place func_index consumer func.updates
        ++ asked_from side.of pipeline schedule (func_index + 1) consumer (sources.Func func_index) boxes)

    pub all_is : (func_index : ℕ) (func : Func) (boxes : List (Option SourceBox))
        → side.part (read_from pipeline schedule flags (func_index + 1) consumer (sources.Func func_index) boxes (own_updates pipeline flags func_index consumer
        (wanted pipeline.output func_index consumer) func.updates))
        ≡ joins None (all_asked func_index func boxes)
    all_is func_index func boxes =
        let begun = wanted pipeline.output func_index consumer in
        let picture = wanted_of pipeline.output func_index consumer (side.count pipeline.output) in
        let updates = asked_by_updates side.of pipeline schedule side.is_in_place func_index consumer func.updates in
        let later = asked_from side.of pipeline schedule (func_index + 1) consumer (sources.Func func_index) boxes in
        from_is (sources.Func func_index) (func_index + 1) boxes
        (own_updates pipeline flags func_index consumer begun func.updates)
        ∙ ap (λ (o : Option Range). joins o later) (updates_are func_index begun func.updates
        ∙ ap (λ (o : Option Range). joins o updates) (wanted_is pipeline.output func_index))
        ∙ sym (folded_both (lasts_of consumer) (joins None picture) updates later)
        ∙ sym (folded_both (lasts_of consumer) None picture (updates ++ later))
