-- Boxes are the least that hold what is asked.
use Rattle.std.proofs.Common.{◌≡◌, ℕ, zero, suc, ◌+◌, ◌-◌, Bool, true, false, cond, List, [], ◌∷◌, ◌++◌, length, Option, Some, None, refl, sym, ap, ◌∙◌, subst}
use Rattle.std.proofs.Common.{arith, length-append}
use Rattle.std.specs.Prelude.{◌==◌, nat_le, slice_get, drop, Ok}
use Rattle.std.specs.List.{AllByRecursion}
use Rattle.halide_pipeline.specs.declared.definitions.Func.{Func}
use Rattle.halide_pipeline.specs.declared.definitions.Update.{Update}
use Rattle.halide_pipeline.specs.declared.expressions.Source.{Source}
use Rattle.halide_pipeline.specs.declared.expressions.Source.TheVariants as sources
use Rattle.halide_pipeline.specs.Pipelines.{Pipeline}
use Rattle.halide_pipeline.specs.WellFormed.{IsWellFormed}
use Rattle.halide_pipeline.proofs.Seeing.{all_both}
use Rattle.schedule.specs.declared.schedules.Schedule.{Schedule}
use Rattle.schedule.specs.declared.placements.ComputeLevel.{ComputeLevel}
use Rattle.schedule.specs.declared.placements.ComputeLevel.TheVariants as places
use Rattle.schedule.specs.declared.placements.FuncPlacement.{FuncPlacement}
use Rattle.bounds_ranges.specs.declared.expressions.ReadRange.{ReadRange}
use Rattle.bounds_ranges.specs.declared.ranges.Range.{Range}
use Rattle.bounds_ranges.specs.Ranges.{no_base, every, ends_of, widened}
use Rattle.bounds_ranges.specs.Numbers.{origin}
use Rattle.bounds_weights.specs.Weight.{flags_of}
use Rattle.bounds.specs.declared.boxes.ConsumerLoop.{ConsumerLoop}
use Rattle.bounds.specs.declared.boxes.SourceBox.{SourceBox}
use Rattle.bounds.specs.declared.boxes.Spread.{Spread}
use Rattle.bounds.specs.declared.verdict.Boxes.{Boxes}
use Rattle.bounds.specs.Inference.{update_asked, func_asked, unplaced, pixels_range, wanted, own_updates, read_from, computed_box, placed_box, func_box}
use Rattle.bounds.specs.Inference.{consumer_of, box_at, with_func, boxes_from, input_box}
use Rattle.bounds.specs.Boxes.{no_loops, lasts_of, taken_over, taken, no_spread, box_of, same_source}
use Rattle.bounds.specs.Verdict.{inferred}
use Rattle.bounds.specs.Views.{view_of}
use Rattle.bounds_laws.specs.Laws.{consumer_in, IsComputed}
use Rattle.bounds_laws.specs.Least.{IsLeast, asked_of, asked_by_updates, asked_by_func, asked_by, asked_from, wanted_of, columns_asked, rows_asked}
use Rattle.bounds_laws.specs.Least.{FuncBoxesAreLeast, InputBoxesAreLeast, InputsWithoutBoxes}
use Rattle.bounds_laws.proofs.BoxFacts.{has_box}
use Rattle.bounds_laws.proofs.Covering.{taken_fits}
use Rattle.bounds_laws.proofs.Found.{are_found, in_front_is, inputs_at, got}
use Rattle.bounds_laws.proofs.FoundFuncs.{pixels_fit}
use Rattle.bounds_laws.proofs.HeldBases.{AreHeld, fit_held, func_held, unplaced_held}
use Rattle.bounds_laws.proofs.NormalBases.{normal_closed, IsNormalBox, view_normal}
use Rattle.bounds_laws.proofs.OwnReads.{gathered_at}
use Rattle.bounds_laws.proofs.Sides.{folded_is, folded, folded_least, Side, first_side, second_side, from_is, all_asked, all_is}
use Rattle.bounds_laws.proofs.Spans.{hulls, IsNormal, none_normal, IsKept, AreKept}

abbrev AreNormal : List (Option SourceBox) → Type 0
AreNormal boxes = AllByRecursion IsNormalBox boxes

-- ---- what is asked is kept

over_normal : (consumer : Option ConsumerLoop) (lasts : List ℕ) (range : Range) → IsNormal range.base → IsNormal (taken_over consumer lasts range).base
over_normal None lasts range normal = fit_held IsNormal normal_closed no_loops no_base (widened lasts range) none_normal
over_normal (Some consumer) lasts range normal = fit_held IsNormal normal_closed consumer.lasts range.base (ends_of range) normal

taken_by : (consumer : Option ConsumerLoop) (lasts : List ℕ) (range : Range) → IsNormal range.base → (test : Bool)
    → IsNormal (cond test (taken_over consumer lasts range) every).base
taken_by consumer lasts range normal true = over_normal consumer lasts range normal
taken_by consumer lasts range normal false = none_normal

module _ (side : Side) (consumer : Option ConsumerLoop) where
  one_kept : (lasts : List ℕ) (one : ReadRange) (rest : List Range) → IsNormal one.x.base × IsNormal one.y.base → AreKept (lasts_of consumer) rest → (test : Bool)
      → AreKept (lasts_of consumer) (cond test (taken consumer lasts (side.of one) ∷ rest) rest)
  one_kept lasts one rest normal kept true = (
    record {
      fits = taken_fits consumer lasts (side.of one);
      normal = taken_by consumer lasts (side.of one) (side.normal one normal)
          (nat_le (side.of one).low (side.of one).high);
    },
    kept,
  )
  one_kept lasts one rest normal kept false = kept

  of_kept : (lasts : List ℕ) (source : Source) (asked : List ReadRange) → AreHeld IsNormal asked
      → AreKept (lasts_of consumer) (asked_of side.of consumer lasts source asked)
  of_kept lasts source [] normal = tt
  of_kept lasts source (one ∷ others) normal =
      one_kept lasts one (asked_of side.of consumer lasts source others) normal.0 (of_kept lasts source others normal.1) (same_source one.source source)

  module _ (pipeline : Pipeline) (schedule : Schedule) (rules : IsWellFormed pipeline) where
    abbrev flags : List Bool
    flags = flags_of schedule.standings

    -- by Funcs
    func_kept : (reader : ℕ) (source : Source) (view : SourceBox) → IsNormalBox (Some view) → (func : Option Func) → slice_get pipeline.funcs reader ≡ func
        → AreKept (lasts_of consumer) (asked_by_func side.of pipeline schedule reader view consumer source func)
    func_kept reader source view normal None is = tt
    func_kept reader source view normal (Some func) is =
        of_kept view.lasts source (func_asked pipeline.inputs pipeline.funcs flags reader view func) (func_held IsNormal normal_closed pipeline flags rules
        reader func is view normal.0 normal.1)

    by_kept : (reader : ℕ) (source : Source) (source_box : Option SourceBox) → IsNormalBox source_box
        → AreKept (lasts_of consumer) (asked_by side.of pipeline schedule reader consumer source source_box)
    by_kept reader source None normal = tt
    by_kept reader source (Some source_box) normal =
        func_kept reader source (view_of (slice_get schedule.funcs reader) (slice_get schedule.standings reader) source_box consumer)
        (view_normal (slice_get schedule.funcs reader) (slice_get schedule.standings reader) source_box consumer normal) (slice_get pipeline.funcs reader) refl

    from_kept : (reader : ℕ) (source : Source) (boxes : List (Option SourceBox)) → AreNormal boxes
        → AreKept (lasts_of consumer) (asked_from side.of pipeline schedule reader consumer source boxes)
    from_kept reader source [] normal = tt
    from_kept reader source (source_box ∷ boxes) normal =
        all_both (IsKept (lasts_of consumer)) (asked_by side.of pipeline schedule reader consumer source source_box) (asked_from side.of pipeline schedule (reader + 1)
        consumer source boxes)
        (by_kept reader source source_box normal.0) (from_kept (reader + 1) source boxes normal.1)

    -- as picture
    picture_kept : (count : ℕ) (test : Bool) → AreKept (lasts_of consumer) (cond test (pixels_range (lasts_of consumer) count ∷ []) [])
    picture_kept count true =
        let normal = fit_held IsNormal normal_closed (lasts_of consumer) no_base (record { low = origin; high = origin + (count - 1) }) none_normal in
        (record { fits = pixels_fit (lasts_of consumer) count; normal = normal }, tt)
    picture_kept count false = tt

    -- by its own updates
    module _ (func_index : ℕ) (func : Func) (func_is : slice_get pipeline.funcs func_index ≡ Some func) where
      update_kept : (at : ℕ) (update : Update) → slice_get func.updates at ≡ Some update → (test : Bool)
          → AreKept (lasts_of consumer) (cond test [] (asked_of side.of consumer no_loops (sources.Func func_index) (update_asked pipeline.inputs pipeline.funcs
          flags func_index unplaced update)))
      update_kept at update update_is true = tt
      update_kept at update update_is false =
          of_kept no_loops (sources.Func func_index) (update_asked pipeline.inputs pipeline.funcs flags func_index unplaced update)
          (unplaced_held IsNormal normal_closed pipeline flags rules func_index func func_is at update update_is)

      updates_kept : (updates : List Update) (before : ℕ) → ((k : ℕ) → slice_get func.updates (before + k) ≡ slice_get updates k)
          → AreKept (lasts_of consumer) (asked_by_updates side.of pipeline schedule side.is_in_place func_index consumer updates)
      updates_kept [] before from = tt
      updates_kept (update ∷ others) before from =
          let here : before + 0 ≡ before = omega arith in
          let next : (k : ℕ) → before + 1 + k ≡ before + suc k = λ k. omega arith in
          all_both (IsKept (lasts_of consumer)) _ (asked_by_updates side.of pipeline schedule side.is_in_place func_index consumer others)
          (update_kept before update (ap (λ (n : ℕ). slice_get func.updates n) (sym here) ∙ from 0) (side.is_in_place update))
          (updates_kept others (before + 1) (λ k. ap (λ (n : ℕ). slice_get func.updates n) (next k) ∙ from (suc k)))

      all_kept : (boxes : List (Option SourceBox)) → AreNormal boxes → AreKept (lasts_of consumer) (all_asked side consumer pipeline schedule func_index func boxes)
      all_kept boxes normal =
          let here : (k : ℕ) → 0 + k ≡ k = λ k. omega arith in
          let updates = asked_by_updates side.of pipeline schedule side.is_in_place func_index consumer func.updates in
          let later = asked_from side.of pipeline schedule (func_index + 1) consumer (sources.Func func_index) boxes in
          all_both (IsKept (lasts_of consumer)) (wanted_of pipeline.output func_index consumer (side.count pipeline.output)) (updates ++ later)
          (picture_kept (side.count pipeline.output) (func_index == pipeline.output.func))
          (all_both (IsKept (lasts_of consumer)) updates later
          (updates_kept func.updates 0 (λ k. ap (λ (n : ℕ). slice_get func.updates n) (here k))) (from_kept (func_index + 1) (sources.Func func_index) boxes normal))

-- ---- boxes

record IsOf (lasts : List ℕ) (a b : Option Range) (source_box : SourceBox) : Type 0 where
  pub x : a ≡ Some source_box.x
  pub y : b ≡ Some source_box.y
  pub lasts_are : source_box.lasts ≡ lasts

of_parts : (lasts : List ℕ) (a b : Option Range) (source_box : SourceBox) → Some source_box ≡ box_of lasts a b
    → IsOf lasts a b source_box
of_parts lasts None b source_box e = absurd cc
of_parts lasts (Some x) None source_box e = absurd cc
of_parts lasts (Some x) (Some y) source_box e =
    subst (λ (o : SourceBox). IsOf lasts (Some x) (Some y) o)
    (got (record { x = x; y = y; lasts = lasts }) source_box (sym e))
    (record { x = refl; y = refl; lasts_are = refl })

-- a box whose sides are least
record AreLeast (lasts : List ℕ) (columns rows : List Range) (source_box : SourceBox) : Type 0 where
  pub normal : IsNormalBox (Some source_box)
  pub lasts_are : source_box.lasts ≡ lasts
  pub least : IsLeast lasts columns source_box.x × IsLeast lasts rows source_box.y

least_by : (lasts : List ℕ) (spread : Spread) (columns rows : List Range) → AreKept lasts columns → AreKept lasts rows → spread.x ≡ folded lasts None columns
    → spread.y ≡ folded lasts None rows
    → (source_box : SourceBox) → Some source_box ≡ box_of lasts spread.x spread.y
    → AreLeast lasts columns rows source_box
least_by lasts spread columns rows kept_x kept_y x_is y_is source_box e =
    let parts = of_parts lasts spread.x spread.y source_box e in
    let x = folded_least lasts columns kept_x source_box.x (sym x_is ∙ parts.x) in
    let y = folded_least lasts rows kept_y source_box.y (sym y_is ∙ parts.y) in
    record { normal = (x.0, y.0); lasts_are = parts.lasts_are; least = (x.1, y.1) }

module _ (pipeline : Pipeline) (schedule : Schedule) (rules : IsWellFormed pipeline) where
  abbrev flags_here : List Bool
  flags_here = flags_of schedule.standings

  func_least : (func_index : ℕ) (func : Func) → slice_get pipeline.funcs func_index ≡ Some func → (behind : List (Option SourceBox)) → AreNormal behind
      → (consumer : Option ConsumerLoop)
      → (source_box : SourceBox) → Some source_box ≡ computed_box pipeline schedule flags_here func_index func behind
      consumer
      → AreLeast (lasts_of consumer)
      (all_asked first_side consumer pipeline schedule func_index func behind) (all_asked second_side consumer pipeline schedule func_index func behind) source_box
  func_least func_index func func_is behind normal consumer source_box e =
      least_by (lasts_of consumer)
      (read_from pipeline schedule flags_here (func_index + 1) consumer (sources.Func func_index) behind (own_updates pipeline flags_here func_index consumer
      (wanted pipeline.output func_index consumer) func.updates)) _ _
      (all_kept first_side consumer pipeline schedule rules func_index func func_is behind normal) (all_kept second_side consumer pipeline schedule rules func_index func
      func_is behind normal)
      (all_is first_side consumer pipeline schedule func_index func behind) (all_is second_side consumer pipeline schedule func_index func behind) source_box e

  -- ---- all boxes are normal

  module _ (func_index : ℕ) (func : Func) (func_is : slice_get pipeline.funcs func_index ≡ Some func) (behind : List (Option SourceBox)) (normal : AreNormal behind) where
    computed_normal : (consumer : Option ConsumerLoop) (source_box : Option SourceBox) → source_box ≡ computed_box pipeline schedule flags_here func_index func behind consumer
        → IsNormalBox source_box
    computed_normal consumer None e = tt
    computed_normal consumer (Some source_box) e = (func_least func_index func func_is behind normal consumer source_box
        e).normal

    placed_normal : (where_ : ComputeLevel) → IsNormalBox (placed_box pipeline schedule flags_here func_index func behind where_)
    placed_normal places.Root = computed_normal None _ refl
    placed_normal (places.At at) = computed_normal (consumer_of at (slice_get schedule.funcs at.func) (box_at at.func (func_index + 1) behind)) _ refl
    placed_normal places.Inlined = tt
    placed_normal places.Nowhere = tt

    reached_normal : (test : Bool) (source_box : Option SourceBox) → IsNormalBox source_box
        → IsNormalBox (cond test source_box None)
    reached_normal true source_box is = is
    reached_normal false source_box is = tt

    func_normal : (placement : Option FuncPlacement) → IsNormalBox (func_box pipeline schedule flags_here func_index func behind placement)
    func_normal None = tt
    func_normal (Some placement) = reached_normal placement.is_reached _ (placed_normal placement.place)

  step : (func_index : ℕ) (func : Func) → slice_get pipeline.funcs func_index ≡ Some func → (rest : Option (List (Option SourceBox))) (later_boxes : List (Option SourceBox))
      → ((behind : List (Option SourceBox)) → rest ≡ Some behind → AreNormal behind) → with_func pipeline schedule flags_here func_index func rest ≡ Some later_boxes
      → AreNormal later_boxes
  step func_index func func_is None later_boxes next e = absurd cc
  step func_index func func_is (Some behind) later_boxes next e =
      let normal = next behind refl in
      subst AreNormal (in_front_is (func_box pipeline schedule flags_here func_index func behind (slice_get schedule.standings func_index)) behind later_boxes e)
      (func_normal func_index func func_is behind normal (slice_get schedule.standings func_index), normal)

  from_normal : (func_index : ℕ) (funcs : List Func) → ((k : ℕ) → slice_get pipeline.funcs (func_index + k) ≡ slice_get funcs k) → (later_boxes : List (Option SourceBox))
      → boxes_from pipeline schedule flags_here func_index funcs ≡ Some later_boxes → AreNormal later_boxes
  from_normal func_index [] from later_boxes e = subst AreNormal (got [] later_boxes e) tt
  from_normal func_index (func ∷ others) from later_boxes e =
      let here : func_index + 0 ≡ func_index = omega arith in
      let next : (k : ℕ) → func_index + 1 + k ≡ func_index + suc k = λ k. omega arith in
      step func_index func (ap (λ (n : ℕ). slice_get pipeline.funcs n) (sym here) ∙ from 0) (boxes_from pipeline schedule flags_here (func_index + 1) others) later_boxes
      (λ behind is. from_normal (func_index + 1) others (λ k. ap (λ (n : ℕ). slice_get pipeline.funcs n) (next k) ∙ from (suc k)) behind is) e

  boxes_normal : (boxes : Boxes) → inferred pipeline schedule ≡ Ok boxes → AreNormal boxes.funcs
  boxes_normal boxes is =
      let here : (k : ℕ) → 0 + k ≡ k = λ k. omega arith in
      from_normal 0 pipeline.funcs (λ k. ap (λ (n : ℕ). slice_get pipeline.funcs n) (here k)) boxes.funcs (are_found pipeline schedule boxes is).funcs

-- ---- the boxes after a Func

same_lists : {A : Type 0} (xs ys : List A) → ((n : ℕ) → slice_get xs n ≡ slice_get ys n) → xs ≡ ys
same_lists [] [] same = refl
same_lists [] (y ∷ ys) same = let first = same 0 in absurd cc
same_lists (x ∷ xs) [] same = let first = same 0 in absurd cc
same_lists (x ∷ xs) (y ∷ ys) same =
    let first = got x y (same 0) in
    let rest = same_lists xs ys (λ n. same (suc n)) in
    cc

dropped_at : {A : Type 0} (k : ℕ) (xs : List A) (n : ℕ) → slice_get (drop k xs) n ≡ slice_get xs (k + n)
dropped_at zero xs n = ap (λ (m : ℕ). slice_get xs m) (omega arith)
dropped_at (suc k) [] zero = refl
dropped_at (suc k) [] (suc n) = refl
dropped_at (suc k) (x ∷ xs) n = let next : suc (k + n) ≡ suc k + n = omega arith in dropped_at k xs n ∙ ap (λ (m : ℕ). slice_get (x ∷ xs) m) next

dropped_normal : (k : ℕ) (boxes : List (Option SourceBox)) → AreNormal boxes → AreNormal (drop k boxes)
dropped_normal zero boxes normal = normal
dropped_normal (suc k) [] normal = tt
dropped_normal (suc k) (own ∷ boxes) normal = dropped_normal k boxes normal.1

same_computed : (pipeline : Pipeline) (schedule : Schedule) (flags : List Bool) (func_index : ℕ) (consumer : Option ConsumerLoop) (func other : Func)
    (some more : List (Option SourceBox))
    → func ≡ other → some ≡ more → computed_box pipeline schedule flags func_index func some consumer ≡ computed_box pipeline schedule flags func_index other more
    consumer
same_computed pipeline schedule flags func_index consumer func other some more same_func same_boxes =
    ap (λ (f : Func). computed_box pipeline schedule flags func_index f some consumer) same_func
    ∙ ap (λ (l : List (Option SourceBox)). computed_box pipeline schedule flags func_index other l consumer) same_boxes

-- ---- the laws

pub func_boxes_are_least : FuncBoxesAreLeast
func_boxes_are_least pipeline schedule boxes rules accepted is place func standing own func_is standing_is own_is =
    let flags = flags_of schedule.standings in
    let consumer = consumer_in schedule boxes.funcs standing.place in
    let behind = drop (place + 1) boxes.funcs in
    let box = has_box pipeline schedule boxes accepted is place own own_is in
    let same = got box.standing standing (sym box.there.standing ∙ standing_is) in
    let found = gathered_at pipeline schedule boxes is place standing standing_is (ap (λ (s : FuncPlacement). s.is_reached) (sym same) ∙ box.there.reached)
    (subst (λ (s : FuncPlacement). IsComputed place s.place) same box.computed) consumer refl (Some own) own_is in
    let computed : Some own ≡ computed_box pipeline schedule flags place func behind consumer =
    ◌∙◌ {b = computed_box pipeline schedule flags place found.func found.behind consumer} found.box_is
    (same_computed pipeline schedule flags place consumer found.func func found.behind behind (got found.func func (sym found.func_is ∙ func_is))
    (same_lists found.behind behind (λ n. found.later n ∙ sym (dropped_at (place + 1) boxes.funcs n)))) in
    let least = func_least pipeline schedule rules place func func_is behind (dropped_normal (place + 1) boxes.funcs (boxes_normal pipeline schedule rules boxes
    is)) consumer own computed in
    record { lasts_are = least.lasts_are; columns_are = least.least.0; rows_are = least.least.1 }

pub input_boxes_are_least : InputBoxesAreLeast
input_boxes_are_least pipeline schedule boxes rules is place own own_is =
    let flags = flags_of schedule.standings in
    let here : 0 + place ≡ place = omega arith in
    let normal = boxes_normal pipeline schedule rules boxes is in
    let read = inputs_at pipeline schedule flags boxes.funcs 0 pipeline.inputs boxes.inputs (are_found pipeline schedule boxes is).inputs place (Some own)
    own_is in
    let least = least_by no_loops (read_from pipeline schedule flags 0 None (sources.Input place) boxes.funcs no_spread) _ _
    (from_kept first_side None pipeline schedule rules 0 (sources.Input place) boxes.funcs normal) (from_kept second_side None pipeline schedule rules 0
    (sources.Input place) boxes.funcs normal)
    (from_is first_side None pipeline schedule (sources.Input place) 0 boxes.funcs no_spread) (from_is second_side None pipeline schedule (sources.Input place)
    0 boxes.funcs no_spread)
    own (read ∙ ap (λ (n : ℕ). input_box pipeline schedule flags boxes.funcs n) here) in
    record { lasts_are = least.lasts_are; columns_are = least.least.0; rows_are = least.least.1 }

-- ---- inputs without a box

none_of : (lasts : List ℕ) (columns rows : List Range) → length columns ≡ length rows → None ≡ box_of lasts (folded lasts None columns) (folded lasts None rows)
    → columns ≡ []
none_of lasts [] rows many e = refl
none_of lasts (column ∷ columns) [] many e = absurd (omega (arith, many))
none_of lasts (column ∷ columns) (row ∷ rows) many e =
    let some : box_of lasts (folded lasts None (column ∷ columns)) (folded lasts None (row ∷ rows))
    ≡ Some (record { x = hulls lasts column columns; y = hulls lasts row rows; lasts = lasts }) =
    rw (folded_is lasts column columns, folded_is lasts row rows) refl in
    absurd cc

module _ (pipeline : Pipeline) (schedule : Schedule) (consumer : Option ConsumerLoop) (source : Source) where
  as_many_of : (lasts : List ℕ) (asked : List ReadRange) → length (asked_of (λ read. read.x) consumer lasts source asked)
      ≡ length (asked_of (λ read. read.y) consumer lasts source asked)
  as_many_of lasts [] = refl
  as_many_of lasts (read ∷ others) = by_test (same_source read.source source) (as_many_of lasts others)
    where
      by_test : (test : Bool) → length (asked_of (λ read. read.x) consumer lasts source others) ≡ length (asked_of (λ read. read.y) consumer lasts source
          others)
          → length (cond test (taken consumer lasts read.x ∷ asked_of (λ read. read.x) consumer lasts source others) (asked_of (λ read. read.x) consumer lasts
          source others))
          ≡ length (cond test (taken consumer lasts read.y ∷ asked_of (λ read. read.y) consumer lasts source others) (asked_of (λ read. read.y) consumer lasts
          source others))
      by_test true same = ap suc same
      by_test false same = same

  as_many_func : (reader : ℕ) (view : SourceBox) (func : Option Func)
      → length (asked_by_func (λ read. read.x) pipeline schedule reader view consumer source func) ≡ length (asked_by_func (λ read. read.y) pipeline schedule
      reader view consumer source func)
  as_many_func reader view None = refl
  as_many_func reader view (Some func) = as_many_of view.lasts (func_asked pipeline.inputs pipeline.funcs (flags_of schedule.standings) reader view func)

  as_many_by : (reader : ℕ) (source_box : Option SourceBox) → length (asked_by (λ read. read.x) pipeline schedule reader consumer source source_box)
      ≡ length (asked_by (λ read. read.y) pipeline schedule reader consumer source source_box)
  as_many_by reader None = refl
  as_many_by reader (Some source_box) = as_many_func reader (view_of (slice_get schedule.funcs reader) (slice_get schedule.standings reader) source_box consumer)
      (slice_get pipeline.funcs reader)

  as_many : (reader : ℕ) (boxes : List (Option SourceBox)) → length (asked_from (λ read. read.x) pipeline schedule reader consumer source boxes)
      ≡ length (asked_from (λ read. read.y) pipeline schedule reader consumer source boxes)
  as_many reader [] = refl
  as_many reader (source_box ∷ boxes) =
      length-append (asked_by (λ read. read.x) pipeline schedule reader consumer source source_box) (asked_from (λ read. read.x) pipeline schedule (reader + 1)
      consumer source boxes)
      ∙ ap (λ (n : ℕ). n + length (asked_from (λ read. read.x) pipeline schedule (reader + 1) consumer source boxes)) (as_many_by reader source_box)
      ∙ ap (λ (n : ℕ). length (asked_by (λ read. read.y) pipeline schedule reader consumer source source_box) + n) (as_many (reader + 1) boxes)
      ∙ sym (length-append (asked_by (λ read. read.y) pipeline schedule reader consumer source source_box) (asked_from (λ read. read.y) pipeline schedule (reader + 1)
      consumer source boxes))

pub inputs_without_boxes : InputsWithoutBoxes
inputs_without_boxes pipeline schedule boxes is place none =
    let flags = flags_of schedule.standings in
    let here : 0 + place ≡ place = omega arith in
    let read = inputs_at pipeline schedule flags boxes.funcs 0 pipeline.inputs boxes.inputs (are_found pipeline schedule boxes is).inputs place None none in
    none_of no_loops (asked_from (λ read. read.x) pipeline schedule 0 None (sources.Input place) boxes.funcs) (asked_from (λ read. read.y) pipeline schedule 0
    None (sources.Input place) boxes.funcs)
    (as_many pipeline schedule None (sources.Input place) 0 boxes.funcs)
    (read ∙ ap (λ (n : ℕ). input_box pipeline schedule flags boxes.funcs n) here
    ∙ ap (λ (x : Option Range). box_of no_loops x (read_from pipeline schedule flags 0 None (sources.Input place) boxes.funcs no_spread).y)
    (from_is first_side None pipeline schedule (sources.Input place) 0 boxes.funcs no_spread)
    ∙ ap (λ (y : Option Range). box_of no_loops (folded no_loops None (asked_from (λ read. read.x) pipeline schedule 0 None (sources.Input place) boxes.funcs))
    y)
    (from_is second_side None pipeline schedule (sources.Input place) 0 boxes.funcs no_spread))
