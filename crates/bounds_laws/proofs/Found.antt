-- The boxes that are answered are those of what is gathered.
use Rattle.std.proofs.Common.{◌≡◌, ℕ, zero, suc, ◌+◌, Bool, true, false, cond, List, [], ◌∷◌, Option, Some, None, refl, sym, ap, ◌∙◌, subst, arith}
use Rattle.std.specs.Prelude.{◌&&◌, nat_le, not, slice_get, Result, Ok, Err}
use Rattle.halide_pipeline.specs.declared.definitions.Func.{Func}
use Rattle.halide_pipeline.specs.declared.definitions.Input.{Input}
use Rattle.halide_pipeline.specs.declared.expressions.Source.{Source}
use Rattle.halide_pipeline.specs.declared.expressions.Source.TheVariants as sources
use Rattle.halide_pipeline.specs.Pipelines.{Pipeline}
use Rattle.halide_pipeline.specs.Points.{Point}
use Rattle.schedule.specs.declared.schedules.Schedule.{Schedule}
use Rattle.bounds_ranges.specs.declared.ranges.Range.{Range}
use Rattle.bounds_ranges.specs.Laws.{Below}
use Rattle.bounds_weights.specs.Weight.{flags_of}
use Rattle.bounds.specs.declared.boxes.SourceBox.{SourceBox}
use Rattle.bounds.specs.declared.boxes.Spread.{Spread}
use Rattle.bounds.specs.declared.faults.BoundsFault.{BoundsFault}
use Rattle.bounds.specs.declared.faults.BoundsFault.TheVariants as faults
use Rattle.bounds.specs.declared.verdict.Boxes.{Boxes}
use Rattle.bounds.specs.Boxes.{no_loops, no_spread, box_of, spread_box, stays, in_front, IsSpread}
use Rattle.bounds.specs.Inference.{read_in, read_from, boxes_from, input_box, with_input, inputs_from}
use Rattle.bounds.specs.Verdict.{inputs_hold, shifts_hold, have_few_points, most_data, sized, boxes_of, judged, with_inputs, with_funcs, inferred}
use Rattle.bounds.specs.Layout.{laid_out}
use Rattle.bounds_laws.specs.Laws.{IsBoxed, AreBoxed, PureReadsOfInputsLie}
use Rattle.bounds_laws.proofs.Covering.{IsIn, HoldsAll}
use Rattle.bounds_laws.proofs.Readers.{points_of, in_takes, from_takes}

-- ---- an answer comes from its parts

kept_is : (test : Bool) (own_boxes boxes : Boxes) (wrong : BoundsFault) → cond test (Ok own_boxes) (Err wrong) ≡ Ok boxes → own_boxes ≡ boxes
kept_is true own_boxes boxes wrong e = cc
kept_is false own_boxes boxes wrong e = absurd cc

sized_is : (own_boxes boxes : Boxes) → sized own_boxes ≡ Ok boxes → own_boxes ≡ boxes
sized_is own_boxes boxes e = kept_is (have_few_points own_boxes.inputs && (have_few_points own_boxes.funcs && nat_le own_boxes.layout.size most_data)) own_boxes boxes faults.TooLarge e

passed : (test : Bool) (wrong : BoundsFault) (next : Result Boxes BoundsFault) (boxes : Boxes) → cond (not test) (Err wrong) next ≡ Ok boxes → next ≡ Ok boxes
passed true wrong next boxes e = e
passed false wrong next boxes e = absurd cc

module _ (pipeline : Pipeline) (schedule : Schedule) where
  judged_is : (funcs inputs : List (Option SourceBox)) (boxes : Boxes) → judged pipeline schedule funcs inputs ≡ Ok boxes
      → boxes_of pipeline schedule funcs inputs ≡ boxes
  judged_is funcs inputs boxes e =
      let held = passed (inputs_hold pipeline.inputs inputs) faults.InputExtents (cond (not (shifts_hold schedule.funcs funcs)) (Err faults.ShortShift)
      (sized (boxes_of pipeline schedule funcs inputs))) boxes e in
      sized_is (boxes_of pipeline schedule funcs inputs) boxes (passed (shifts_hold schedule.funcs funcs) faults.ShortShift
      (sized (boxes_of pipeline schedule funcs inputs)) boxes held)

  -- which boxes are found
  pub record AreFound (boxes : Boxes) : Type 0 where
    pub funcs : boxes_from pipeline schedule (flags_of schedule.standings) 0 pipeline.funcs ≡ Some boxes.funcs
    pub inputs : inputs_from pipeline schedule (flags_of schedule.standings) boxes.funcs 0 pipeline.inputs ≡ Some boxes.inputs
    pub layout : boxes.layout ≡ laid_out pipeline schedule boxes.funcs

  with_inputs_is : (funcs : List (Option SourceBox)) (found : Option (List (Option SourceBox))) (boxes : Boxes) → with_inputs pipeline schedule funcs found
      ≡ Ok boxes
      → (found ≡ Some boxes.inputs) × (funcs ≡ boxes.funcs) × (boxes.layout ≡ laid_out pipeline schedule funcs)
  with_inputs_is funcs None boxes e = absurd cc
  with_inputs_is funcs (Some inputs) boxes e =
      let is = judged_is funcs inputs boxes e in
      (ap (λ (b : Boxes). Some b.inputs) is, ap (λ (b : Boxes). b.funcs) is, sym (ap (λ (b : Boxes). b.layout) is))

  with_funcs_is : (found : Option (List (Option SourceBox))) (boxes : Boxes) → boxes_from pipeline schedule (flags_of schedule.standings) 0 pipeline.funcs
      ≡ found
      → with_funcs pipeline schedule found ≡ Ok boxes → AreFound boxes
  with_funcs_is None boxes is e = absurd cc
  with_funcs_is (Some funcs) boxes is e =
      let parts = with_inputs_is funcs (inputs_from pipeline schedule (flags_of schedule.standings) funcs 0 pipeline.inputs) boxes e in
      record {
        funcs = is ∙ ap (λ (l : List (Option SourceBox)). Some l) parts.1;
        inputs = ap (λ (l : List (Option SourceBox)). inputs_from pipeline schedule (flags_of schedule.standings) l 0 pipeline.inputs) (sym parts.1) ∙ parts.0;
        layout = parts.2 ∙ ap (laid_out pipeline schedule) parts.1;
      }

  pub are_found : (boxes : Boxes) → inferred pipeline schedule ≡ Ok boxes → AreFound boxes
  unfolding inferred
  are_found boxes e = with_funcs_is (boxes_from pipeline schedule (flags_of schedule.standings) 0 pipeline.funcs) boxes refl e

-- ---- one in front

in_front_by : (test : Bool) (source_box : Option SourceBox) (behind later_boxes : List (Option SourceBox)) → cond test (Some (source_box ∷ behind)) None ≡ Some later_boxes
    → source_box ∷ behind ≡ later_boxes
in_front_by true source_box behind later_boxes e = cc
in_front_by false source_box behind later_boxes e = absurd cc

pub in_front_is : (source_box : Option SourceBox) (behind later_boxes : List (Option SourceBox)) → in_front source_box behind ≡ Some later_boxes → source_box ∷ behind ≡ later_boxes
in_front_is source_box behind later_boxes e = in_front_by (stays source_box) source_box behind later_boxes e

pub got : {A : Type 0} (x y : A) → Some x ≡ Some y → x ≡ y
got x y e = cc

-- ---- inputs

module _ (pipeline : Pipeline) (schedule : Schedule) (flags : List Bool) (boxes : List (Option SourceBox)) where
  abbrev Is : ℕ → List (Option SourceBox) → Type 0
  Is func_index later_boxes = (before : ℕ) (source_box : Option SourceBox) → slice_get later_boxes before ≡ Some source_box → source_box ≡ input_box pipeline schedule flags boxes (func_index + before)

  front : (func_index : ℕ) (behind : List (Option SourceBox)) → Is (func_index + 1) behind → Is func_index (input_box pipeline schedule flags boxes func_index ∷ behind)
  front func_index behind next zero source_box e = sym (got (input_box pipeline schedule flags boxes func_index)
      source_box e)
      ∙ ap (λ (n : ℕ). input_box pipeline schedule flags boxes n) (omega arith)
  front func_index behind next (suc before) source_box e = next before source_box e ∙ ap (λ (n : ℕ). input_box pipeline schedule flags boxes n) (omega arith)

  step : (func_index : ℕ) (rest : Option (List (Option SourceBox))) (later_boxes : List (Option SourceBox)) → ((behind : List (Option SourceBox)) → rest ≡ Some behind
      → Is (func_index + 1) behind)
      → with_input pipeline schedule flags boxes func_index rest ≡ Some later_boxes → Is func_index later_boxes
  step func_index None later_boxes next e before source_box there = absurd cc
  step func_index (Some behind) later_boxes next e before source_box there =
      front func_index behind (next behind refl) before source_box
      (ap (λ (l : List (Option SourceBox)). slice_get l before) (in_front_is (input_box pipeline schedule flags boxes func_index) behind later_boxes e) ∙ there)

  nothing : (later_boxes : List (Option SourceBox)) → [] ≡ later_boxes → (before : ℕ) (source_box : Option SourceBox) → slice_get later_boxes before ≡ Some source_box → ⊥
  nothing [] e zero source_box there = cc
  nothing [] e (suc before) source_box there = cc
  nothing (other ∷ later_boxes) e before source_box there = cc

  pub inputs_at : (func_index : ℕ) (inputs : List Input) (later_boxes : List (Option SourceBox)) → inputs_from pipeline schedule flags boxes func_index inputs ≡ Some later_boxes
      → Is func_index later_boxes
  inputs_at func_index [] later_boxes e before source_box there = absurd
      (nothing later_boxes (got [] later_boxes e) before source_box there)
  inputs_at func_index (input ∷ others) later_boxes e before source_box there =
      step func_index (inputs_from pipeline schedule flags boxes (func_index + 1) others) later_boxes (λ behind is. inputs_at (func_index + 1) others behind is) e before source_box there

-- ---- a point in what is gathered lies in the box

pub boxed_by : (lasts values : List ℕ) (a b : Option Range) (x y : ℕ) → IsIn lasts values a x → IsIn lasts values b y
    → IsBoxed values (Some (box_of lasts a b)) x y
boxed_by lasts values None b x y first second = absurd first
boxed_by lasts values (Some a) None x y first second = absurd second
boxed_by lasts values (Some a) (Some b) x y first second = record { first = first; second = second }

pub boxed : (values : List ℕ) (source : Source) (spread : Spread) (points : List Point) → HoldsAll no_loops values source spread points
    → (source_box : Option SourceBox) → source_box ≡ spread_box None spread
    → AreBoxed values source (Some source_box) points
boxed values source spread [] all source_box is = tt
boxed values source spread (point ∷ points) all source_box is = (
  λ e. subst (λ (o : Option SourceBox). IsBoxed values (Some o) point.x point.y) (sym is) (boxed_by no_loops values spread.x spread.y point.x point.y
      (all.0 e).first (all.0 e).second),
  boxed values source spread points all.1 source_box is,
)

pub none_boxed : (values : List ℕ) (source : Source) (points : List Point) → AreBoxed values source None points
none_boxed values source [] = tt
none_boxed values source (point ∷ points) = (λ e. tt, none_boxed values source points)

pub no_below : Below no_loops no_loops
no_below = (omega arith, (omega arith, (omega arith, (omega arith, (omega arith, tt)))))

-- whatever what is read of an input holds lies in its box
pub inputs_lie : (pipeline : Pipeline) (schedule : Schedule) (boxes : Boxes) → inferred pipeline schedule ≡ Ok boxes
    → (reader : ℕ) (func : Func) (source_box : SourceBox) → slice_get pipeline.funcs reader ≡ Some func → slice_get boxes.funcs reader ≡ Some (Some source_box)
    → (values : List ℕ) (func_index : ℕ) (points : List Point)
    → ((spread : Spread) → IsSpread no_loops spread → HoldsAll no_loops no_loops (sources.Input func_index) (read_in pipeline (flags_of schedule.standings) reader
    source_box None (sources.Input func_index) spread func) points)
    → AreBoxed no_loops (sources.Input func_index) (slice_get boxes.inputs func_index) points
inputs_lie pipeline schedule boxes is reader func source_box func_is own_is values func_index points takes = by_found (slice_get boxes.inputs func_index) refl
  where
    found : AreFound pipeline schedule boxes
    found = are_found pipeline schedule boxes is

    flags : List Bool
    flags = flags_of schedule.standings

    by_found : (answer : Option (Option SourceBox)) → slice_get boxes.inputs func_index ≡ answer → AreBoxed no_loops (sources.Input func_index) answer points
    by_found None e = none_boxed no_loops (sources.Input func_index) points
    by_found (Some other) e =
        boxed no_loops (sources.Input func_index) (read_from pipeline schedule flags 0 None (sources.Input func_index) boxes.funcs no_spread) points
        (from_takes pipeline schedule flags None (sources.Input func_index) values no_below reader func func_is source_box source_box refl points takes 0 reader (omega arith)
        boxes.funcs own_is no_spread (record { x = tt; y = tt }))
        other (inputs_at pipeline schedule flags boxes.funcs 0 pipeline.inputs boxes.inputs found.inputs func_index
        other e
        ∙ ap (λ (n : ℕ). input_box pipeline schedule flags boxes.funcs n) (omega arith))

pub pure_reads_of_inputs_lie : PureReadsOfInputsLie
pure_reads_of_inputs_lie pipeline schedule boxes rules is reader func own func_is own_is reads words values below x y lies place =
    inputs_lie pipeline schedule boxes is reader func own func_is own_is values place (points_of pipeline (flags_of schedule.standings) reads reader func x y)
    (in_takes pipeline schedule (flags_of schedule.standings) None (sources.Input place) values no_below rules reads words reader func func_is own below x y
    lies)
