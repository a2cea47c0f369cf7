-- The numbers that say where buffers lie are words.
use Rattle.std.proofs.Common.{◌≡◌, ℕ, zero, suc, ◌+◌, ◌*◌, ◌^◌, ◌<◌, ◌≤◌, Bool, true, false, cond, List, [], ◌∷◌, map, Option, Some, None, refl, ap, subst}
use Rattle.std.proofs.Common.{arith}
use Rattle.std.specs.Prelude.{◌-◌, ◌&&◌, nat_le, not, slice_get, slice_index, slice_index_or, Result, Ok, Err}
use Rattle.std.proofs.lemmas.Bool.{and_parts, leb-true}
use Rattle.halide_pipeline.specs.declared.definitions.Input.{Input}
use Rattle.halide_pipeline.specs.declared.expressions.Source.TheVariants as sources
use Rattle.halide_pipeline.specs.Pipelines.{Pipeline}
use Rattle.halide_pipeline.specs.WellFormed.{IsWellFormed, is_width, is_height, are_dimensions}
use Rattle.schedule.specs.declared.schedules.Schedule.{Schedule}
use Rattle.schedule.specs.declared.placements.ComputeLevel.{ComputeLevel as Standpoint}
use Rattle.schedule.specs.declared.placements.ComputeLevel.TheVariants as standpoints
use Rattle.schedule.specs.declared.placements.FuncPlacement.{FuncPlacement}
use Rattle.schedule.specs.Accepted.{IsAccepted}
use Rattle.bounds_ranges.specs.declared.ranges.Range.{Range}
use Rattle.bounds_ranges.specs.Ranges.{widened}
use Rattle.bounds_ranges.specs.Numbers.{origin}
use Rattle.bounds_weights.specs.Weight.{needs, has_frames, flags_of}
use Rattle.bounds.specs.declared.boxes.SourceBox.{SourceBox}
use Rattle.bounds.specs.declared.faults.BoundsFault.{BoundsFault}
use Rattle.bounds.specs.declared.faults.BoundsFault.TheVariants as faults
use Rattle.bounds.specs.declared.layout.Layout.{Layout}
use Rattle.bounds.specs.declared.verdict.Boxes.{Boxes}
use Rattle.bounds.specs.Boxes.{are_near, is_near}
use Rattle.bounds.specs.Extents.{extent, points}
use Rattle.bounds.specs.Inference.{boxes_from, inputs_from}
use Rattle.bounds.specs.Verdict.{inputs_hold, shifts_hold, have_few_points, sized, boxes_of, judged, with_inputs, with_funcs, inferred}
use Rattle.bounds.specs.Layout.{data_start, input_bytes, root_sizes, private_sizes, phases, total, placed, laid_in, laid_out}
use Rattle.bounds_laws.proofs.BoxFacts.{has_box, is_judged}
use Rattle.task_code_scalar.specs.Code.{nowhere}
use Rattle.task_code_scalar.specs.Evaluation.{IsPlace, ArePlaces}
use Rattle.lowering.proofs.Facts.{few_at}
use Rattle.vector_codegen_laws.specs.Places.{input_places, func_place, func_places}
use Rattle.vector_codegen_laws.specs.Settings.{places, size}

-- ---- the size of the data

passed : (test : Bool) (wrong : BoundsFault) (next : Result Boxes BoundsFault) (boxes : Boxes) → cond (not test) (Err wrong) next ≡ Ok boxes → next ≡ Ok boxes
passed true wrong next boxes e = e
passed false wrong next boxes e = absurd cc

kept : (test : Bool) (own boxes : Boxes) (wrong : BoundsFault) → cond test (Ok own) (Err wrong) ≡ Ok boxes → own ≡ boxes
kept true own boxes wrong e = cc
kept false own boxes wrong e = absurd cc

module _ (pipeline : Pipeline) (schedule : Schedule) (boxes : Boxes) where
  judged_so : (funcs inputs : List (Option SourceBox)) → judged pipeline schedule funcs inputs ≡ Ok boxes
      → boxes.layout ≡ laid_out pipeline schedule boxes.funcs
  judged_so funcs inputs e =
      let own = boxes_of pipeline schedule funcs inputs in
      let a = passed (inputs_hold pipeline.inputs inputs) faults.InputExtents (cond (not (shifts_hold schedule.funcs funcs)) (Err faults.ShortShift)
      (sized own)) boxes e in
      let b = passed (shifts_hold schedule.funcs funcs) faults.ShortShift (sized own) boxes a in
      let c = kept (have_few_points own.inputs && (have_few_points own.funcs && nat_le own.layout.size 33554432)) own boxes faults.TooLarge b in
      subst (λ (b : Boxes). b.layout ≡ laid_out pipeline schedule b.funcs) c refl

  inputs_so : (funcs : List (Option SourceBox)) (inputs : Option (List (Option SourceBox))) → with_inputs pipeline schedule funcs inputs ≡ Ok boxes
      → boxes.layout ≡ laid_out pipeline schedule boxes.funcs
  inputs_so funcs None e = absurd cc
  inputs_so funcs (Some inputs) e = judged_so funcs inputs e

  funcs_so : (funcs : Option (List (Option SourceBox))) → with_funcs pipeline schedule funcs ≡ Ok boxes → boxes.layout ≡ laid_out pipeline schedule boxes.funcs
  funcs_so None e = absurd cc
  funcs_so (Some funcs) e = inputs_so funcs (inputs_from pipeline schedule (flags_of schedule.standings) funcs 0 pipeline.inputs) e

  layout_is : inferred pipeline schedule ≡ Ok boxes → boxes.layout ≡ laid_out pipeline schedule boxes.funcs
  unfolding inferred
  layout_is e = funcs_so (boxes_from pipeline schedule (flags_of schedule.standings) 0 pipeline.funcs) e

  module _ (is : inferred pipeline schedule ≡ Ok boxes) where
    judged_few : (have_few_points boxes.funcs ≡ true) × (nat_le boxes.layout.size 33554432 ≡ true)
    judged_few =
        and_parts (have_few_points boxes.funcs) (nat_le boxes.layout.size 33554432)
        (and_parts (have_few_points boxes.inputs) (have_few_points boxes.funcs && nat_le boxes.layout.size 33554432) (is_judged pipeline schedule boxes
        is).few).1

    pub size_fits : size pipeline schedule boxes.funcs ≤ 33554432
    size_fits = subst (λ (l : Layout). l.size ≤ 33554432) (layout_is is) (leb-true boxes.layout.size 33554432 judged_few.1)

    few_points : (place : ℕ) (own : SourceBox) → slice_get boxes.funcs place ≡ Some (Some own) → points own ≤ 2 ^ 20
    few_points place own e = few_at boxes.funcs place own judged_few.0 e

-- ---- addresses

placed_low : (start most : ℕ) (sizes : List ℕ) (k : ℕ) → start + total sizes ≤ most → slice_index (placed start sizes) k ≤ most
placed_low start most [] zero l = omega arith
placed_low start most [] (suc k) l = omega arith
placed_low start most (size ∷ sizes) zero l = omega (arith, l)
placed_low start most (size ∷ sizes) (suc k) l = placed_low (start + size) most sizes k (omega (arith, l))

record AreLow (layout : Layout) : Type 0 where
  inputs : (k : ℕ) → slice_index layout.inputs k ≤ data_start + layout.size
  roots : (k : ℕ) → slice_index layout.roots k ≤ data_start + layout.size
  privates : (k : ℕ) → slice_index layout.privates k ≤ data_start + layout.size

are_low : (phases : ℕ) (inputs roots privates : List ℕ) (has_frames : Bool) → AreLow (laid_in phases inputs roots privates has_frames)
unfolding laid_in
are_low phases inputs roots privates has_frames =
    let most = data_start + (laid_in phases inputs roots privates has_frames).size in
    record {
      inputs = λ k. placed_low (data_start + 8 * phases) most inputs k (omega arith);
      roots = λ k. placed_low (data_start + 8 * phases + total inputs) most roots k (omega arith);
      privates = λ k. placed_low (data_start + 8 * phases + total inputs + total roots) most privates k (omega arith);
    }

-- ---- widths

near_extent : (lasts : List ℕ) (range : Range) → are_near (widened lasts range) ≡ true → extent range < 2 ^ 32
near_extent lasts range near =
    let k = and_parts (nat_le (origin - 2 ^ 24) (widened lasts range).low) (nat_le (widened lasts range).high (origin + 2 ^ 24)) near in
    omega (arith, leb-true (origin - 2 ^ 24) (widened lasts range).low k.0, leb-true (widened lasts range).high (origin + 2 ^ 24) k.1)

near_width : (own : SourceBox) → is_near own ≡ true → extent own.x < 2 ^ 32
near_width own near = near_extent own.lasts own.x (and_parts (are_near (widened own.lasts own.x)) (are_near (widened own.lasts own.y)) near).0

-- ---- places

nowhere_place : IsPlace nowhere
nowhere_place = record { start = omega arith; width = omega arith; distance = omega arith }

input_width : (width height : ℕ) (rest : Bool) → (is_width width && is_height width height && rest) ≡ true → width < 2 ^ 32
input_width width height rest e =
    let a = and_parts (is_width width && is_height width height) rest e in
    let b = and_parts (is_width width) (is_height width height) a.0 in
    let c = and_parts (nat_le 1 width) (nat_le width 65536) b.0 in
    omega (arith, leb-true width 65536 c.1)

inputs_placed : (ats : List ℕ) (inputs : List Input) → ((k : ℕ) → slice_index ats k < 2 ^ 32) → ((k : ℕ) (input : Input) → slice_get inputs k ≡ Some input
    → input.width < 2 ^ 32)
    → (k : ℕ) → IsPlace (slice_index_or (input_places ats inputs) k nowhere)
inputs_placed [] inputs low wide k = nowhere_place
inputs_placed (at ∷ ats) [] low wide k = nowhere_place
inputs_placed (at ∷ ats) (input ∷ inputs) low wide zero = record { start = low 0; width = wide 0 input refl; distance = omega arith }
inputs_placed (at ∷ ats) (input ∷ inputs) low wide (suc k) = inputs_placed ats inputs (λ n. low (suc n)) (λ n i e. wide (suc n) i e) k

one_placed : (standpoint : Standpoint) (own : Option SourceBox) (root private : ℕ) → root < 2 ^ 32 → private < 2 ^ 32
    → ((box : SourceBox) → own ≡ Some box → (extent box.x < 2 ^ 32) × (4 * points box < 2 ^ 32)) → IsPlace (func_place standpoint own root private)
one_placed standpoints.Root (Some own) root private lr lp small = record { start = lr; width = (small own refl).0; distance = omega arith }
one_placed (standpoints.At at) (Some own) root private lr lp small = record { start = lp; width = (small own refl).0; distance = (small own refl).1 }
one_placed standpoints.Inlined (Some own) root private lr lp small = nowhere_place
one_placed standpoints.Nowhere (Some own) root private lr lp small = nowhere_place
one_placed standpoints.Root None root private lr lp small = nowhere_place
one_placed (standpoints.At at) None root private lr lp small = nowhere_place
one_placed standpoints.Inlined None root private lr lp small = nowhere_place
one_placed standpoints.Nowhere None root private lr lp small = nowhere_place

funcs_placed : (standings : List FuncPlacement) (boxes : List (Option SourceBox)) (roots privates : List ℕ) → ((k : ℕ) → slice_index roots k < 2 ^ 32)
    → ((k : ℕ) → slice_index privates k < 2 ^ 32)
    → ((k : ℕ) (box : SourceBox) → slice_get boxes k ≡ Some (Some box) → (extent box.x < 2 ^ 32) × (4 * points box < 2 ^ 32))
    → (k : ℕ) → IsPlace (slice_index_or (func_places standings boxes roots privates) k nowhere)
funcs_placed [] boxes roots privates lr lp small k = nowhere_place
funcs_placed (standing ∷ standings) [] roots privates lr lp small k = nowhere_place
funcs_placed (standing ∷ standings) (own ∷ boxes) [] privates lr lp small k = nowhere_place
funcs_placed (standing ∷ standings) (own ∷ boxes) (root ∷ roots) [] lr lp small k = nowhere_place
funcs_placed (standing ∷ standings) (own ∷ boxes) (root ∷ roots) (private ∷ privates) lr lp small zero =
    one_placed standing.place own root private (lr 0) (lp 0) (λ box e. small 0 box (ap Some e))
funcs_placed (standing ∷ standings) (own ∷ boxes) (root ∷ roots) (private ∷ privates) lr lp small (suc k) =
    funcs_placed standings boxes roots privates (λ n. lr (suc n)) (λ n. lp (suc n)) (λ n box e. small (suc n) box e) k

pub are_places : (pipeline : Pipeline) (schedule : Schedule) (boxes : Boxes) → IsWellFormed pipeline → IsAccepted pipeline schedule
    → inferred pipeline schedule ≡ Ok boxes → ArePlaces (places pipeline schedule boxes.funcs)
are_places pipeline schedule boxes rules accepted is = by_source
  where
    low : AreLow (laid_out pipeline schedule boxes.funcs)
    low =
        are_low (phases schedule.standings pipeline.funcs boxes.funcs) (map input_bytes pipeline.inputs) (root_sizes schedule.standings boxes.funcs)
        (private_sizes schedule.standings boxes.funcs)
        (has_frames (needs pipeline schedule))

    fits : size pipeline schedule boxes.funcs ≤ 33554432
    fits = size_fits pipeline schedule boxes is

    small : (k : ℕ) (box : SourceBox) → slice_get boxes.funcs k ≡ Some (Some box) → (extent box.x < 2 ^ 32) × (4 * points box < 2 ^ 32)
    small k box e = (
      near_width box (has_box pipeline schedule boxes accepted is k box e).near,
      let f = few_points pipeline schedule boxes is k box e in
          omega (arith, f),
    )

    wide : (k : ℕ) (input : Input) → slice_get pipeline.inputs k ≡ Some input → input.width < 2 ^ 32
    wide k input e = input_width input.width input.height (are_dimensions input.dimensions input.height) (rules.inputs k input e)

    by_source : ArePlaces (places pipeline schedule boxes.funcs)
    by_source (sources.Input k) = inputs_placed (laid_out pipeline schedule boxes.funcs).inputs pipeline.inputs (λ n. let l = low.inputs n in
        omega (arith, l, fits)) wide k
    by_source (sources.Func k) =
        funcs_placed schedule.standings boxes.funcs (laid_out pipeline schedule boxes.funcs).roots (laid_out pipeline schedule boxes.funcs).privates
        (λ n. let l = low.roots n in omega (arith, l, fits))
        (λ n. let l = low.privates n in omega (arith, l, fits)) small k
