-- What the layout of boxes that were inferred keeps.
use Rattle.std.proofs.Common.{◌≡◌, ℕ, ◌+◌, ◌*◌, ◌^◌, ◌<◌, ◌≤◌, Bool, true, false, cond, List, [], ◌∷◌, map, Option, Some, None, refl, subst, arith}
use Rattle.std.specs.Prelude.{◌&&◌, nat_le, not, Result, Ok, Err}
use Rattle.std.proofs.lemmas.Bool.{and_parts, leb-true}
use Rattle.halide_pipeline.specs.Pipelines.{Pipeline}
use Rattle.halide_pipeline.specs.WellFormed.{most_points}
use Rattle.schedule.specs.declared.schedules.Schedule.{Schedule}
use Rattle.bounds_weights.specs.Weight.{needs, has_frames, flags_of}
use Rattle.bounds.specs.declared.boxes.SourceBox.{SourceBox}
use Rattle.bounds.specs.declared.faults.BoundsFault.{BoundsFault}
use Rattle.bounds.specs.declared.faults.BoundsFault.TheVariants as faults
use Rattle.bounds.specs.declared.verdict.Boxes.{Boxes}
use Rattle.bounds.specs.Extents.{points}
use Rattle.bounds.specs.Inference.{boxes_from, inputs_from}
use Rattle.bounds.specs.Verdict.{inputs_hold, shifts_hold, have_few_points, sized, boxes_of, judged, with_inputs, with_funcs, inferred}
use Rattle.bounds.specs.declared.layout.Layout.{Layout}
use Rattle.bounds.specs.Layout.{data_start, placed, total, laid_in, laid_out, phases, input_bytes, root_sizes, private_sizes}
use Rattle.bounds_laws.proofs.BoxFacts.{is_judged}
use Rattle.hrv_compiler.specs.Addresses.{AreAddresses, HaveFewPoints, LiesLow}

-- ---- the layout is that of the boxes

passed : (test : Bool) (wrong : BoundsFault) (next : Result Boxes BoundsFault) (boxes : Boxes) → cond (not test) (Err wrong) next ≡ Ok boxes → next ≡ Ok boxes
passed true wrong next boxes e = e
passed false wrong next boxes e = absurd cc

kept : (test : Bool) (own_boxes boxes : Boxes) (wrong : BoundsFault)
    → cond test (Ok own_boxes) (Err wrong) ≡ Ok boxes → own_boxes ≡ boxes
kept true own_boxes boxes wrong e = cc
kept false own_boxes boxes wrong e = absurd cc

module _ (pipeline : Pipeline) (schedule : Schedule) (boxes : Boxes) where
  judged_so : (funcs inputs : List (Option SourceBox)) → judged pipeline schedule funcs inputs ≡ Ok boxes
      → boxes.layout ≡ laid_out pipeline schedule boxes.funcs
  judged_so funcs inputs e =
      let own = boxes_of pipeline schedule funcs inputs in
      let a = passed (inputs_hold pipeline.inputs inputs) faults.InputExtents (cond (not (shifts_hold schedule.funcs funcs)) (Err faults.ShortShift)
      (sized own)) boxes e in
      let b = passed (shifts_hold schedule.funcs funcs) faults.ShortShift (sized own) boxes a in
      let c = kept (have_few_points own.inputs && (have_few_points own.funcs && nat_le own.layout.size 33554432)) own boxes faults.TooLarge b in
      subst (λ (b : Boxes). b.layout ≡ laid_out pipeline schedule b.funcs) c refl

  inputs_so : (funcs : List (Option SourceBox)) (inputs : Option (List (Option SourceBox))) → with_inputs pipeline schedule funcs inputs ≡ Ok boxes
      → boxes.layout ≡ laid_out pipeline schedule boxes.funcs
  inputs_so funcs None e = absurd cc
  inputs_so funcs (Some inputs) e = judged_so funcs inputs e

  funcs_so : (funcs : Option (List (Option SourceBox))) → with_funcs pipeline schedule funcs ≡ Ok boxes → boxes.layout ≡ laid_out pipeline schedule boxes.funcs
  funcs_so None e = absurd cc
  funcs_so (Some funcs) e = inputs_so funcs (inputs_from pipeline schedule (flags_of schedule.standings) funcs 0 pipeline.inputs) e

  pub layout_is : inferred pipeline schedule ≡ Ok boxes → boxes.layout ≡ laid_out pipeline schedule boxes.funcs
  unfolding inferred
  layout_is e = funcs_so (boxes_from pipeline schedule (flags_of schedule.standings) 0 pipeline.funcs) e

-- ---- addresses

addresses : (start : ℕ) (sizes : List ℕ) → start + total sizes < 2 ^ 32 → AreAddresses (placed start sizes)
unfolding AreAddresses
addresses start [] l = tt
addresses start (size ∷ sizes) l = (omega (arith, l), addresses (start + size) sizes (omega (arith, l)))

low : (phases : ℕ) (inputs roots privates : List ℕ) (has_frames : Bool) → (laid_in phases inputs roots privates has_frames).size ≤ 33554432
    → LiesLow (laid_in phases inputs roots privates has_frames)
unfolding laid_in
low phases inputs roots privates has_frames l = record {
  inputs = addresses (data_start + 8 * phases) inputs (omega (arith, l));
  roots = addresses (data_start + 8 * phases + total inputs) roots (omega (arith, l));
  privates = addresses (data_start + 8 * phases + total inputs + total roots) privates (omega (arith, l));
  frames = omega (arith, l);
  size = l;
  phases = omega arith;
}

few_all : (boxes : List (Option SourceBox)) → have_few_points boxes ≡ true → HaveFewPoints boxes
unfolding HaveFewPoints
few_all [] e = tt
few_all (None ∷ boxes) e = (tt, few_all boxes e)
few_all (Some own ∷ boxes) e =
    let k = and_parts (nat_le (points own) most_points) (have_few_points boxes) e in
    (leb-true (points own) most_points k.0, few_all boxes k.1)

module _ (pipeline : Pipeline) (schedule : Schedule) (boxes : Boxes) (is : inferred pipeline schedule ≡ Ok boxes) where
  all_few : (have_few_points boxes.inputs && (have_few_points boxes.funcs && nat_le boxes.layout.size 33554432)) ≡ true
  all_few = (is_judged pipeline schedule boxes is).few

  pub own_few : (have_few_points boxes.funcs ≡ true) × (nat_le boxes.layout.size 33554432 ≡ true)
  own_few = and_parts (have_few_points boxes.funcs) (nat_le boxes.layout.size 33554432) (and_parts (have_few_points boxes.inputs) (have_few_points boxes.funcs
      && nat_le boxes.layout.size 33554432) all_few).1

  pub have_few : HaveFewPoints boxes.funcs
  have_few = few_all boxes.funcs own_few.0

  pub lies_low : LiesLow boxes.layout
  lies_low =
      let e = layout_is pipeline schedule boxes is in
      rw e (low_out (subst (λ (l : Layout). l.size ≤ 33554432) e (leb-true boxes.layout.size 33554432 own_few.1)))
    where
      low_out : (laid_out pipeline schedule boxes.funcs).size ≤ 33554432 → LiesLow (laid_out pipeline schedule boxes.funcs)
      low_out l =
          low (phases schedule.standings pipeline.funcs boxes.funcs) (map input_bytes pipeline.inputs) (root_sizes schedule.standings boxes.funcs)
          (private_sizes schedule.standings boxes.funcs)
          (has_frames (needs pipeline schedule)) l

pub few_phases : (pipeline : Pipeline) (schedule : Schedule) (boxes : Boxes) → inferred pipeline schedule ≡ Ok boxes → 8 * boxes.layout.phases ≤ 33554432
few_phases pipeline schedule boxes is = let low = lies_low pipeline schedule boxes is in omega (arith, low.phases, low.size)

-- the control words and the inputs lie in the data
pub inputs_fit : (pipeline : Pipeline) (schedule : Schedule) (boxes : Boxes) → inferred pipeline schedule ≡ Ok boxes
    → 8 * boxes.layout.phases + total (map input_bytes pipeline.inputs) ≤ boxes.layout.size
unfolding laid_in
inputs_fit pipeline schedule boxes is = rw (layout_is pipeline schedule boxes is) (omega arith)

pub inputs_low : (pipeline : Pipeline) (schedule : Schedule) (boxes : Boxes) → inferred pipeline schedule ≡ Ok boxes → AreAddresses boxes.layout.inputs
inputs_low pipeline schedule boxes is = (lies_low pipeline schedule boxes is).inputs

pub roots_low : (pipeline : Pipeline) (schedule : Schedule) (boxes : Boxes) → inferred pipeline schedule ≡ Ok boxes → AreAddresses boxes.layout.roots
roots_low pipeline schedule boxes is = (lies_low pipeline schedule boxes is).roots

pub privates_low : (pipeline : Pipeline) (schedule : Schedule) (boxes : Boxes) → inferred pipeline schedule ≡ Ok boxes → AreAddresses boxes.layout.privates
privates_low pipeline schedule boxes is = (lies_low pipeline schedule boxes is).privates
