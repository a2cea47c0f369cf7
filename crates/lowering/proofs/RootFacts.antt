-- What is known of Funcs at root, whose boxes have no base.
use Rattle.std.proofs.Common.{◌≡◌, ℕ, ◌<◌, ◌≤◌, List, Some, subst, ◌∙◌, arith}
use Rattle.std.specs.Prelude.{slice_get, Ok}
use Rattle.halide_pipeline.specs.declared.definitions.Func.{Func}
use Rattle.halide_pipeline.specs.Pipelines.{Pipeline}
use Rattle.halide_pipeline.specs.Words as word
use Rattle.schedule.specs.declared.plans.FuncPlan.{FuncPlan}
use Rattle.schedule.specs.declared.schedules.Schedule.{Schedule}
use Rattle.schedule.specs.declared.placements.LoopPosition.{LoopPosition}
use Rattle.schedule.specs.declared.placements.ComputeLevel.{ComputeLevel}
use Rattle.schedule.specs.declared.placements.ComputeLevel.TheVariants as places
use Rattle.schedule.specs.declared.placements.FuncPlacement.{FuncPlacement}
use Rattle.schedule.specs.Accepted.{IsAccepted}
use Rattle.schedule.specs.Uses.{IsReached}
use Rattle.bounds_ranges.specs.declared.ranges.Range.{Range}
use Rattle.bounds_ranges.specs.Laws.{Lies}
use Rattle.bounds_ranges.specs.Ranges.{IsFit}
use Rattle.bounds.specs.declared.boxes.SourceBox.{SourceBox}
use Rattle.bounds.specs.declared.verdict.Boxes.{Boxes}
use Rattle.bounds.specs.Boxes.{IsBox, no_loops}
use Rattle.bounds.specs.Extents.{extent, word_at}
use Rattle.bounds.specs.Verdict.{inferred}
use Rattle.bounds_laws.specs.ConsumerLaws.{IsFrom}
use Rattle.bounds_laws.proofs.Found.{no_below}
use Rattle.loop_ir.specs.Counters.{Values}
use Rattle.loop_ir.specs.Expressions.{linear_value}
use Rattle.lowering_expressions.specs.declared.calls.Corner.{Corner}
use Rattle.lowering.specs.Corners.{IsCornerOf, AreCorners}
use Rattle.bounds.specs.Stages.{IsAtRoot}
use Rattle.lowering.proofs.Facts as facts
use Rattle.lowering.proofs.Offsets.{more_none, less_none, first_none, from_first_on}
use Rattle.lowering.proofs.Offsets as offsets
use Rattle.lowering.proofs.Values.{corner_at}

-- No Func that the output reaches is computed at one of its loops.
abbrev pub ConsumersNone : List FuncPlacement → ℕ → Type 0
ConsumersNone standings func_index = (other : ℕ) (placement : FuncPlacement) (at : LoopPosition) → IsReached standings other placement → placement.place ≡ places.At at → at.func ≡ func_index → ⊥

-- ---- boxes

module _ (pipeline : Pipeline) (schedule : Schedule) (boxes : Boxes) (func_index : ℕ) (func : Func) (plan : FuncPlan) (source_box : SourceBox)
    (accepted : IsAccepted pipeline schedule) (is : inferred pipeline schedule ≡ Ok boxes)
    (at : IsAtRoot pipeline schedule boxes func_index func plan source_box) where
  pub is_box : IsBox source_box
  is_box = facts.is_box pipeline schedule boxes func_index func plan source_box accepted is places.Root tt at

  pub no_lasts : source_box.lasts ≡ no_loops
  no_lasts = facts.lasts_are pipeline schedule boxes func_index func plan source_box accepted is places.Root tt at

-- ---- words of a range

module _ (range : Range) (x : ℕ) (lies : Lies no_loops no_loops range x) where
  ordered : range.low ≤ range.high
  ordered = omega (arith, lies.low, lies.high, more_none range.base, less_none range.base)

  pub offset_within : word.subtract x (word_at range.low) < extent range
  offset_within = subst (λ (n : ℕ). word.subtract x n < extent range) (first_none range) (offsets.offset_within no_loops no_loops range x lies ordered)

  pub offset_back : word.add (word_at range.low) (word.subtract x (word_at range.low)) ≡ x
  offset_back = subst (λ (n : ℕ). word.add n (word.subtract x n) ≡ x) (first_none range) (offsets.offset_back no_loops no_loops range x lies)

-- a point of a range, from its corner on
pub from_corner_on : (range : Range) (far : ℕ) → IsFit no_loops range → far < extent range → IsFrom no_loops range far (word.add far (word_at range.low))
from_corner_on range far fits few = subst (λ (n : ℕ). IsFrom no_loops range far (word.add far n)) (first_none range) (from_first_on no_loops no_loops range far
    fits no_below few)

-- ---- corners

pub record HasRootCorner (corners : List Corner) (k : ℕ) (source_box : SourceBox) : Type 0 where
  pub corner : Corner
  pub there : slice_get corners k ≡ Some corner
  pub is : (values : Values) → (linear_value values corner.x ≡ word_at source_box.x.low) × (linear_value values corner.y ≡ word_at source_box.y.low)

pub root_corner_at : (schedule : Schedule) (boxes : Boxes) (corners : List Corner) (k : ℕ) (source_box : SourceBox) (placement : FuncPlacement)
    → AreCorners schedule.funcs boxes.funcs schedule.standings corners
    → slice_get boxes.funcs k ≡ Some (Some source_box) → slice_get schedule.standings k ≡ Some placement → placement.place ≡ places.Root → HasRootCorner corners k source_box
root_corner_at schedule boxes corners k source_box placement are there stands root =
    let c = corner_at schedule.funcs boxes.funcs schedule.standings corners k (Some source_box) placement are there
    stands in
    let at_root : IsCornerOf schedule.funcs places.Root (Some source_box) c.corner = subst (λ (p : ComputeLevel). IsCornerOf schedule.funcs p (Some source_box) c.corner) root c.is
    in
    record {
      corner = c.corner;
      there = c.there;
      is = λ values. ((at_root values).0 ∙ first_none source_box.x, (at_root values).1 ∙ first_none source_box.y);
    }
