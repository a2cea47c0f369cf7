-- The points of a box, and what the loops of a pure definition visit of them.
use Rattle.std.proofs.Common.{◌≡◌, ℕ, ◌<◌, ◌≤◌, Bool, true, false, cond, List, Option, Some, None, refl, sym, ap, ◌∙◌, arith, true≢false}
use Rattle.std.specs.Prelude.{◌&&◌, nat_lt, Ok}
use Rattle.std.proofs.lemmas.Bool.{and_parts, and_from, lt-ltb, ltb-true}
use Rattle.halide_pipeline.specs.declared.definitions.Func.{Func}
use Rattle.halide_pipeline.specs.declared.expressions.Variable.TheVariants as variables
use Rattle.halide_pipeline.specs.WellFormed.{dimensions, IsWellFormed}
use Rattle.halide_pipeline.specs.Pipelines.{Pipeline}
use Rattle.schedule.specs.declared.plans.FuncPlan.{FuncPlan}
use Rattle.schedule.specs.declared.schedules.Schedule.{Schedule}
use Rattle.schedule.specs.declared.placements.ComputeLevel.{ComputeLevel}
use Rattle.schedule.specs.Accepted.{IsAccepted}
use Rattle.schedule_loops.specs.declared.extents.Extents.{Extents}
use Rattle.schedule_loops.specs.Stages.{IsVisitOf, first_loops, has_variable, is_slice_of, extent_in}
use Rattle.schedule_loops.specs.Visits.{Visit}
use Rattle.bounds_ranges.specs.declared.ranges.Range.{Range}
use Rattle.bounds.specs.declared.boxes.SourceBox.{SourceBox}
use Rattle.bounds.specs.declared.verdict.Boxes.{Boxes}
use Rattle.bounds.specs.Boxes.{IsBox}
use Rattle.bounds.specs.Extents.{box_in, extent, extents_of}
use Rattle.bounds.specs.Verdict.{inferred}
use Rattle.bounds_laws.specs.Laws.{IsComputed}
use Rattle.bounds_laws.proofs.Flat.{one_row_boxes}
use Rattle.lowering.specs.Planes.{has_point, box_points}
use Rattle.bounds.specs.Stages.{IsComputedAt}
use Rattle.lowering.proofs.Facts.{is_box}

below_extent : (has : Bool) (n x : ℕ) → 1 ≤ n → nat_lt x (cond has n 1) ≡ true → x < n
below_extent true n x some e = ltb-true x n e
below_extent false n x some e = omega (arith, ltb-true x 1 e, some)

has_first : (func : Func) → has_variable variables.FirstArgument (first_loops func None) ≡ true
has_first func = by_second func.second_argument refl
  where
    by_second : (second : Option (List ℕ)) → func.second_argument ≡ second → has_variable variables.FirstArgument (first_loops func None) ≡ true
    by_second None e = rw e refl
    by_second (Some name) e = rw e refl

one_without : (func : Func) → has_variable variables.SecondArgument (first_loops func None) ≡ false → dimensions func ≡ 1
one_without func = by_second func.second_argument refl
  where
    by_second : (second : Option (List ℕ)) → func.second_argument ≡ second → has_variable variables.SecondArgument (first_loops func None) ≡ false
        → dimensions func ≡ 1
    by_second None e none = rw e refl
    by_second (Some name) e none = absurd (true≢false (sym (rw e refl) ∙ none))

module _ (pipeline : Pipeline) (schedule : Schedule) (boxes : Boxes) (rules : IsWellFormed pipeline) (accepted : IsAccepted pipeline schedule)
    (is : inferred pipeline schedule ≡ Ok boxes)
    (placed_at : ComputeLevel) (func_index : ℕ) (func : Func) (plan : FuncPlan) (source_box : SourceBox) (here : IsComputed func_index placed_at) (at : IsComputedAt pipeline schedule
    boxes placed_at func_index func plan source_box) where
  abbrev extents : Extents
  extents = extents_of source_box

  abbrev points : ℕ → ℕ → ℕ → Bool
  points = box_points boxes.funcs

  box_facts : IsBox source_box
  box_facts = is_box pipeline schedule boxes func_index func plan source_box accepted is placed_at here at

  wide : 1 ≤ extent source_box.x
  wide = omega (arith, box_facts.x.ordered)

  high : 1 ≤ extent source_box.y
  high = omega (arith, box_facts.y.ordered)

  pub parts_of : (visit : Visit) → IsVisitOf func None extents visit → (visit.x < extent source_box.x) × (visit.y < extent source_box.y)
  parts_of visit v =
      let p = and_parts (nat_lt visit.x (extent_in func None extents variables.FirstArgument))
      (nat_lt visit.y (extent_in func None extents variables.SecondArgument)) v.slice in (
        below_extent (has_variable variables.FirstArgument (first_loops func None)) (extent source_box.x) visit.x wide
            p.0,
        below_extent (has_variable variables.SecondArgument (first_loops func None)) (extent source_box.y) visit.y high
            p.1,
      )

  pub point_there : (x y : ℕ) → x < extent source_box.x → y < extent source_box.y → points func_index x y ≡ true
  point_there x y lx ly = rw at.box_is (and_from (nat_lt x (extent source_box.x)) (nat_lt y (extent source_box.y)) (lt-ltb x (extent source_box.x) lx) (lt-ltb y (extent source_box.y) ly))

  pub there_parts : (x y : ℕ) → points func_index x y ≡ true →
      (nat_lt x (extent source_box.x) && nat_lt y (extent source_box.y)) ≡ true
  there_parts x y e = ap (λ (o : Option (Option SourceBox)). has_point (box_in o) x y) (sym at.box_is) ∙ e

  second_by : (y : ℕ) → nat_lt y (extent source_box.y) ≡ true → (has : Bool) → has_variable variables.SecondArgument (first_loops func None) ≡ has
      → nat_lt y (cond has (extent source_box.y) 1) ≡ true
  second_by y l true e = l
  second_by y l false e =
      let row = one_row_boxes pipeline schedule boxes rules accepted is func_index func source_box at.func_is (one_without func e) at.box_is in
      let low = ap (λ (r : Range). r.low) row in
      let top = ap (λ (r : Range). r.high) row in
      lt-ltb y 1 (omega (arith, ltb-true y (extent source_box.y) l, low, top))

  pub slice_there : (x y : ℕ) → points func_index x y ≡ true → is_slice_of func None extents x y ≡ true
  slice_there x y e =
      let p = and_parts (nat_lt x (extent source_box.x)) (nat_lt y (extent source_box.y)) (there_parts x y e) in
      and_from (nat_lt x (extent_in func None extents variables.FirstArgument)) (nat_lt y (extent_in func None extents variables.SecondArgument))
      (ap (λ (has : Bool). nat_lt x (cond has (extent source_box.x) 1)) (has_first func) ∙ p.0)
      (second_by y p.1 (has_variable variables.SecondArgument (first_loops func None)) refl)
