-- Where one visit of an update is: the point that its variables stand for, in the box and in its slice.
use Rattle.std.proofs.Common.{◌≡◌, ℕ, ◌+◌, ◌*◌, ◌/◌, ◌%◌, ◌^◌, ◌<◌, ◌≤◌, Bool, true, false, cond, List, Option, Some, None, refl, sym, ap, subst, ◌∙◌, arith}
use Rattle.std.specs.Prelude.{◌==◌, nat_lt, slice_get, Ok}
use Rattle.std.proofs.lemmas.Bool.{and_parts, and_from, lt-ltb, ltb-true, eq-eqb}
use Rattle.std.proofs.Math.Nat.{mod-eq_of_lt, mul-le-mul}
use Rattle.halide_pipeline.specs.declared.definitions.Func.{Func}
use Rattle.halide_pipeline.specs.declared.definitions.Reduction.{Reduction}
use Rattle.halide_pipeline.specs.declared.definitions.Update.{Update}
use Rattle.halide_pipeline.specs.declared.expressions.Source.TheVariants as sources
use Rattle.halide_pipeline.specs.declared.expressions.Variable.{Variable}
use Rattle.halide_pipeline.specs.declared.expressions.Variable.TheVariants as variables
use Rattle.halide_pipeline.specs.WellFormed.{is_first_in_place, is_second_in_place, IsWellFormed, is_box}
use Rattle.halide_pipeline.specs.Pipelines.{Pipeline}
use Rattle.halide_pipeline.specs.Words as word
use Rattle.halide_pipeline.specs.declared.environments.Environment.{Environment}
use Rattle.halide_pipeline.specs.Pixel.{variable, points, second_extent, second_value, at_reduction}
use Rattle.schedule_lines.specs.declared.stages.LoopId.TheVariants as ids
use Rattle.schedule.specs.declared.schedules.Schedule.{Schedule}
use Rattle.schedule.specs.declared.placements.FuncPlacement.{FuncPlacement}
use Rattle.schedule.specs.Uses.{IsReached}
use Rattle.schedule_loops.specs.declared.extents.Extents.{Extents}
use Rattle.schedule_loops.specs.Visits as loops
use Rattle.schedule_loops.specs.Stages.{IsVisitOf, extent_in, first_loops, has_variable}
use Rattle.schedule_loops.specs.Visits.{Visit, visit_of}
use Rattle.bounds_ranges.specs.Laws.{Below}
use Rattle.bounds.specs.declared.boxes.SourceBox.{SourceBox}
use Rattle.bounds.specs.declared.verdict.Boxes.{Boxes}
use Rattle.bounds.specs.Boxes.{lasts_of}
use Rattle.bounds.specs.Extents.{extent, update_extents, BoxCorner}
use Rattle.bounds.specs.Verdict.{inferred}
use Rattle.bounds_laws.specs.ConsumerLaws.{IsProduced, IsInPlace}
use Rattle.bounds_laws.specs.Laws.{LiesIn, IsNear, IsComputed}
use Rattle.bounds_laws.proofs.BoxesProduced.{boxes_are_produced, points_are_near, visits_lie}
use Rattle.loop_ir.specs.Counters.{Values}
use Rattle.loop_ir.specs.Expressions.{linear_value}
use Rattle.lowering_nests.specs.Nests.{put_loops}
use Rattle.lowering_expressions.specs.declared.calls.Corner.{Corner}
use Rattle.lowering.specs.Planes.{has_point}
use Rattle.lowering.specs.PurePhases.{whole_at}
use Rattle.lowering.specs.Updates.{visited_point, second_reduced, in_place, is_visited, IsCornerAt, IsBegin, consumer_at, produced_iterations}
use Rattle.lowering.proofs.Begins.{on_from, offset_in, on_back}
use Rattle.lowering.proofs.Offsets.{add_swapped}
use Rattle.lowering.proofs.UpdateFacts.{has_first, no_second, points_are, first_extent, second_few, remainder_is, quotient_is}

-- ---- where loops stand

whole_small : (second width first height : ℕ) → 1 ≤ width → width ≤ 65536 → height ≤ 65536 → second * width + first < width * height → second < 2 ^ 32
whole_small second width first height some few low inside =
    let all : width * height ≤ 65536 * 65536 = mul-le-mul few low in
    let own : second * 1 ≤ second * width = mul-le-mul (omega arith) some in
    omega (arith, all, own, inside)

abbrev point_of : ℕ → ℕ → ℕ → ℕ → Environment
point_of a b c d = record { first_argument = a; second_argument = b; first_reduction = c; second_reduction = d }

pub same_point : (a b c d x y z w : ℕ) → a ≡ x → b ≡ y → c ≡ z → d ≡ w → point_of a b c d ≡ point_of x y z w
same_point a b c d x y z w ea eb ec ed =
    ap (λ (n : ℕ). point_of n b c d) ea ∙ ap (λ (n : ℕ). point_of x n c d) eb ∙ ap (λ (n : ℕ). point_of x y n d) ec ∙ ap (λ (n : ℕ). point_of x y z n) ed

module _ (pipeline : Pipeline) (schedule : Schedule) (boxes : Boxes) (rules : IsWellFormed pipeline) (is : inferred pipeline schedule ≡ Ok boxes)
    (func_index : ℕ) (func : Func) (source_box : SourceBox) (func_is : slice_get pipeline.funcs func_index ≡ Some func) (box_is : slice_get boxes.funcs func_index ≡ Some (Some source_box))
    (placement : FuncPlacement) (there : IsReached schedule.standings func_index placement) (computed : IsComputed func_index placement.place)
    (at : ℕ) (update : Update) (update_is : slice_get func.updates at ≡ Some update)
    (iterations : List ℕ) (below : Below (produced_iterations schedule boxes placement iterations) (lasts_of (consumer_at schedule boxes placement)))
    (begin : BoxCorner) (begins : IsBegin (produced_iterations schedule boxes placement iterations) source_box begin)
    (before : Values) (corner : Corner) (corner_is : IsCornerAt func_index before corner begin) where
  abbrev values : List ℕ
  values = produced_iterations schedule boxes placement iterations

  abbrev extents : Extents
  extents = update_extents source_box update

  pub produced : IsProduced (consumer_at schedule boxes placement) source_box
  produced = boxes_are_produced pipeline schedule boxes is func_index placement there.standing there.reached computed source_box box_is

  pub below_own : Below values source_box.lasts
  below_own = subst (λ (l : List ℕ). Below values l) (sym produced.lasts) below

  abbrev column_in : ℕ → ℕ
  column_in i = in_place (is_first_in_place update) i

  abbrev row_in : ℕ → ℕ
  row_in j = in_place (is_second_in_place update) j

  module _ (inner : loops.Values) (v : IsVisitOf func (Some update) extents (visit_of extents inner)) (reduced : inner (ids.Whole variables.FirstReduction)
      < update.first.extent) where
    abbrev visit : Visit
    visit = visit_of extents inner

    abbrev now : Values
    now = put_loops func_index inner before

    abbrev pub x : ℕ
    x = word.add visit.x begin.x

    abbrev pub y : ℕ
    y = word.add visit.y begin.y

    -- ---- the visit

    parts : (nat_lt visit.x (extent_in func (Some update) extents variables.FirstArgument) ≡ true)
        × (nat_lt visit.y (extent_in func (Some update) extents variables.SecondArgument) ≡ true)
    parts = and_parts (nat_lt visit.x (extent_in func (Some update) extents variables.FirstArgument)) (nat_lt visit.y (extent_in func (Some update) extents
        variables.SecondArgument)) v.slice

    below_by : (has : Bool) (n far : ℕ) → 1 ≤ n → nat_lt far (cond has n 1) ≡ true → far < n
    below_by true n far some e = ltb-true far n e
    below_by false n far some e = omega (arith, ltb-true far 1 e, some)

    across : visit.x < extent source_box.x
    across = below_by (has_variable variables.FirstArgument (first_loops func (Some update))) (extent source_box.x) visit.x (omega (arith, produced.box.x.ordered))
        parts.0

    down : visit.y < extent source_box.y
    down = below_by (has_variable variables.SecondArgument (first_loops func (Some update))) (extent source_box.y) visit.y (omega (arith, produced.box.y.ordered))
        parts.1

    -- what isn't in place stays 0
    no_column : is_first_in_place update ≡ false → visit.x ≡ 0
    no_column e =
        let l : nat_lt visit.x (cond false (extent source_box.x) 1) ≡ true = ap (λ (b : Bool). nat_lt visit.x (cond b (extent source_box.x) 1)) (sym (has_first func update
        ∙ e)) ∙ parts.0 in
        omega (arith, ltb-true visit.x 1 l)

    no_row : is_second_in_place update ≡ false → visit.y ≡ 0
    no_row e =
        let l : nat_lt visit.y (cond false (extent source_box.y) 1) ≡ true = ap (λ (b : Bool). nat_lt visit.y (cond b (extent source_box.y) 1))
        (sym (no_second func update e)) ∙ parts.1 in
        omega (arith, ltb-true visit.y 1 l)

    pub wide : extent source_box.x ≤ 2 ^ 32
    wide = omega (arith, produced.box.x.low, produced.box.x.high)

    pub high : extent source_box.y ≤ 2 ^ 32
    high = omega (arith, produced.box.y.low, produced.box.y.high)

    pub lies : LiesIn values source_box x y
    lies =
        visits_lie func (Some update) source_box produced.box values below_own extents refl refl visit v x y
        (on_from source_box.lasts values below_own source_box.x produced.box.x begin.x begins.x visit.x across)
        (on_from source_box.lasts values below_own source_box.y produced.box.y begin.y begins.y visit.y down)

    pub few_points : visit.number < points update
    few_points = subst (λ (n : ℕ). visit.number < n) (points_are func update source_box) v.number

    -- ---- what variables stand for

    stands_now : (variable : Variable) → inner (ids.Whole variable) < 2 ^ 32 → whole_at now func_index variable ≡ inner (ids.Whole variable)
    stands_now variable few =
        ap (λ (b : Bool). cond b (inner (ids.Whole variable)) (before (record { func = func_index; id = ids.Whole variable })) % 2 ^ 32) (eq-eqb func_index func_index refl)
        ∙ mod-eq_of_lt {n = inner (ids.Whole variable)} {m = 2 ^ 32} few

    box_rule : is_box update ≡ true
    box_rule = ((rules.funcs func_index func func_is).updates at update update_is).box

    first_few : (1 ≤ update.first.extent) × (update.first.extent ≤ 65536)
    first_few = first_extent update box_rule

    second_most : (1 ≤ second_extent update.second) × (second_extent update.second ≤ 65536)
    second_most = second_few update box_rule

    second_whole : inner (ids.Whole variables.SecondReduction) < 2 ^ 32
    second_whole = whole_small (inner (ids.Whole variables.SecondReduction)) update.first.extent (inner (ids.Whole variables.FirstReduction))
        (second_extent update.second) first_few.0 first_few.1 second_most.1 few_points

    second_is : (second : Option Reduction) → second_reduced now func_index second ≡ second_value second (visit.number / update.first.extent)
    second_is None = refl
    second_is (Some reduction) =
        add_swapped (whole_at now func_index variables.SecondReduction) reduction.minimum
        ∙ ap (word.add reduction.minimum)
        (stands_now variables.SecondReduction second_whole
        ∙ sym (quotient_is update box_rule (inner (ids.Whole variables.FirstReduction)) (inner (ids.Whole variables.SecondReduction)) reduced))

    pub point_is : visited_point now func_index corner update ≡ at_reduction update visit.number x y
    point_is =
        same_point (word.add (whole_at now func_index variables.FirstArgument) (linear_value now corner.x)) (word.add (whole_at now func_index variables.SecondArgument)
        (linear_value now corner.y))
        (word.add (whole_at now func_index variables.FirstReduction) update.first.minimum) (second_reduced now func_index update.second)
        x y (word.add update.first.minimum (visit.number % update.first.extent)) (second_value update.second (visit.number / update.first.extent))
        (ap (λ (n : ℕ). word.add n (linear_value now corner.x)) (stands_now variables.FirstArgument (omega (arith, across, wide)))
        ∙ ap (word.add visit.x) (corner_is inner).0)
        (ap (λ (n : ℕ). word.add n (linear_value now corner.y)) (stands_now variables.SecondArgument (omega (arith, down, high)))
        ∙ ap (word.add visit.y) (corner_is inner).1)
        (add_swapped (whole_at now func_index variables.FirstReduction) update.first.minimum
        ∙ ap (word.add update.first.minimum)
        (stands_now variables.FirstReduction (omega (arith, reduced, first_few.1))
        ∙ sym (remainder_is update box_rule (inner (ids.Whole variables.FirstReduction)) (inner (ids.Whole variables.SecondReduction)) reduced)))
        (second_is update.second)

    -- ---- its slice

    -- a point of the slice, counted from the corner
    in_slice : (test : Bool) (argument n c far : ℕ) → (test ≡ true → n ≡ argument) → argument ≡ word.add far c → (test ≡ false → far ≡ 0) → far < 2 ^ 32
        → c < 2 ^ 32 → in_place test (word.subtract n c) ≡ far
    in_slice true argument n c far same is zero_so few small =
        ap (λ (m : ℕ). word.subtract m c) (same refl ∙ is ∙ add_swapped far c) ∙ on_back c far few small
    in_slice false argument n c far same is zero_so few small = sym (zero_so refl)

    column_of : (a : ℕ) → (is_first_in_place update ≡ true → a ≡ x) → column_in (word.subtract a begin.x) ≡ visit.x
    column_of a same = in_slice (is_first_in_place update) x a begin.x visit.x same refl no_column (omega (arith, across, wide)) begins.x.word

    row_of : (b : ℕ) → (is_second_in_place update ≡ true → b ≡ y) → row_in (word.subtract b begin.y) ≡ visit.y
    row_of b same = in_slice (is_second_in_place update) y b begin.y visit.y same refl no_row (omega (arith, down, high)) begins.y.word

    pub on_slice : (a b : ℕ) → IsInPlace update x y (record { source = sources.Func func_index; x = a; y = b })
        → is_visited update (word.subtract a begin.x) (word.subtract b begin.y) visit ≡ true
    on_slice a b stays =
        and_from (visit.x == column_in (word.subtract a begin.x)) (visit.y == row_in (word.subtract b begin.y))
        (eq-eqb visit.x (column_in (word.subtract a begin.x)) (sym (column_of a stays.first))) (eq-eqb visit.y (row_in (word.subtract b begin.y))
        (sym (row_of b stays.second)))

    pub boxed_at : (a b : ℕ) → LiesIn values source_box a b → has_point (Some source_box) (word.subtract a begin.x) (word.subtract b begin.y) ≡ true
    boxed_at a b inside_it =
        and_from (nat_lt (word.subtract a begin.x) (extent source_box.x))
        (nat_lt (word.subtract b begin.y) (extent source_box.y))
        (lt-ltb (word.subtract a begin.x) (extent source_box.x) (offset_in source_box.lasts values below_own source_box.x produced.box.x begin.x begins.x a inside_it.first))
        (lt-ltb (word.subtract b begin.y) (extent source_box.y) (offset_in source_box.lasts values below_own source_box.y produced.box.y begin.y begins.y b inside_it.second))

    pub near : IsNear x × IsNear y
    near = points_are_near source_box produced.box values below_own x y lies
