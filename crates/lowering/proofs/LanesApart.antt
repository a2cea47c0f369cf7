-- Lanes of a vectorized loop of an update are apart: in each the loop's argument, which is in place, occurs elsewhere.
use Rattle.std.proofs.Common.{◌≡◌, ℕ, zero, suc, ◌+◌, ◌*◌, ◌/◌, ◌%◌, ◌^◌, ◌<◌, ◌≤◌, Bool, true, false, cond, List, [], ◌∷◌, ◌++◌, inl, inr, Option, Some, None}
use Rattle.std.proofs.Common.{refl, sym, ap, subst, ◌∙◌, arith, true≢false}
use Rattle.std.specs.Prelude.{slice_get}
use Rattle.std.specs.List.{AllByRecursion}
use Rattle.std.proofs.lemmas.Bool.{eq-eqb}
use Rattle.std.proofs.Math.Nat.{mod-eq_of_lt, mul-le-mul}
use Rattle.halide_pipeline.specs.declared.definitions.Func.{Func}
use Rattle.halide_pipeline.specs.declared.definitions.Reduction.{Reduction}
use Rattle.halide_pipeline.specs.declared.definitions.Update.{Update}
use Rattle.halide_pipeline.specs.declared.expressions.Variable.{Variable}
use Rattle.halide_pipeline.specs.declared.expressions.Variable.TheVariants as variables
use Rattle.halide_pipeline.specs.WellFormed.{is_first_in_place, is_second_in_place, IsWellFormed, is_box}
use Rattle.halide_pipeline.specs.Expressions.{same_variable}
use Rattle.halide_pipeline.specs.Pipelines.{Pipeline}
use Rattle.halide_pipeline.specs.Words as word
use Rattle.halide_pipeline.specs.Pixel.{Reads, second_value}
use Rattle.schedule_lines.specs.declared.stages.Loop.{Loop}
use Rattle.schedule_lines.specs.declared.stages.LoopId.{LoopId}
use Rattle.schedule_lines.specs.declared.stages.LoopId.TheVariants as ids
use Rattle.schedule_lines.specs.declared.stages.Split.{Split}
use Rattle.schedule_lines.specs.declared.stages.Stage.{Stage}
use Rattle.schedule_lines.specs.Directives.{is_reduction}
use Rattle.schedule_lines.specs.Making.{total}
use Rattle.schedule.specs.declared.schedules.Schedule.{Schedule}
use Rattle.schedule_loops.specs.declared.extents.Extents.{Extents}
use Rattle.schedule_loops.specs.Visits as loops
use Rattle.schedule_loops.specs.Visits.{counts, strides, is_uneven, extent_of}
use Rattle.schedule_loops.specs.Reach.{AgreeWhereUneven, base, wholes}
use Rattle.schedule_loops.specs.Runs.{AreIterations, is_vectorized_loop}
use Rattle.schedule_loops.specs.Stages.{IsStageOf, KeepsRules, first_loops, has_variable}
use Rattle.schedule_loops.proofs.Bounded.{within}
use Rattle.schedule_loops.proofs.Ids.{cases_id, same_variable-self, with_other, with_same}
use Rattle.schedule_loops.proofs.Nesting.{has_id, has_other, has_same}
use Rattle.schedule_loops.proofs.Stepping.{stepped}
use Rattle.bounds.specs.declared.boxes.SourceBox.{SourceBox}
use Rattle.bounds_laws.proofs.PutIn.{flags}
use Rattle.loop_ir.specs.declared.statements.Stmt.{Stmt}
use Rattle.loop_ir.specs.Counters.{Values}
use Rattle.loop_ir.specs.Expressions.{linear_value}
use Rattle.lowering_nests.specs.Nests.{AreFew, loops_of, put_loops}
use Rattle.lowering_nests.specs.LoopLanes.{LoadsNoneOf, MayBeUnder}
use Rattle.lowering_nests.proofs.LoopLanes.{iterations_more}
use Rattle.lowering_expressions.specs.declared.calls.Corner.{Corner}
use Rattle.lowering.specs.PurePhases.{whole_at}
use Rattle.lowering.specs.Updates.{IsSoundUpdate, second_reduced}
use Rattle.bounds.specs.Extents.{update_extents}
use Rattle.schedule.specs.declared.placements.ComputeLevel.TheVariants as places
use Rattle.schedule.specs.declared.placements.FuncPlacement.{FuncPlacement}
use Rattle.bounds.specs.declared.verdict.Boxes.{Boxes}
use Rattle.lowering.specs.Corners.{IsCorner, AreCorners}
use Rattle.lowering.proofs.RootFacts.{root_corner_at}
use Rattle.lowering.proofs.AtVisit.{same_point}
use Rattle.lowering.proofs.Offsets.{add_swapped, first_none}
use Rattle.lowering.proofs.UpdateFacts.{has_first, no_second, has_reduction, remainder_is, quotient_is}
use Rattle.lowering.proofs.UpdateLanes.{AreCounted, IsAt, Differ, loads_none}
use Rattle.lowering.proofs.VectorLoops.{IsVectorized, all_even, unique_loops, vectorized, others_are}

-- ---- a loop's iterations take its variable further

further : (stride earlier later : ℕ) → 1 ≤ stride → earlier < later → stride * later ≡ stride * earlier → ⊥
further zero earlier later some before e = absurd (omega (arith, some))
further (suc n) earlier later some before e =
    let m : n * earlier ≤ n * later = mul-le-mul (omega arith) (omega (arith, before)) in
    absurd (omega (arith, m, before, e))

base_other : (splits : List Split) (v : Variable) (id : LoopId) (n : ℕ) (iterations : loops.Values) (outside : List Loop) → total (has_id id) outside ≡ 0
    → base splits v (loops.with id n iterations) outside ≡ base splits v iterations outside
base_other splits v id n iterations [] none = refl
base_other splits v id n iterations (own ∷ outside) none = elim (cases_id own.id id) [
  | inl e ↦
      let one : has_id id own ≡ 1 = subst (λ (i : LoopId). has_id i own ≡ 1) e (has_same own) in
      absurd (omega (arith, none, one))
  | inr d ↦
      let rest = base_other splits v id n iterations outside (omega (arith, none, has_other id own d)) in
      let here : loops.with id n iterations own.id ≡ iterations own.id = with_other id n iterations own.id d in
      ap (λ (k : ℕ). cond {A = ℕ} (same_variable own.variable v) (strides splits own.id * k) 0 + base splits v (loops.with id n iterations) outside) here
      ∙ ap (λ (k : ℕ). cond {A = ℕ} (same_variable own.variable v) (strides splits own.id * iterations own.id) 0 + k) rest
]

base_own : (splits : List Split) (stage_loop : Loop) (n : ℕ) (iterations : loops.Values) (outside : List Loop) → total (has_id stage_loop.id) outside ≡ 0
    → base splits stage_loop.variable (loops.with stage_loop.id n iterations) (stage_loop ∷ outside) ≡ strides splits stage_loop.id * n + base splits stage_loop.variable iterations outside
base_own splits stage_loop n iterations outside none =
    ap (λ (b : Bool). cond {A = ℕ} b (strides splits stage_loop.id * loops.with stage_loop.id n iterations stage_loop.id) 0 + base splits stage_loop.variable (loops.with stage_loop.id n iterations)
    outside) (same_variable-self stage_loop.variable)
    ∙ ap (λ (k : ℕ). strides splits stage_loop.id * k + base splits stage_loop.variable (loops.with stage_loop.id n iterations) outside) (with_same stage_loop.id n iterations)
    ∙ ap (λ (k : ℕ). strides splits stage_loop.id * n + k) (base_other splits stage_loop.variable stage_loop.id n
    iterations outside none)

agree_even : (splits : List Split) (all : List Loop) (one other : loops.Values) → ((id : LoopId) → is_uneven splits id ≡ false)
    → AgreeWhereUneven splits all one other
agree_even splits [] one other even = tt
agree_even splits (own ∷ all) one other even = (λ e. absurd (true≢false (sym e ∙ even own.id)), agree_even splits all one other even)

-- ---- loops of an update

module _ (func : Func) (update : Update) where
  abbrev start : List Loop
  start = first_loops func (Some update)

  -- a second reduction variable has a loop
  second_by : (first second : Bool) → is_first_in_place update ≡ first → is_second_in_place update ≡ second → (name : Option (List ℕ))
      → func.second_argument ≡ name
      → (reduction : Reduction) → update.second ≡ Some reduction → has_variable variables.SecondReduction start ≡ true
  second_by true true ef es None en r er = rw (ef, es, en, er) refl
  second_by true true ef es (Some n) en r er = rw (ef, es, en, er) refl
  second_by false true ef es None en r er = rw (ef, es, en, er) refl
  second_by false true ef es (Some n) en r er = rw (ef, es, en, er) refl
  second_by true false ef es name en r er = rw (ef, es, er) refl
  second_by false false ef es name en r er = rw (ef, es, er) refl

  has_second_reduction : (reduction : Reduction) → update.second ≡ Some reduction → has_variable variables.SecondReduction start ≡ true
  has_second_reduction r er = second_by (is_first_in_place update) (is_second_in_place update) refl refl func.second_argument refl r er

  second_there : (test : Bool) → is_second_in_place update ≡ test → has_variable variables.SecondArgument start ≡ true → test ≡ true
  second_there true e there = refl
  second_there false e there = absurd (true≢false (sym there ∙ no_second func update e))

module _ (pipeline : Pipeline) (schedule : Schedule) (rules : IsWellFormed pipeline) (func_index : ℕ) (func : Func) (func_is : slice_get pipeline.funcs func_index
    ≡ Some func)
    (at : ℕ) (update : Update) (update_is : slice_get func.updates at ≡ Some update) (box : SourceBox) (few : AreFew (update_extents box update))
    (stage : Stage) (is : IsStageOf func (Some update) stage) (corners : List Corner) (corner : Corner) (counted : AreCounted corners func_index corner)
    (store : Stmt) (sound : IsSoundUpdate corners (flags pipeline schedule) pipeline.funcs func_index corner update store) where
  abbrev extents : Extents
  extents = update_extents box update

  box_rule : is_box update ≡ true
  box_rule = ((rules.funcs func_index func func_is).updates at update update_is).box

  -- ---- a lane

  module _ (values : Values) (iterations : loops.Values) (are : AreIterations (counts extents stage.splits) stage.loops iterations) (inner : loops.Values)
      (inner_is : wholes extents stage.splits [] iterations ≡ inner ∷ []) where
    abbrev now : Values
    now = put_loops func_index inner values

    below : (v : Variable) → has_variable v (first_loops func (Some update)) ≡ true → inner (ids.Whole v) < extent_of extents v
    below v there =
        (subst (λ (list : List loops.Values). AllByRecursion (λ whole. whole (ids.Whole v) < extent_of extents v) list) inner_is
        (within func (Some update) extents stage [] stage.loops v iterations is refl there are)).0

    stands : (v : Variable) → has_variable v (first_loops func (Some update)) ≡ true → whole_at now func_index v ≡ inner (ids.Whole v)
    stands v there =
        ap (λ (b : Bool). cond b (inner (ids.Whole v)) (values (record { func = func_index; id = ids.Whole v })) % 2 ^ 32) (eq-eqb func_index func_index refl)
        ∙ mod-eq_of_lt {n = inner (ids.Whole v)} {m = 2 ^ 32} (omega (arith, below v there, few v))

    abbrev first : ℕ
    first = inner (ids.Whole variables.FirstReduction)

    abbrev second : ℕ
    second = inner (ids.Whole variables.SecondReduction)

    number : ℕ
    number = second * update.first.extent + first

    reduced : first < update.first.extent
    reduced = below variables.FirstReduction (has_reduction func update)

    second_is : (own : Option Reduction) → update.second ≡ own → second_reduced now func_index own ≡ second_value own (number / update.first.extent)
    unfolding number
    second_is None e = refl
    second_is (Some reduction) e =
        add_swapped (whole_at now func_index variables.SecondReduction) reduction.minimum
        ∙ ap (word.add reduction.minimum) (stands variables.SecondReduction (has_second_reduction func update reduction e)
        ∙ sym (quotient_is update box_rule first second reduced))

    first_is : word.add (whole_at now func_index variables.FirstReduction) update.first.minimum ≡ word.add update.first.minimum (number % update.first.extent)
    unfolding number
    first_is =
        add_swapped (whole_at now func_index variables.FirstReduction) update.first.minimum
        ∙ ap (word.add update.first.minimum) (stands variables.FirstReduction (has_reduction func update)
        ∙ sym (remainder_is update box_rule first second reduced))

    abbrev x : ℕ
    x = word.add (whole_at now func_index variables.FirstArgument) (linear_value now corner.x)

    abbrev y : ℕ
    y = word.add (whole_at now func_index variables.SecondArgument) (linear_value now corner.y)

    is_at : (reads : Reads) → IsAt pipeline schedule rules func_index func func_is at update update_is corners corner counted store sound reads now number
    is_at reads =
        same_point x y (word.add (whole_at now func_index variables.FirstReduction) update.first.minimum) (second_reduced now func_index update.second)
        x y (word.add update.first.minimum (number % update.first.extent)) (second_value update.second (number / update.first.extent))
        refl refl first_is (second_is update.second refl)

  -- ---- two lanes

  module _ (own : Loop) (outside : List Loop) (loops_are : stage.loops ≡ own ∷ outside) (vector : IsVectorized func (Some update) extents stage is own outside)
      (reads : Reads) (values : Values) (are : AreIterations (counts extents stage.splits) outside (loops_of func_index values))
      (earlier later : ℕ) (before : earlier < later) (last : later < counts extents stage.splits own.id) (one other : loops.Values)
      (one_is : wholes extents stage.splits [] (loops.with own.id earlier (loops_of func_index values)) ≡ one ∷ []) (other_is : wholes extents stage.splits []
      (loops.with own.id later (loops_of func_index values)) ≡ other ∷ []) where
    abbrev in_task : ℕ → loops.Values
    in_task n = loops.with own.id n (loops_of func_index values)

    abbrev v : Variable
    v = own.variable

    are_iterations : (n : ℕ) → n < counts extents stage.splits own.id → AreIterations (counts extents stage.splits) stage.loops (in_task n)
    are_iterations n l = subst (λ (ls : List Loop). AreIterations (counts extents stage.splits) ls (in_task n)) (sym loops_are) (iterations_more (counts extents stage.splits)
        own n l outside (loops_of func_index values) are)

    none : total (has_id own.id) outside ≡ 0
    none =
        let u : total (has_id own.id) (own ∷ outside) ≤ 1 = subst (λ (ls : List Loop). total (has_id own.id) ls ≤ 1) loops_are (unique_loops func (Some update)
        extents stage is own.id) in
        omega (arith, u, has_same own)

    base_of : (n : ℕ) → base stage.splits v (in_task n) stage.loops ≡ strides stage.splits own.id * n + base stage.splits v (loops_of func_index values) outside
    base_of n = ap (base stage.splits v (in_task n)) loops_are ∙ base_own stage.splits own n (loops_of func_index values) outside none

    step : one (ids.Whole v) + base stage.splits v (in_task later) stage.loops ≡ other (ids.Whole v) + base stage.splits v (in_task earlier) stage.loops
    step =
        stepped func (Some update) extents stage v (in_task earlier) (in_task later) one other is vector.there (are_iterations earlier (omega (arith, before, last)))
        (are_iterations later last)
        (agree_even stage.splits stage.loops (in_task earlier) (in_task later) (all_even func (Some update) extents stage is refl)) one_is other_is

    elsewhere : other (ids.Whole v) ≡ one (ids.Whole v) → ⊥
    elsewhere e = further (strides stage.splits own.id) earlier later vector.stride before (omega (arith, step, base_of later, base_of earlier, e))

    abbrev earlier_now : Values
    earlier_now = put_loops func_index one values

    abbrev later_now : Values
    later_now = put_loops func_index other values

    stood : whole_at later_now func_index v ≡ whole_at earlier_now func_index v → ⊥
    stood e =
        elsewhere (sym (stands values (in_task later) (are_iterations later last) other other_is v vector.there) ∙ e
        ∙ stands values (in_task earlier) (are_iterations earlier (omega (arith, before, last))) one one_is v vector.there)

    differ_by : (w : Variable) → v ≡ w → Differ pipeline schedule rules func_index func func_is at update update_is corners corner counted store sound reads
        earlier_now later_now
    differ_by variables.FirstArgument e =
        inl (
          sym (has_first func update) ∙ ap (λ (u : Variable). has_variable u (first_loops func (Some update))) (sym e) ∙ vector.there,
          subst (λ (u : Variable). whole_at later_now func_index u ≡ whole_at earlier_now func_index u → ⊥) e stood,
        )
    differ_by variables.SecondArgument e =
        inr (
          second_there func update (is_second_in_place update) refl (ap (λ (u : Variable). has_variable u (first_loops func (Some update))) (sym e)
              ∙ vector.there),
          subst (λ (u : Variable). whole_at later_now func_index u ≡ whole_at earlier_now func_index u → ⊥) e stood,
        )
    differ_by variables.FirstReduction e = absurd (true≢false (ap is_reduction (sym e) ∙ vector.argument))
    differ_by variables.SecondReduction e = absurd (true≢false (ap is_reduction (sym e) ∙ vector.argument))

    apart : LoadsNoneOf reads store earlier_now later_now
    apart =
        loads_none pipeline schedule rules func_index func func_is at update update_is corners corner counted store sound reads earlier_now later_now
        (number values (in_task earlier) (are_iterations earlier (omega (arith, before, last))) one one_is) (number values (in_task later) (are_iterations later last) other
        other_is)
        (is_at values (in_task earlier) (are_iterations earlier (omega (arith, before, last))) one one_is reads) (is_at values (in_task later) (are_iterations later last)
        other other_is reads) (differ_by v refl)

  pub update_under : (kept : KeepsRules stage) (inside outside : List Loop) → stage.loops ≡ inside ++ outside
      → MayBeUnder func_index extents stage.splits inside outside store
  update_under kept [] outside loops_are = tt
  update_under kept (own ∷ inside) outside loops_are = (
    λ e. let vector = vectorized func (Some update) extents stage is kept own (inside ++ outside) loops_are e in record {
      count = vector.count;
      apart = λ reads values small are earlier later before last one other one_is other_is. apart own (inside ++ outside) loops_are vector reads values are
          earlier later before last one other one_is other_is;
    },
    inside_only inside outside (others_are func (Some update) extents stage is kept own (inside ++ outside) loops_are),
  )
    where
      inside_only : (inside outside : List Loop) → AllByRecursion (λ other. is_vectorized_loop other ≡ false) (inside ++ outside)
          → AllByRecursion (λ other. is_vectorized_loop other ≡ false) inside
      inside_only [] outside all = tt
      inside_only (one ∷ inside) outside all = (all.0, inside_only inside outside all.1)

-- ---- the corner of a Func at root

pub counted_at_root : (schedule : Schedule) (boxes : Boxes) (corners : List Corner) (corner : Corner) (func_index : ℕ) (source_box : SourceBox) (placement : FuncPlacement)
    → AreCorners schedule.funcs boxes.funcs schedule.standings corners
    → slice_get boxes.funcs func_index ≡ Some (Some source_box) → slice_get schedule.standings func_index ≡ Some placement → placement.place ≡ places.Root
    → IsCorner schedule.funcs places.Root source_box corner → AreCounted corners func_index corner
counted_at_root schedule boxes corners corner func_index source_box placement are there stands root is values a b =
    let c = root_corner_at schedule boxes corners func_index source_box placement are there stands root in
    rw (c.there, (c.is values).0 ∙ sym ((is values).0 ∙ first_none source_box.x), (c.is values).1 ∙ sym ((is values).1 ∙ first_none source_box.y)) refl
