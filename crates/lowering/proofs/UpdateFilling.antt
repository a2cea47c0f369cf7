-- The nests of the updates of a Func at a loop, after that of its pure definition.
use Rattle.std.proofs.Common.{◌≡◌, ℕ, zero, suc, ◌<◌, ◌^◌, length, List, [], ◌∷◌, Option, Some, None, refl, sym, ap, subst, ◌∙◌, arith}
use Rattle.std.specs.Prelude.{nat_lt, slice_get, Ok}
use Rattle.std.proofs.lemmas.Bool.{and_parts, and_from, ltb-true, lt-ltb}
use Rattle.halide_pipeline.specs.declared.definitions.Func.{Func}
use Rattle.halide_pipeline.specs.declared.definitions.Update.{Update}
use Rattle.halide_pipeline.specs.Pipelines.{Pipeline}
use Rattle.halide_pipeline.specs.Words as word
use Rattle.halide_pipeline.specs.Pixel.{Planes, stage, pixels}
use Rattle.schedule_lines.specs.declared.stages.LoopId.{LoopId}
use Rattle.schedule.specs.declared.plans.FuncPlan.{FuncPlan}
use Rattle.schedule.specs.declared.schedules.Schedule.{Schedule}
use Rattle.schedule.specs.declared.placements.LoopPosition.{LoopPosition}
use Rattle.schedule.specs.declared.placements.ComputeLevel.{ComputeLevel}
use Rattle.schedule.specs.declared.placements.ComputeLevel.TheVariants as places
use Rattle.schedule.specs.declared.placements.FuncPlacement.{FuncPlacement}
use Rattle.schedule.specs.Accepted.{IsAccepted, IsPlan, IsUpdateStage}
use Rattle.schedule.proofs.Uses.{IsSome}
use Rattle.schedule_loops.specs.Visits as loops
use Rattle.schedule_loops.proofs.AcceptedStages.{pair_at}
use Rattle.bounds_ranges.specs.Laws.{Below}
use Rattle.bounds.specs.declared.boxes.ConsumerLoop.{ConsumerLoop}
use Rattle.bounds.specs.declared.boxes.SourceBox.{SourceBox}
use Rattle.bounds.specs.declared.verdict.Boxes.{Boxes}
use Rattle.bounds.specs.Boxes.{IsBox, no_loops, lasts_of}
use Rattle.bounds.specs.Extents.{extent, BoxCorner}
use Rattle.bounds.specs.Verdict.{inferred}
use Rattle.bounds_laws.specs.ConsumerLaws.{IsFrom}
use Rattle.bounds_laws.specs.Laws.{IsComputed, values_for, consumer_in}
use Rattle.bounds_laws.proofs.PutIn.{pair_there}
use Rattle.loop_ir.specs.declared.statements.Stmt.{Stmt}
use Rattle.loop_ir.specs.Counters.{Values}
use Rattle.loop_ir.specs.Running.{run}
use Rattle.loop_ir.specs.Soundness.{is_sound}
use Rattle.lowering_nests.specs.Nests.{loops_of, put_loops}
use Rattle.lowering_expressions.specs.declared.calls.Corner.{Corner}
use Rattle.lowering.specs.Corners.{first_of, iterations_for, IsCorner, AreCorners}
use Rattle.lowering.specs.Consuming.{consuming, Leaves, DoesFirst, DoesNest, DoesNests, IsSoundNest}
use Rattle.lowering.specs.Planes.{box_points}
use Rattle.bounds.specs.Stages.{IsComputedAt}
use Rattle.lowering.specs.Updates.{IsComputedIn, IsUpdateAt, IsCornerAt, IsBegin, ReadsPixels, LoadsOthers, DoesUpdate, AreSoundLoops, produced_iterations}
use Rattle.lowering.specs.Updates.{consumer_at}
use Rattle.lowering.specs.Updates as updates
use Rattle.lowering.proofs.Facts as facts
use Rattle.lowering.proofs.Facts.{is_box, produced_before}
use Rattle.lowering.proofs.Filling.{loops_consuming, no_other_loops, loops_put_other, iterations_by}
use Rattle.lowering.proofs.Offsets.{first_small, from_first_on}
use Rattle.lowering.proofs.Values.{corner_at}

-- ---- values of loops of a consumer that may be missing

no_values : (values : List ℕ) → Below values no_loops → values ≡ no_loops
no_values [] below = absurd below
no_values (a ∷ []) below = absurd below.1
no_values (a ∷ b ∷ []) below = absurd below.1.1
no_values (a ∷ b ∷ c ∷ []) below = absurd below.1.1.1
no_values (a ∷ b ∷ c ∷ d ∷ []) below = absurd below.1.1.1.1
no_values (a ∷ b ∷ c ∷ d ∷ e ∷ []) below =
    let za : a ≡ 0 = omega (arith, below.0) in
    let zb : b ≡ 0 = omega (arith, below.1.0) in
    let zc : c ≡ 0 = omega (arith, below.1.1.0) in
    let zd : d ≡ 0 = omega (arith, below.1.1.1.0) in
    let ze : e ≡ 0 = omega (arith, below.1.1.1.1.0) in
    cc
no_values (a ∷ b ∷ c ∷ d ∷ e ∷ f ∷ more) below = absurd below.1.1.1.1.1

values_are : (consumer : Option ConsumerLoop) (values : List ℕ) → Below values (lasts_of consumer) → values_for consumer values ≡ values
values_are None values below = sym (no_values values below)
values_are (Some consumer) values below = refl

add_none : (n : ℕ) → n < 2 ^ 32 → word.add 0 n ≡ n
unfolding word.add
add_none n few = omega (arith, few)

module _ (pipeline : Pipeline) (schedule : Schedule) (boxes : Boxes) (accepted : IsAccepted pipeline schedule) (is : inferred pipeline schedule ≡ Ok boxes)
    (loop : LoopPosition) (func_index : ℕ) (func : Func) (plan : FuncPlan) (source_box : SourceBox) (parts : IsComputedAt pipeline schedule boxes (places.At loop) func_index func
    plan source_box) where
  here : func_index < loop.func
  here = produced_before pipeline schedule accepted func_index parts.standing parts.there loop parts.placed_is

  box_facts : IsBox source_box
  box_facts = is_box pipeline schedule boxes func_index func plan source_box accepted is (places.At loop) here parts

  pub computed_in : IsComputedIn pipeline schedule boxes func_index func plan source_box
  computed_in = record {
    func_is = parts.func_is;
    plan_is = parts.plan_is;
    box_is = parts.box_is;
    standing = parts.standing;
    there = parts.there;
    computed = subst (λ (p : ComputeLevel). IsComputed func_index p) (sym parts.placed_is) here;
  }

  pub corner_there : (corners : List Corner) → AreCorners schedule.funcs boxes.funcs schedule.standings corners → IsSome (slice_get corners func_index)
  corner_there corners are =
      let c = corner_at schedule.funcs boxes.funcs schedule.standings corners func_index (Some source_box) parts.standing are parts.box_is parts.there.standing in
      record { value = c.corner; is = c.there }

  corner_so : (corners : List Corner) → AreCorners schedule.funcs boxes.funcs schedule.standings corners → (corner : Corner)
      → slice_get corners func_index ≡ Some corner → IsCorner schedule.funcs (places.At loop) source_box corner
  corner_so corners are corner there =
      let c = corner_at schedule.funcs boxes.funcs schedule.standings corners func_index (Some source_box) parts.standing are parts.box_is parts.there.standing in
      let same : c.corner ≡ corner = let e = c.there in cc in
      subst (λ (k : Corner). IsCorner schedule.funcs (places.At loop) source_box k) same (subst (λ (p : ComputeLevel). IsCorner schedule.funcs p source_box c.corner) parts.placed_is
      c.is)

  pub stage_there : (at : ℕ) (update : Update) → slice_get func.updates at ≡ Some update → IsSome (slice_get plan.updates at)
  stage_there at update found =
      pair_there (IsUpdateStage func) func.updates plan.updates at update (pair_at IsPlan pipeline.funcs schedule.funcs func_index func plan accepted.plans
      parts.func_is parts.plan_is).updates found

  -- ---- one more stage

  lasts_here : source_box.lasts ≡ lasts_of (consumer_at schedule boxes parts.standing)
  lasts_here =
      facts.lasts_are pipeline schedule boxes func_index func plan source_box accepted is (places.At loop) here parts
      ∙ ap (λ (p : ComputeLevel). lasts_of (consumer_in schedule boxes.funcs p)) (sym parts.placed_is)

  module _ (corners : List Corner) (are : AreCorners schedule.funcs boxes.funcs schedule.standings corners) (corner : Corner) (corner_is : slice_get corners
      func_index ≡ Some corner) where
    -- while loops of the consumer are in these iterations
    module _ (in_task : loops.Values) (below : Below (iterations_for schedule.funcs (places.At loop) (consuming loop.func in_task)) source_box.lasts) where
      abbrev counters : Values
      counters = consuming loop.func in_task

      abbrev values : List ℕ
      values = iterations_for schedule.funcs (places.At loop) counters

      abbrev begin : BoxCorner
      begin = record { x = first_of source_box.x values; y = first_of source_box.y values }

      consumer_below : Below values (lasts_of (consumer_at schedule boxes parts.standing))
      consumer_below = subst (λ (l : List ℕ). Below values l) lasts_here below

      iterations_so : produced_iterations schedule boxes parts.standing values ≡ values
      iterations_so = values_are (consumer_at schedule boxes parts.standing) values consumer_below

      below_so : Below (produced_iterations schedule boxes parts.standing values) (lasts_of (consumer_at schedule boxes parts.standing))
      below_so = subst (λ (l : List ℕ). Below l (lasts_of (consumer_at schedule boxes parts.standing))) (sym iterations_so) consumer_below

      begins : IsBegin (produced_iterations schedule boxes parts.standing values) source_box begin
      begins =
          subst (λ (l : List ℕ). IsBegin l source_box begin) (sym iterations_so)
          (record {
            x = subst (λ (n : ℕ). IsFrom values source_box.x 0 n) (add_none (first_of source_box.x values) (first_small source_box.x values)) (from_first_on source_box.lasts values source_box.x 0
                box_facts.x below (omega (arith, box_facts.x.ordered)));
            y = subst (λ (n : ℕ). IsFrom values source_box.y 0 n) (add_none (first_of source_box.y values) (first_small source_box.y values)) (from_first_on source_box.lasts values source_box.y 0
                box_facts.y below (omega (arith, box_facts.y.ordered)));
          })

      iterations_stay : (inner : loops.Values) → iterations_for schedule.funcs (places.At loop) (put_loops func_index inner counters) ≡ values
      iterations_stay inner = iterations_by loop (slice_get schedule.funcs loop.func) (put_loops func_index inner counters) counters (loops_put_other func_index loop.func inner
          counters (λ e. omega (arith, e, here)))

      begins_at : IsCornerAt func_index counters corner begin
      begins_at inner =
          let c = corner_so corners are corner corner_is (put_loops func_index inner counters) in (
            c.0 ∙ ap (first_of source_box.x) (iterations_stay inner),
            c.1 ∙ ap (first_of source_box.y)
                (iterations_stay inner),
          )

      loops_stay : (inner : loops.Values) → loops_of loop.func (put_loops func_index inner counters) ≡ in_task
      loops_stay inner = loops_put_other func_index loop.func inner counters (λ e. omega (arith, e, here)) ∙ loops_consuming loop.func in_task

      not_begun : (id : LoopId) → loops_of func_index counters id ≡ 0
      not_begun id = ap (λ (t : loops.Values). t id) (no_other_loops loop.func func_index in_task (λ e. omega (arith, e, here)))

    module _ (at : ℕ) (update : Update) (update_is : slice_get func.updates at ≡ Some update) (first next statement : Stmt) (both : DoesFirst (Some first) next statement)
      where
        pub one_more_stage : DoesNests pipeline schedule boxes loop func_index func source_box at first
            → DoesUpdate pipeline schedule boxes corners func_index func corner source_box at
            update next
            → DoesNests pipeline schedule boxes loop func_index func source_box (suc at) statement
        one_more_stage does goes_on inputs begun in_task below funcs answered all_answered =
            let points = box_points boxes.funcs in
            let between = run points inputs first (counters in_task below) funcs in
            let left : Leaves func_index source_box (values in_task below) (stage func_index func inputs (pixels pipeline.funcs inputs func_index) at) funcs between =
            does inputs begun in_task below funcs answered all_answered in
            let reads : ReadsPixels pipeline schedule corners func_index update (values in_task below) source_box inputs (counters in_task below) between =
            λ inner number x y few lies plane words.
            all_answered corners are (put_loops func_index inner (counters in_task below)) (loops_stay in_task below inner) between left.keeps at update update_is
            number
            x y few lies plane words in
            let after : updates.Leaves func_index source_box (updates.stage_from pipeline inputs func_index func (begin in_task below) (suc at)) between
            (run points inputs next (counters in_task below) between) =
            goes_on inputs begun parts.standing parts.there (values in_task below) (below_so in_task below) (begin in_task below) (begins in_task below)
            (counters in_task below) (begins_at in_task below) (not_begun in_task below) between
            (subst (λ (l : List ℕ). ReadsPixels pipeline schedule corners func_index update l source_box inputs (counters in_task below) between)
            (sym (iterations_so in_task below))
            reads)
            (λ x y there.
            let p = and_parts (nat_lt x (extent source_box.x)) (nat_lt y (extent source_box.y)) there in
            left.holds x y (ltb-true x (extent source_box.x) p.0) (ltb-true y (extent source_box.y) p.1)) in
            let ran : run points inputs statement (counters in_task below) funcs ≡ run points inputs next (counters in_task below) between =
            both.runs points inputs (counters in_task below) funcs in
            record {
              holds = λ x y lx ly.
                  ap (λ (f : Planes). f func_index x y) ran
                  ∙ after.does x y (and_from (nat_lt x (extent source_box.x)) (nat_lt y (extent source_box.y)) (lt-ltb x (extent source_box.x) lx) (lt-ltb y (extent source_box.y) ly));
              keeps = λ other x y d. ap (λ (f : Planes). f other x y) ran ∙ (after.keeps other x y (λ e. absurd (d e)) ∙ left.keeps other x y d);
            }

        pub one_more_sound : IsSoundNest pipeline schedule boxes loop func_index func source_box first
            → AreSoundLoops pipeline schedule boxes corners func_index corner source_box update
            next
            → IsSoundNest pipeline schedule boxes loop func_index func source_box statement
        one_more_sound first_sound next_sound reads words written loaded in_task below may =
            let loads : LoadsOthers pipeline schedule corners func_index update (values in_task below) source_box reads loaded (counters in_task below) =
            λ inner number x y few lies.
            may.updates corners are (put_loops func_index inner (counters in_task below)) (loops_stay in_task below inner) at update update_is number x y few lies in
            both.sound reads written loaded (counters in_task below)
            ∙ and_from (is_sound reads written loaded first (counters in_task below)) (is_sound reads written loaded next (counters in_task below))
            (first_sound reads words written loaded in_task below may)
            (next_sound reads words written loaded may.writes may.loads parts.standing parts.there (values in_task below) (below_so in_task below)
            (begin in_task below) (begins in_task below) (counters in_task below)
            (begins_at in_task below) (not_begun in_task below) (subst (λ (l : List ℕ). LoadsOthers pipeline schedule corners func_index update l source_box reads loaded
            (counters in_task below)) (sym (iterations_so in_task below)) loads))

  -- the pure definition alone
  pub pure_stage : (statement : Stmt) → DoesNest pipeline schedule boxes loop func_index func source_box 0 statement → DoesNests pipeline schedule boxes loop func_index func source_box 0 statement
  pure_stage statement does inputs begun in_task below funcs answered all_answered = does inputs in_task below funcs
      answered

-- ---- for the code

pub same_corners : (plans plans' : List FuncPlan) (own own' : List (Option SourceBox)) (standings standings' : List FuncPlacement) (corners : List Corner)
    → plans' ≡ plans → own' ≡ own → standings' ≡ standings
    → AreCorners plans' own' standings' corners → AreCorners plans own standings corners
same_corners plans plans' own own' standings standings' corners p o s are =
    subst (λ (l : List FuncPlan). AreCorners l own standings corners) p (subst (λ (l : List (Option SourceBox)). AreCorners plans' l standings corners) o
    (subst (λ (l : List FuncPlacement). AreCorners plans' own' l corners) s are))

pub nothing_there : {A : Type 0} (found : Option A) → IsSome found → None ≡ found → ⊥
nothing_there found some e = let is = some.is in absurd cc

pub some_within : {A : Type 0} (xs : List A) (k : ℕ) → k < length xs → IsSome (slice_get xs k)
some_within [] k few = absurd (omega (arith, few))
some_within (x ∷ xs) zero few = record { value = x; is = refl }
some_within (x ∷ xs) (suc k) few = some_within xs k (omega (arith, few))
