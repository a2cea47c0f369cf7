-- The nest of a pure definition of a Func that is computed at a loop fills its box of one iteration.
use Rattle.std.proofs.Common.{◌≡◌, ℕ, ◌<◌, Bool, true, false, cond, List, map, Option, Some, None, refl, sym, ap, subst, ◌∙◌, arith, true≢false}
use Rattle.std.specs.Prelude.{◌==◌, nat_lt, slice_get, Ok}
use Rattle.std.specs.List.{AllByRecursion, list_all, list_any}
use Rattle.std.proofs.lemmas.Bool.{and_from, eq-eqb, lt-ltb, ne_eqb}
use mathlib.Core.Path.{fun_ext}
use Rattle.halide_pipeline.specs.declared.definitions.Func.{Func}
use Rattle.halide_pipeline.specs.declared.expressions.Variable.TheVariants as variables
use Rattle.halide_pipeline.specs.Pipelines.{Pipeline}
use Rattle.halide_pipeline.specs.WellFormed.{IsWellFormed}
use Rattle.halide_pipeline.specs.Pixel.{Plane, Planes, Reads, pixels, stage}
use Rattle.halide_pipeline.specs.Points.{Point}
use Rattle.schedule_lines.specs.declared.stages.LoopId.TheVariants as ids
use Rattle.schedule.specs.declared.plans.FuncPlan.{FuncPlan}
use Rattle.schedule.specs.declared.schedules.Schedule.{Schedule}
use Rattle.schedule.specs.declared.placements.LoopPosition.{LoopPosition}
use Rattle.schedule.specs.declared.placements.ComputeLevel.TheVariants as places
use Rattle.schedule.specs.Accepted.{IsAccepted}
use Rattle.schedule_loops.specs.declared.extents.Extents.{Extents}
use Rattle.schedule_loops.specs.Visits as loops
use Rattle.schedule_loops.specs.Reach.{wholes}
use Rattle.schedule_loops.specs.Stages.{IsStageOf, KeepsRules, IsVisitOf}
use Rattle.schedule_loops.specs.Visits.{Visit, zeros, visit_of, visits, is_slice}
use Rattle.schedule_loops.proofs.Covering.{visited}
use Rattle.schedule_loops.proofs.Slices.{visits_within}
use Rattle.schedule_loops.proofs.IterationsFound.{of_all}
use Rattle.schedule_loops.proofs.Wholes.{visits_of_wholes}
use Rattle.bounds_ranges.specs.Laws.{Below, AnswerWords}
use Rattle.bounds.specs.declared.boxes.SourceBox.{SourceBox}
use Rattle.bounds.specs.declared.verdict.Boxes.{Boxes}
use Rattle.bounds.specs.Extents.{extent, extents_of}
use Rattle.bounds.specs.Verdict.{inferred}
use Rattle.bounds_laws.specs.ConsumerLaws.{values_in}
use Rattle.loop_ir.specs.declared.statements.Stmt.{Stmt}
use Rattle.loop_ir.specs.Buffers.{Points}
use Rattle.loop_ir.specs.Counters.{Values}
use Rattle.loop_ir.specs.Running.{run}
use Rattle.loop_ir.specs.Soundness.{is_sound}
use Rattle.lowering_nests.specs.Nests.{loops_of, put_loops, all, AreSmall, Repeats}
use Rattle.lowering.specs.Corners.{iterations_for, iterations_at}
use Rattle.lowering.specs.Consuming.{consuming, Keeps, Leaves, IsAnswered, DoesNest, MayTouch, IsSoundNest}
use Rattle.lowering.specs.Planes.{box_points}
use Rattle.lowering.specs.PurePhases.{IsStoreOf}
use Rattle.bounds.specs.Stages.{IsComputedAt}
use Rattle.lowering.proofs.Covered.{parts_of, point_there, slice_there}
use Rattle.lowering.proofs.Facts.{staged, fits, produced_before}
use Rattle.lowering.proofs.Lists.{any_map, all_map, all_pass, none_passes}
use Rattle.lowering.proofs.Painting.{Writes, Paints, is_at, paints}
use Rattle.lowering.proofs.Writing as writing

-- ---- the loops of a consumer, and those of others

pub loops_consuming : (consumer : ℕ) (in_task : loops.Values) → loops_of consumer (consuming consumer in_task) ≡ in_task
loops_consuming consumer in_task = fun_ext (λ id. ap (λ (b : Bool). cond b (in_task id) 0) (eq-eqb consumer consumer refl))

pub no_other_loops : (consumer other : ℕ) (in_task : loops.Values) → (other ≡ consumer → ⊥) → loops_of other (consuming consumer in_task) ≡ zeros
no_other_loops consumer other in_task d = fun_ext (λ id. ap (λ (b : Bool). cond b (in_task id) 0) (ne_eqb other consumer d))

-- loops of one Func are put, and those of another stay
pub loops_put_other : (func_index other : ℕ) (inner : loops.Values) (values : Values) → (other ≡ func_index → ⊥) → loops_of other (put_loops func_index inner values)
    ≡ loops_of other values
loops_put_other func_index other inner values d = fun_ext (λ id. ap (λ (b : Bool). cond b (inner id) (values (record { func = other; id = id }))) (ne_eqb other func_index d))

pub iterations_by : (loop : LoopPosition) (plan : Option FuncPlan) (one other : Values) → loops_of loop.func one ≡ loops_of loop.func other
    → iterations_at loop plan one ≡ iterations_at loop plan other
iterations_by loop None one other e = refl
iterations_by loop (Some plan) one other e = ap (values_in plan loop.inside) e

module _ (pipeline : Pipeline) (schedule : Schedule) (boxes : Boxes) (rules : IsWellFormed pipeline) (accepted : IsAccepted pipeline schedule)
    (is : inferred pipeline schedule ≡ Ok boxes)
    (loop : LoopPosition) (func_index : ℕ) (func : Func) (plan : FuncPlan) (source_box : SourceBox) (at : IsComputedAt pipeline schedule boxes (places.At loop) func_index func plan
    source_box)
    (store : Stmt) (store_of : IsStoreOf pipeline schedule boxes (places.At loop) func_index func source_box store)
    (statement : Stmt) (repeats : Repeats func_index statement store
    (wholes (extents_of source_box) plan.pure.splits plan.pure.loops)) where
  pub here : func_index < loop.func
  here = produced_before pipeline schedule accepted func_index at.standing at.there loop at.placed_is

  abbrev extents : Extents
  extents = extents_of source_box

  abbrev points : ℕ → ℕ → ℕ → Bool
  points = box_points boxes.funcs

  stage_facts : IsStageOf func None plan.pure × KeepsRules plan.pure
  stage_facts = staged pipeline schedule boxes func_index func plan source_box accepted is (places.At loop) here at

  abbrev iterations : List loops.Values
  iterations = wholes extents plan.pure.splits plan.pure.loops zeros

  visits_are : visits extents plan.pure ≡ map (visit_of extents) iterations
  visits_are = visits_of_wholes extents plan.pure.splits plan.pure.loops zeros

  module _ (inputs : Planes) (in_task : loops.Values) where
    abbrev counters : Values
    counters = consuming loop.func in_task

    abbrev values : List ℕ
    values = iterations_for schedule.funcs (places.At loop) counters

    iterations_same : (inner : loops.Values) → iterations_for schedule.funcs (places.At loop) (put_loops func_index inner counters) ≡ values
    iterations_same inner = iterations_by loop (slice_get schedule.funcs loop.func) (put_loops func_index inner counters) counters (loops_put_other func_index loop.func inner
        counters (λ e. omega (arith, e, here)))

    module _ (below : Below values source_box.lasts) (funcs : Planes) (answered : IsAnswered pipeline schedule boxes loop.func func_index func source_box values inputs in_task
        funcs) where
      abbrev plane : Plane
      plane = writing.plane pipeline schedule boxes rules accepted is (places.At loop) func_index func plan source_box here at store store_of inputs values below counters
          iterations_same

      abbrev step : loops.Values → Planes → Planes
      step = writing.step pipeline schedule boxes rules accepted is (places.At loop) func_index func plan source_box here at store store_of inputs values below counters
          iterations_same

      abbrev x_of : loops.Values → ℕ
      x_of = writing.x_of pipeline schedule boxes rules accepted is (places.At loop) func_index func plan source_box here at store store_of inputs values below counters
          iterations_same

      abbrev y_of : loops.Values → ℕ
      y_of = writing.y_of pipeline schedule boxes rules accepted is (places.At loop) func_index func plan source_box here at store store_of inputs values below counters
          iterations_same

      abbrev Ready : Planes → Type 0
      Ready now = Keeps func_index funcs now

      stays : (now after : Planes) → Keeps func_index now after → Ready now → Ready after
      stays now later keeps ready other x y d = keeps other x y d ∙ ready other x y d

      writes : (inner : loops.Values) → IsVisitOf func None extents (visit_of extents inner) → Writes points func_index plane Ready stays x_of y_of step inner
      writes inner v =
          writing.writes pipeline schedule boxes rules accepted is (places.At loop) func_index func plan source_box here at store store_of inputs values below counters
          iterations_same inner v Ready stays
          (λ now ready. answered store_of.corners store_of.are_corners (put_loops func_index inner counters)
          (loops_put_other func_index loop.func inner counters (λ e. omega (arith, e, here)) ∙ loops_consuming loop.func in_task) now ready
          (writing.across pipeline schedule boxes rules accepted is (places.At loop) func_index func plan source_box here at store store_of inputs values below counters
          iterations_same inner)
          (writing.down pipeline schedule boxes rules accepted is (places.At loop) func_index func plan source_box here at store store_of inputs values below counters
          iterations_same inner)
          (writing.lies pipeline schedule boxes rules accepted is (places.At loop) func_index func plan source_box here at store store_of inputs values below counters
          iterations_same inner v))

      all_write : AllByRecursion (Writes points func_index plane Ready stays x_of y_of step) iterations
      all_write =
          all_map (IsVisitOf func None extents) (Writes points func_index plane Ready stays x_of y_of step) (visit_of extents) writes iterations
          (subst (λ (l : List Visit). AllByRecursion (IsVisitOf func None extents) l) visits_are (visits_within func None extents plan.pure stage_facts.0))

      painted : Paints points func_index plane Ready stays x_of y_of step iterations funcs (all step iterations funcs)
      painted = paints points func_index plane Ready stays x_of y_of step iterations funcs all_write
          (λ other x y d. refl)

      no_iterations : loops_of func_index counters ≡ zeros
      no_iterations = no_other_loops loop.func func_index in_task (λ e. omega (arith, e, here))

      small : AreSmall (loops_of func_index counters)
      small = subst AreSmall (sym no_iterations) (λ id. omega arith)

      ran : run points inputs statement counters funcs ≡ all step iterations funcs
      ran = repeats.runs points inputs counters funcs small ∙ ap (λ (t : loops.Values). all step (wholes extents plan.pure.splits plan.pure.loops t) funcs)
          no_iterations

      -- each point of the box is visited
      reached_by : (x y : ℕ) → x < extent source_box.x → y < extent source_box.y → (test : Bool) → list_any (is_slice x y) (visits extents plan.pure) ≡ test → test ≡ true
      reached_by x y lx ly true e = refl
      reached_by x y lx ly false e =
          let there = slice_there pipeline schedule boxes rules accepted is (places.At loop) func_index func plan source_box here at x y (point_there pipeline schedule
          boxes rules accepted is (places.At loop) func_index func plan source_box here at x y lx ly) in
          let contains = visited func extents x y there plan.pure stage_facts.0 (fits pipeline schedule boxes func_index func plan source_box accepted is (places.At loop)
          here at) in
          let not_here = of_all (λ (v : Visit). is_slice x y v ≡ false) (visits extents plan.pure) (none_passes (is_slice x y) (visits extents plan.pure) e)
          (record { x = x; y = y; number = 0 }) contains in
          absurd (true≢false (sym (and_from (x == x) (y == y) (eq-eqb x x refl) (eq-eqb y y refl)) ∙ not_here))

      is_reached : (x y : ℕ) → x < extent source_box.x → y < extent source_box.y → list_any (is_at points func_index plane Ready stays x_of y_of step x y) iterations ≡ true
      is_reached x y lx ly =
          sym (ap (list_any (is_slice x y)) visits_are ∙ any_map (is_slice x y) (visit_of extents) iterations)
          ∙ reached_by x y lx ly (list_any (is_slice x y) (visits extents plan.pure)) refl

      leaves : Leaves func_index source_box values (stage func_index func inputs (pixels pipeline.funcs inputs func_index) 0) funcs (run points inputs statement counters funcs)
      leaves = record {
        holds = λ x y lx ly. ap (λ (f : Planes). f func_index x y) ran ∙ painted.there x y (is_reached x y lx ly);
        keeps = λ other x y d. ap (λ (f : Planes). f other x y) ran ∙ painted.keeps other x y (λ e. absurd (d e));
      }

  pub fills : DoesNest pipeline schedule boxes loop func_index func source_box 0 statement
  fills inputs in_task below funcs answered = leaves inputs in_task below funcs answered

  -- ---- what it touches

  module _ (reads : Reads) (words : AnswerWords pipeline.inputs reads) (written : Points) (loaded : Point → Bool) (in_task : loops.Values)
      (below : Below (iterations_for schedule.funcs (places.At loop) (consuming loop.func in_task)) source_box.lasts)
      (may : MayTouch pipeline schedule boxes loop.func func_index func source_box (iterations_for schedule.funcs (places.At loop) (consuming loop.func in_task)) reads written
      loaded in_task) where
    dark : Planes
    dark other x y = 0

    abbrev now : Values
    now = consuming loop.func in_task

    abbrev values_now : List ℕ
    values_now = iterations_for schedule.funcs (places.At loop) now

    abbrev IsSoundAt : loops.Values → Type 0
    IsSoundAt inner = is_sound reads written loaded store (put_loops func_index inner now) ≡ true

    step_sound : (inner : loops.Values) → IsVisitOf func None extents (visit_of extents inner) → IsSoundAt inner
    step_sound inner v =
        let x = inner (ids.Whole variables.FirstArgument) in
        let y = inner (ids.Whole variables.SecondArgument) in
        let p = parts_of pipeline schedule boxes rules accepted is (places.At loop) func_index func plan source_box here at (visit_of extents inner) v in
        writing.sound pipeline schedule boxes rules accepted is (places.At loop) func_index func plan source_box here at store store_of dark values_now below now
        (iterations_same dark in_task) inner v reads written loaded
        (may.writes x y (and_from (nat_lt x (extent source_box.x)) (nat_lt y (extent source_box.y)) (lt-ltb x (extent source_box.x) p.0) (lt-ltb y (extent source_box.y) p.1)))
        (may.pure store_of.corners store_of.are_corners (put_loops func_index inner now) (loops_put_other func_index loop.func inner now (λ e. omega (arith, e, here))
        ∙ loops_consuming loop.func in_task)
        (writing.across pipeline schedule boxes rules accepted is (places.At loop) func_index func plan source_box here at store store_of dark values_now below now
        (iterations_same dark in_task) inner)
        (writing.down pipeline schedule boxes rules accepted is (places.At loop) func_index func plan source_box here at store store_of dark values_now below now
        (iterations_same dark in_task) inner)
        (writing.lies pipeline schedule boxes rules accepted is (places.At loop) func_index func plan source_box here at store store_of dark values_now below now
        (iterations_same dark in_task) inner v))

    no_iterations_now : loops_of func_index now ≡ zeros
    no_iterations_now = no_other_loops loop.func func_index in_task (λ e. omega (arith, e, here))

    pub sound_nest : is_sound reads written loaded statement now ≡ true
    sound_nest =
        repeats.sound reads written loaded now (subst AreSmall (sym no_iterations_now) (λ id. omega arith))
        ∙ ap (λ (t : loops.Values). list_all (λ inner. is_sound reads written loaded store (put_loops func_index inner now)) (wholes extents plan.pure.splits
        plan.pure.loops t)) no_iterations_now
        ∙ all_pass (λ inner. is_sound reads written loaded store (put_loops func_index inner now)) iterations
        (all_map (IsVisitOf func None extents) IsSoundAt (visit_of extents) step_sound iterations
        (subst (λ (l : List Visit). AllByRecursion (IsVisitOf func None extents) l) visits_are (visits_within func None extents plan.pure stage_facts.0)))

  pub touches : IsSoundNest pipeline schedule boxes loop func_index func source_box statement
  touches reads words written loaded in_task below may = sound_nest reads words written loaded in_task below may
