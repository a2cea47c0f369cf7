-- Each task of a pure definition stores at the points that its iteration visits, and at no other of its Func.
use Rattle.std.proofs.Common.{◌≡◌, ℕ, ◌<◌, ◌^◌, Bool, true, false, cond, List, [], ◌∷◌, ◌++◌, map, Option, Some, None, refl, sym, ap, subst, ◌∙◌, arith}
use Rattle.std.proofs.Common.{true≢false}
use Rattle.std.specs.Prelude.{Ok}
use Rattle.std.specs.List.{AllByRecursion, list_any}
use Rattle.halide_pipeline.specs.declared.definitions.Func.{Func}
use Rattle.halide_pipeline.specs.declared.expressions.Variable.TheVariants as variables
use Rattle.halide_pipeline.specs.Pipelines.{Pipeline}
use Rattle.halide_pipeline.specs.WellFormed.{IsWellFormed}
use Rattle.halide_pipeline.specs.Pixel.{Planes, Reads}
use Rattle.schedule_lines.specs.declared.stages.Loop.{Loop}
use Rattle.schedule_lines.specs.declared.stages.LoopId.{LoopId}
use Rattle.schedule_lines.specs.declared.stages.Mark.{Mark}
use Rattle.schedule_lines.specs.declared.stages.Mark.TheVariants as marks
use Rattle.schedule_lines.specs.declared.stages.Marked.{Marked}
use Rattle.schedule_lines.specs.declared.stages.Stage.{Stage}
use Rattle.schedule_lines.specs.Directives.{find_marked, has_mark, is_marked, same_mark}
use Rattle.schedule.specs.declared.plans.FuncPlan.{FuncPlan}
use Rattle.schedule.specs.declared.schedules.Schedule.{Schedule}
use Rattle.schedule.specs.declared.placements.ComputeLevel.TheVariants as places
use Rattle.schedule.specs.Accepted.{IsAccepted}
use Rattle.schedule_loops.specs.declared.extents.Extents.{Extents}
use Rattle.schedule_loops.specs.Visits as loops
use Rattle.schedule_loops.specs.Visits.{parallel, visits_in, iteration_count, count_of, owns, Visit, zeros, visit_of, is_slice}
use Rattle.schedule_loops.specs.Reach.{wholes}
use Rattle.schedule_loops.specs.Runs.{AreIterations, is_vectorized_loop, iterations_of, is_vectorized_first}
use Rattle.schedule_loops.specs.Stages.{IsStageOf, KeepsRules, IsVisitOf}
use Rattle.bounds.specs.declared.boxes.SourceBox.{SourceBox}
use Rattle.bounds.specs.declared.verdict.Boxes.{Boxes}
use Rattle.bounds.specs.Verdict.{inferred}
use Rattle.bounds.specs.Extents.{extents_of}
use Rattle.loop_ir.specs.declared.expressions.Counter.{Counter}
use Rattle.loop_ir.specs.declared.statements.Phase.{Phase}
use Rattle.loop_ir.specs.declared.statements.Stmt.{Stmt}
use Rattle.loop_ir.specs.Buffers.{Points}
use Rattle.loop_ir.specs.Counters.{Values}
use Rattle.loop_ir.specs.Running.{task_values}
use Rattle.loop_ir.specs.Runs.{stores_in_runs}
use Rattle.loop_ir.specs.Stores.{is_stored_by, is_stored_by_task}
use Rattle.lowering_nests.specs.Nests.{AreSmall}
use Rattle.lowering_nests.specs.LoopLanes.{IsLeaf}
use Rattle.lowering_nests.proofs.Few.{iterations_few}
use Rattle.lowering_nests.proofs.LoopLanes.{iterations_more}
use Rattle.lowering.specs.Consuming.{HasLoops, HasOutermost, IsBody, consuming}
use Rattle.lowering.specs.Planes.{box_points}
use Rattle.lowering.specs.PurePhases.{IsStoreOf, inside_of, counter_of}
use Rattle.bounds.specs.Stages.{IsAtRoot}
use Rattle.lowering.specs.Runs.{StoresInRuns, is_in_run}
use Rattle.lowering.specs.Stored.{StoresItsOwn}
use Rattle.lowering.proofs.Covered.{parts_of}
use Rattle.lowering.proofs.Facts.{staged, splits, few}
use Rattle.lowering.proofs.Lists.{any_map, all_map}
use Rattle.lowering.proofs.RunConsumers as runs
use Rattle.lowering.proofs.RunLists.{none_begun, one_more}
use Rattle.lowering.proofs.StoredConsumers.{AreWords, is_at}
use Rattle.lowering.proofs.StoredConsumers as consumers
use Rattle.lowering.proofs.TaskLanes.{outside_of, loops_by}
use Rattle.lowering.proofs.Tasks.{in_task_of, listed, before_by, small_by, all_visits}

-- a loop isn't marked twice
not_both : (stage_loop : Loop) → is_marked marks.Vectorized stage_loop ≡ true
    → is_marked marks.Parallel stage_loop ≡ true → ⊥
not_both stage_loop = by_mark stage_loop.marked
  where
    by_one : (mark : Mark) → same_mark mark marks.Vectorized ≡ true → same_mark mark marks.Parallel ≡ true → ⊥
    by_one marks.Unrolled e f = true≢false (sym e)
    by_one marks.Vectorized e f = true≢false (sym f)
    by_one marks.Parallel e f = true≢false (sym e)

    by_mark : (found_marked : Option Marked) → has_mark marks.Vectorized found_marked ≡ true → has_mark marks.Parallel found_marked ≡ true → ⊥
    by_mark None e f = true≢false (sym e)
    by_mark (Some marked) e f = by_one marked.mark e f

-- one loop, which is vectorized, isn't the parallel one
never_parallel : {own : Loop} (first : Loop) → is_vectorized_loop first ≡ true → find_marked marks.Parallel (first ∷ []) ≡ Some own → ⊥
never_parallel {own} first e found = by_test (is_marked marks.Parallel first) refl
  where
    by_test : (b : Bool) → is_marked marks.Parallel first ≡ b → ⊥
    by_test true f = not_both first e f
    by_test false f = let none : None ≡ Some own = sym (ap (λ (b : Bool). cond b (Some first) None) f) ∙ found in cc

module _ (pipeline : Pipeline) (schedule : Schedule) (boxes : Boxes) (rules : IsWellFormed pipeline) (accepted : IsAccepted pipeline schedule)
    (is : inferred pipeline schedule ≡ Ok boxes)
    (func_index : ℕ) (func : Func) (plan : FuncPlan) (source_box : SourceBox) (at : IsAtRoot pipeline schedule boxes func_index func plan source_box)
    (store : Stmt) (store_of : IsStoreOf pipeline schedule boxes places.Root func_index func source_box store)
    (phase : Phase) (tasks_are : phase.tasks ≡ iteration_count (extents_of source_box) plan.pure) (counter_is : phase.counter ≡ counter_of func_index (parallel plan.pure))
    (body : IsBody pipeline schedule boxes func_index plan.pure (extents_of source_box) store phase.body) where
  abbrev extents : Extents
  extents = extents_of source_box

  abbrev stage : Stage
  stage = plan.pure

  abbrev points : Points
  points = box_points boxes.funcs

  facts : IsStageOf func None stage × KeepsRules stage
  facts = staged pipeline schedule boxes func_index func plan source_box accepted is places.Root tt at

  few_values : (visit : Visit) → IsVisitOf func None extents visit → (visit.x < 2 ^ 32) × (visit.y < 2 ^ 32)
  few_values visit v =
      let parts = parts_of pipeline schedule boxes rules accepted is places.Root func_index func plan source_box tt at
      visit v in
      let first = few pipeline schedule boxes func_index func plan source_box accepted is places.Root tt at variables.FirstArgument in
      let second = few pipeline schedule boxes func_index func plan source_box accepted is places.Root tt at variables.SecondArgument in
      (omega (arith, parts.0, first), omega (arith, parts.1, second))

  module _ (inputs : Planes) (number : ℕ) (below : number < phase.tasks) (x y : ℕ) where
    abbrev in_task : Option Loop → loops.Values
    in_task stage_loop = in_task_of func extents stage facts.0 facts.1 func_index stage_loop number

    abbrev list : Option Loop → List loops.Values
    list stage_loop = wholes extents stage.splits (inside_of stage_loop stage.loops) (in_task stage_loop)

    below_count : number < iteration_count extents stage
    below_count = subst (λ (n : ℕ). number < n) tasks_are below

    visits_are : visits_in extents stage number ≡ map (visit_of extents) (list (parallel stage))
    visits_are = listed func extents stage facts.0 facts.1 func_index (parallel stage) refl number below_count

    words : AllByRecursion AreWords (list (parallel stage))
    words =
        all_map (IsVisitOf func None extents) AreWords (visit_of extents) (λ inner v. few_values (visit_of extents inner) v) (list (parallel stage))
        (subst (λ (l : List Visit). AllByRecursion (IsVisitOf func None extents) l) visits_are (all_visits func extents stage facts.0 facts.1 func_index number
        below_count))

    owned_is : owns extents stage number x y ≡ list_any (is_at x y) (list (parallel stage))
    owned_is = ap (list_any (is_slice x y)) visits_are ∙ any_map (is_slice x y) (visit_of extents) (list (parallel stage))

    small : (stage_loop : Option Loop) → number < count_of (loops.counts extents stage.splits) stage_loop → AreSmall (in_task stage_loop)
    small stage_loop l =
        small_by func extents stage facts.0 facts.1 func_index (few pipeline schedule boxes func_index func plan source_box accepted is places.Root tt at)
        (splits pipeline schedule boxes func_index func plan source_box accepted is places.Root tt at) stage_loop number
        l

    abbrev Told : Option Loop → Stmt → Type 0
    Told stage_loop statement = consumers.Told pipeline schedule boxes accepted points inputs func_index x y statement (in_task stage_loop) (list_any (is_at x y) (list stage_loop))

    inner_tells : (stage_loop : Option Loop) → parallel stage ≡ stage_loop → number < count_of (loops.counts extents stage.splits) stage_loop
        → AllByRecursion AreWords (list stage_loop) → Told stage_loop body.inner
    inner_tells stage_loop e l words_so =
        consumers.loops_tell pipeline schedule boxes accepted points inputs func_index x y extents stage.splits (few pipeline schedule boxes func_index func plan source_box
        accepted is places.Root tt at)
        (splits pipeline schedule boxes func_index func plan source_box accepted is places.Root tt at) store store_of.hits body.leaf body.bound
        (inside_of stage_loop stage.loops) body.inner
        (subst (λ (o : Option Loop). HasLoops pipeline schedule boxes func_index (loops.counts extents stage.splits) body.leaf (inside_of o stage.loops) body.inner)
        e body.looped) (in_task stage_loop) (small stage_loop l) words_so

    told_by : (stage_loop : Option Loop) (statement : Stmt) → HasOutermost pipeline schedule boxes func_index stage_loop body.inner statement → Told stage_loop body.inner → Told stage_loop statement
    told_by None statement same told = subst (Told None) (sym same) told
    told_by (Some loop) statement nested told =
        consumers.nests pipeline schedule boxes accepted points inputs func_index x y (record { func = func_index; inside = loop.id }) refl (in_task (Some loop)) 0
        body.inner statement nested (list_any (is_at x y) (list (Some loop))) told

    task_stores : (funcs : Planes) → is_stored_by_task points inputs phase number func_index x y funcs ≡ owns extents stage number x y
    task_stores funcs =
        ap (λ (c : Option Counter). is_stored_by points inputs func_index x y phase.body (task_values c number) funcs) counter_is
        ∙ ap (λ (v : Values). is_stored_by points inputs func_index x y phase.body v funcs) (before_by func extents stage facts.0 facts.1 func_index (parallel stage)
        number)
        ∙ told_by (parallel stage) phase.body body.begun (inner_tells (parallel stage) refl below_count words) (record { funcs = funcs; is_stored = false })
        ∙ sym owned_is

  pub stores_its_own : StoresItsOwn boxes func_index (owns extents stage) phase
  stores_its_own inputs funcs number below x y = task_stores inputs number below x y funcs

  -- ---- by runs of its vectorized loop

  module _ (store_is : IsLeaf store) (first : is_vectorized_first stage.loops ≡ true) (number : ℕ) (below : number < phase.tasks) (reads : Reads) (x y : ℕ)
    where
      unread : Planes
      unread func_index x y = 0

      abbrev now : Option Loop → loops.Values
      now stage_loop = in_task_of func extents stage facts.0 facts.1 func_index stage_loop number

      few_so : (id : LoopId) → loops.counts extents stage.splits id < 2 ^ 25
      few_so id =
          iterations_few extents stage.splits (few pipeline schedule boxes func_index func plan source_box accepted is places.Root tt at) (splits pipeline schedule boxes func_index
          func plan source_box accepted is places.Root tt at) id

      -- a task is an iteration of the parallel loop
      task_iterations : (stage_loop : Option Loop) → number < count_of (loops.counts extents stage.splits) stage_loop
          → AreIterations (loops.counts extents stage.splits) (outside_of func_index extents stage facts.1 stage_loop)
          (now stage_loop)
      task_iterations None l = tt
      task_iterations (Some source_box) l = iterations_more (loops.counts extents stage.splits) source_box number l []
          zeros tt

      -- and no other loop has begun
      task_alone : (stage_loop : Option Loop) → now stage_loop ≡ iterations_of (outside_of func_index extents stage facts.1 stage_loop) (now stage_loop)
      task_alone None = none_begun zeros
      task_alone (Some source_box) = ap (loops.with source_box.id number) (none_begun zeros) ∙ one_more source_box []
          number zeros

      inside_first : (stage_loop : Option Loop) → parallel stage ≡ stage_loop → is_vectorized_first (inside_of stage_loop stage.loops) ≡ true
      inside_first stage_loop e = by_lists stage_loop (inside_of stage_loop stage.loops) e (loops_by func_index extents stage facts.1 stage_loop e)
        where
          by_lists : (stage_loop : Option Loop) (inside : List Loop) → parallel stage ≡ stage_loop → stage.loops ≡ inside ++ outside_of func_index extents stage facts.1 stage_loop
              → is_vectorized_first inside ≡ true
          by_lists stage_loop (one ∷ inside) e loops_are = subst (λ (ls : List Loop). is_vectorized_first ls ≡ true) loops_are first
          by_lists None [] e loops_are = absurd (true≢false (sym first ∙ ap is_vectorized_first loops_are))
          by_lists (Some source_box) [] e loops_are =
              absurd (never_parallel source_box (subst (λ (ls : List Loop). is_vectorized_first ls ≡ true) loops_are
              first)
              (subst (λ (ls : List Loop). find_marked marks.Parallel ls ≡ Some source_box) loops_are e))

      run_by : (stage_loop : Option Loop) → parallel stage ≡ stage_loop → number < count_of (loops.counts extents stage.splits) stage_loop
          → AllByRecursion AreWords (wholes extents stage.splits (inside_of stage_loop stage.loops) (now stage_loop))
          → HasOutermost pipeline schedule boxes func_index stage_loop body.inner phase.body
          → stores_in_runs reads func_index x y (is_in_run extents stage func_index x y) phase.body
          (consuming func_index (now stage_loop)) ≡ true
      run_by stage_loop e l words_so begun =
          runs.begun_runs pipeline schedule boxes accepted reads func_index x y func plan at.plan_is extents facts.0 facts.1 few_so store store_of.misses body.leaf
          body.bound store_is (body.leaf_is store_is) stage_loop body.inner phase.body begun (now stage_loop)
          (runs.loops_run pipeline schedule boxes accepted reads func_index x y func plan at.plan_is extents facts.0 facts.1 few_so store store_of.misses body.leaf
          body.bound store_is (body.leaf_is store_is) (inside_of stage_loop stage.loops) body.inner
          (subst (λ (o : Option Loop). HasLoops pipeline schedule boxes func_index (loops.counts extents stage.splits) body.leaf (inside_of o stage.loops)
          body.inner)
          e body.looped)
          (outside_of func_index extents stage facts.1 stage_loop) (loops_by func_index extents stage facts.1 stage_loop e) (inside_first stage_loop e) (now stage_loop)
          (small unread number below x y stage_loop l)
          (task_iterations stage_loop l) (task_alone stage_loop) words_so)

      task_runs : stores_in_runs reads func_index x y (is_in_run extents stage func_index x y) phase.body (task_values phase.counter number) ≡ true
      task_runs =
          ap (λ (c : Option Counter). stores_in_runs reads func_index x y (is_in_run extents stage func_index x y) phase.body (task_values c number)) counter_is
          ∙ ap (stores_in_runs reads func_index x y (is_in_run extents stage func_index x y) phase.body) (before_by func extents stage facts.0 facts.1 func_index
          (parallel stage) number)
          ∙ run_by (parallel stage) refl (below_count unread number below x y) (words unread number below x y) body.begun

  pub stores_in_its_runs : IsLeaf store → StoresInRuns func_index extents stage phase
  stores_in_its_runs store_is first number below reads x y = task_runs store_is first number below reads x y
