-- Tasks of a pure definition: each leaves its pixels at the points that its iteration visits.
use Rattle.std.specs.Prelude.{◌==◌, nat_lt, slice_get, Ok}
use Rattle.std.specs.List.{AllByRecursion, list_any}
use Rattle.halide_pipeline.specs.declared.definitions.Func.{Func}
use Rattle.halide_pipeline.specs.Pipelines.{Pipeline}
use Rattle.halide_pipeline.specs.WellFormed.{IsWellFormed}
use Rattle.halide_pipeline.specs.Words as word
use Rattle.halide_pipeline.specs.Pixel.{Plane, Planes, reads_of, pixels, variable, at_point, pure_plane}
use Rattle.schedule_lines.specs.declared.stages.Loop.{Loop}
use Rattle.schedule_lines.specs.declared.stages.Stage.{Stage}
use Rattle.schedule.specs.declared.plans.FuncPlan.{FuncPlan}
use Rattle.schedule.specs.declared.schedules.Schedule.{Schedule}
use Rattle.schedule.specs.Accepted.{IsAccepted}
use Rattle.schedule_loops.specs.declared.extents.Extents.{Extents}
use Rattle.schedule_loops.specs.Visits.{AreSplits, counts, Visit, nest, over_loops, zeros, visit_of, visits, slice, is_slice, parallel, is_iteration_of, visits_in}
use Rattle.schedule_loops.specs.Visits.{iteration_count, count_of, owns}
use Rattle.schedule_loops.specs.Visits as loops
use Rattle.schedule_loops.specs.Reach.{wholes}
use Rattle.schedule_loops.specs.Stages.{IsStageOf, KeepsRules, IsVisitOf, is_slice_of}
use Rattle.schedule_loops.proofs.Covering.{visited}
use Rattle.schedule_loops.proofs.Parallel.{outermost, iteration_visits, all_iterations, slice_owner}
use Rattle.schedule_loops.proofs.Slices.{visits_within}
use Rattle.schedule_loops.proofs.Wholes.{visits_of_wholes}
use Rattle.bounds_ranges.specs.Laws.{AnswerWords}
use Rattle.bounds.specs.declared.boxes.SourceBox.{SourceBox}
use Rattle.bounds.specs.declared.verdict.Boxes.{Boxes}
use Rattle.bounds.specs.Boxes.{no_loops}
use Rattle.bounds.specs.Extents.{box_in, extent, extents_of, word_at, corner_of}
use Rattle.bounds.specs.Verdict.{inferred}
use Rattle.loop_ir.specs.declared.expressions.Counter.{Counter}
use Rattle.loop_ir.specs.declared.statements.Phase.{Phase}
use Rattle.loop_ir.specs.declared.statements.Stmt.{Stmt}
use Rattle.loop_ir.specs.Running.{run, task_values, run_task}
use Rattle.lowering_nests.proofs.Few.{iterations_few}
use Rattle.lowering.specs.Phases.{Hold, DoesTask, DoesPhase}
use Rattle.std.proofs.Common.{◌≡◌, ℕ, suc, ◌-◌, ◌<◌, ◌≤◌, Bool, true, false, cond, List, [], ◌∷◌, ◌++◌, length, take, map, Option, Some, None, refl, sym, ap}
use Rattle.std.proofs.Common.{subst, ◌∙◌, arith, inl, inr, true≢false, append-nil, length-append}
use Rattle.std.proofs.lemmas.Bool.{and_parts, and_from, lt-ltb, eq-eqb, ne_eqb, eqb-true, cases_eq}
use Rattle.halide_pipeline.specs.Pixel as pixel
use Rattle.schedule.specs.declared.placements.ComputeLevel.TheVariants as places
use Rattle.schedule_loops.specs.Runs.{AreIterations}
use Rattle.schedule_loops.proofs.Ids.{with_same}
use Rattle.schedule_loops.proofs.IterationsFound.{of_all}
use Rattle.loop_ir.specs.Counters.{Values, with}
use Rattle.lowering_nests.specs.Nests.{AreFew, AreSmall}
use Rattle.lowering.specs.Corners.{first_of}
use Rattle.lowering.specs.Consuming.{consuming, HasOutermost, IsBody}
use Rattle.lowering.specs.Planes.{held, box_points, with_pure}
use Rattle.lowering.specs.PurePhases.{ProducedArePrivate, RootsAreShared, IsStoreOf, inside_of, counter_of}
use Rattle.bounds.specs.Stages.{IsAtRoot}
use Rattle.lowering.proofs.Covered.{parts_of, point_there, slice_there}
use Rattle.lowering.proofs.Facts.{staged, splits, fits, few}
use Rattle.lowering.proofs.Consumers as consumers
use Rattle.lowering.proofs.Lists.{any_map, all_map, any_gives, none_passes, none_kept, none_upto, all_upto, before_last}
use Rattle.lowering.proofs.LoopIterations.{consuming_none, consuming_with, small_with}
use Rattle.lowering.proofs.Offsets.{first_none}

-- ---- a task's iteration

module _ (func : Func) (extents : Extents) (stage : Stage) (stage_is : IsStageOf func None stage) (legal : KeepsRules stage) (func_index : ℕ) where
  -- the iteration of the parallel loop, where there is one
  abbrev pub in_task_of : Option Loop → ℕ → loops.Values
  in_task_of None number = zeros
  in_task_of (Some stage_loop) number = loops.with stage_loop.id number zeros

  -- the loops inside the last one
  pub inside_last : (stage_loop : Loop) (inside : List Loop) → stage.loops ≡ inside ++ stage_loop ∷ [] → inside_of (Some stage_loop) stage.loops ≡ inside
  inside_last stage_loop inside is = ap (λ (ls : List Loop). take (length ls - 1) ls) is ∙ before_last inside stage_loop

  pub listed : (marked_loop : Option Loop) → parallel stage ≡ marked_loop → (number : ℕ) → number < count_of (counts extents stage.splits) marked_loop
      → visits_in extents stage number ≡ map (visit_of extents) (wholes extents stage.splits (inside_of marked_loop stage.loops) (in_task_of marked_loop number))
  listed None is number l =
      let first : number ≡ 0 = omega (arith, l) in
      ap (visits_in extents stage) first
      ∙ ap (λ (p : Option Loop). nest (counts extents stage.splits) stage.loops (λ values. cond (is_iteration_of p 0 values) (over_loops extents stage.splits
      (λ whole. visit_of extents whole ∷ []) values) []) zeros) is
      ∙ visits_of_wholes extents stage.splits stage.loops zeros
  listed (Some stage_loop) is number l =
      let o = outermost stage stage_loop legal is in
      let iterations = loops.with stage_loop.id number zeros in
      iteration_visits func None extents stage o.last.inside stage_loop stage_is o.last.loops_are is number l
      ∙ visits_of_wholes extents stage.splits o.last.inside iterations
      ∙ ap (λ (ls : List Loop). map (visit_of extents) (wholes extents stage.splits ls iterations)) (sym (inside_last stage_loop o.last.inside o.last.loops_are))

  -- what counters stand at before a task
  pub before_by : (marked_loop : Option Loop) (number : ℕ) → task_values (counter_of func_index marked_loop) number ≡ consuming func_index (in_task_of marked_loop number)
  before_by None number = consuming_none func_index
  before_by (Some loop) number = ap (with (record { func = func_index; id = loop.id }) number) (consuming_none func_index) ∙ consuming_with func_index loop.id number zeros

  pub small_by : AreFew extents → AreSplits stage.splits → (marked_loop : Option Loop) (number : ℕ) → number < count_of (counts extents stage.splits) marked_loop
      → AreSmall (in_task_of marked_loop number)
  small_by few_so splits_so None number l = λ id. omega arith
  small_by few_so splits_so (Some loop) number l = small_with loop.id number zeros (omega (arith, l, iterations_few extents stage.splits few_so splits_so loop.id))
      (λ id. omega arith)

  pub all_visits : (number : ℕ) → number < iteration_count extents stage → AllByRecursion (IsVisitOf func None extents) (visits_in extents stage number)
  all_visits number l =
      all_upto (IsVisitOf func None extents) (visits_in extents stage) (iteration_count extents stage)
      (subst (λ (v : List Visit). AllByRecursion (IsVisitOf func None extents) v) (all_iterations func None extents stage stage_is legal)
      (visits_within func None extents stage stage_is)) number l

  owned_slice : (number : ℕ) → number < iteration_count extents stage → (x y : ℕ) → owns extents stage number x y ≡ true
      → is_slice_of func None extents x y ≡ true
  owned_slice number l x y e =
      any_gives (IsVisitOf func None extents) (is_slice_of func None extents x y ≡ true) (is_slice x y)
      (λ visit is here.
      let p = and_parts (visit.x == x) (visit.y == y) here in
      ap (λ (n : ℕ). is_slice_of func None extents n y) (sym (eqb-true visit.x x p.0))
      ∙ ap (λ (n : ℕ). is_slice_of func None extents visit.x n) (sym (eqb-true visit.y y p.1)) ∙ is.slice)
      (visits_in extents stage number) (all_visits number l) e

  owner_is : (first owner x y : ℕ) → first < iteration_count extents stage → ((n : ℕ) → n < iteration_count extents stage → (n ≡ owner → ⊥)
      → slice x y (visits_in extents stage n) ≡ []) → owns extents stage first x y ≡ true → first ≡ owner
  owner_is first owner x y l no_other e = elim (cases_eq first owner) [
    | inl same ↦ same
    | inr other ↦ absurd (true≢false (sym e ∙ none_kept (is_slice x y) (visits_in extents stage first) (no_other first l other)))
  ]

  one_owner : (x y first second : ℕ) → first < iteration_count extents stage → second < iteration_count extents stage → owns extents stage first x y ≡ true
      → owns extents stage second x y ≡ true → first ≡ second
  one_owner x y first second lf ls ef es =
      let h = slice_owner func None extents stage stage_is legal x y (owned_slice first lf x y ef) in
      owner_is first h.owner x y lf h.no_other ef ∙ sym (owner_is second h.owner x y ls h.no_other es)

  -- each point is owned
  pub some_owner : loops.shifts_fit extents stage.splits ≡ true → (x y : ℕ) → is_slice_of func None extents x y ≡ true
      → ((number : ℕ) → number < iteration_count extents stage → owns extents stage number x y ≡ false) → ⊥
  some_owner fit x y there none =
      let contains = visited func extents x y there stage stage_is fit in
      let never : list_any (is_slice x y) (visits extents stage) ≡ false =
      ap (list_any (is_slice x y)) (all_iterations func None extents stage stage_is legal)
      ∙ none_upto (is_slice x y) (visits_in extents stage) (iteration_count extents stage) none in
      let not_here = of_all (λ (v : Visit). is_slice x y v ≡ false) (visits extents stage) (none_passes (is_slice x y) (visits extents stage) never)
      (record { x = x; y = y; number = 0 }) contains in
      true≢false (sym (and_from (x == x) (y == y) (eq-eqb x x refl) (eq-eqb y y refl)) ∙ not_here)

module _ (pipeline : Pipeline) (schedule : Schedule) (boxes : Boxes) (rules : IsWellFormed pipeline) (accepted : IsAccepted pipeline schedule)
    (is : inferred pipeline schedule ≡ Ok boxes)
    (func_index : ℕ) (func : Func) (plan : FuncPlan) (source_box : SourceBox) (at : IsAtRoot pipeline schedule boxes func_index func plan source_box)
    (store : Stmt) (store_of : IsStoreOf pipeline schedule boxes places.Root func_index func source_box store)
    (phase : Phase) (tasks_are : phase.tasks ≡ iteration_count (extents_of source_box) plan.pure) (counter_is : phase.counter ≡ counter_of func_index (parallel plan.pure))
    (body : IsBody pipeline schedule boxes func_index plan.pure (extents_of source_box) store phase.body)
    (is_private : ℕ → Bool) (shared : RootsAreShared schedule.standings is_private) (produced_private : ProducedArePrivate schedule.standings is_private func_index)
    (inputs : Planes) (begun : AnswerWords pipeline.inputs (reads_of inputs (pixels pipeline.funcs inputs 0))) where
  abbrev extents : Extents
  extents = extents_of source_box

  abbrev stage : Stage
  stage = plan.pure

  abbrev points : ℕ → ℕ → ℕ → Bool
  points = box_points boxes.funcs

  abbrev start : Planes
  start = held boxes.funcs (pixels pipeline.funcs inputs func_index)

  abbrev result : Planes
  result = held boxes.funcs (with_pure pipeline.funcs inputs func_index func)

  abbrev pure : Plane
  pure = pure_plane func.pure inputs (pixels pipeline.funcs inputs func_index)

  stage_facts : IsStageOf func None stage × KeepsRules stage
  stage_facts = staged pipeline schedule boxes func_index func plan source_box accepted is places.Root tt at

  -- ---- planes

  abbrev plane : Plane
  plane = consumers.plane pipeline schedule boxes rules accepted is func_index func plan source_box at inputs begun
      store store_of

  abbrev hits : ℕ → ℕ → loops.Values → Bool
  hits = consumers.hits pipeline schedule boxes rules accepted is func_index func plan source_box at inputs begun store
      store_of

  result_own : (x y : ℕ) → result func_index x y ≡ pure (word.add (word_at source_box.x.low) x)
      (word.add (word_at source_box.y.low) y)
  result_own x y = rw at.box_is (rw (eq-eqb func_index func_index refl) refl)

  plane_is : (x y : ℕ) → plane x y ≡ result func_index x y
  unfolding pixel.stage
  plane_is x y =
      ap (λ (n : ℕ). pure (word.add n x) (word.add (first_of source_box.y no_loops) y)) (first_none source_box.x)
      ∙ ap (λ (n : ℕ). pure (word.add (word_at source_box.x.low) x) (word.add n y)) (first_none source_box.y) ∙ sym
      (result_own x y)

  result_other : (other x y : ℕ) → (other ≡ func_index → ⊥) → result other x y ≡ start other x y
  result_other other x y d =
      let corner = corner_of (box_in (slice_get boxes.funcs other)) in
      ap (λ (b : Bool). cond b pure (pixels pipeline.funcs inputs func_index other) (word.add corner.x x) (word.add corner.y y)) (ne_eqb other func_index d)

  -- ---- a task

  module _ (number : ℕ) (below : number < phase.tasks) where
    abbrev in_task : loops.Values
    in_task = in_task_of func extents stage stage_facts.0 stage_facts.1 func_index (parallel stage) number

    abbrev list : List loops.Values
    list = wholes extents stage.splits (inside_of (parallel stage) stage.loops) in_task

    below_count : number < iteration_count extents stage
    below_count = subst (λ (n : ℕ). number < n) tasks_are below

    visits_are : visits_in extents stage number ≡ map (visit_of extents) list
    visits_are = listed func extents stage stage_facts.0 stage_facts.1 func_index (parallel stage) refl number
        below_count

    ran : (funcs : Planes) → run_task points inputs phase number funcs ≡ run points inputs phase.body (consuming func_index in_task) funcs
    ran funcs =
        ap (λ (c : Option Counter). run points inputs phase.body (task_values c number) funcs) counter_is
        ∙ ap (λ (v : Values). run points inputs phase.body v funcs) (before_by func extents stage stage_facts.0 stage_facts.1 func_index (parallel stage) number)

    abbrev IsVisited : loops.Values → Type 0
    IsVisited inner = IsVisitOf func None extents (visit_of extents inner)

    all_visited : AllByRecursion IsVisited list
    all_visited =
        all_map (IsVisitOf func None extents) IsVisited (visit_of extents) (λ inner v. v) list
        (subst (λ (l : List Visit). AllByRecursion (IsVisitOf func None extents) l) visits_are (all_visits func extents stage stage_facts.0 stage_facts.1 func_index
        number below_count))

    owned_is : (x y : ℕ) → owns extents stage number x y ≡ list_any (hits x y) list
    owned_is x y = ap (list_any (is_slice x y)) visits_are ∙ any_map (is_slice x y) (visit_of extents) list

    module _ (funcs : Planes) (hold : Hold points is_private func_index (owns extents stage number) start funcs) where
      abbrev State : ℕ → loops.Values → Planes → Type 0
      State = consumers.State pipeline schedule boxes rules accepted is func_index func plan source_box at inputs begun

      -- no Func at a loop has its pixels yet
      begins : (inner : ℕ) → length stage.loops ≤ inner → (values : loops.Values) → State inner values funcs
      begins inner most values = record {
        shared = λ k standing before there root box box_is x y lx ly.
            let inside : points k x y ≡ true = rw box_is (and_from (nat_lt x (extent box.x)) (nat_lt y (extent box.y)) (lt-ltb x (extent box.x) lx)
            (lt-ltb y (extent box.y) ly)) in
            let held_so : start k x y ≡ pixels pipeline.funcs inputs func_index k (word.add (word_at box.x.low) x) (word.add (word_at box.y.low) y) =
            rw box_is refl in
            hold k x y (shared k standing there root) inside (λ e. absurd (omega (arith, e, before))) ∙ held_so
            ∙ ap (λ (n : ℕ). pixels pipeline.funcs inputs func_index k (word.add n x) (word.add (word_at box.y.low) y)) (sym (first_none box.x))
            ∙ ap (λ (n : ℕ). pixels pipeline.funcs inputs func_index k (word.add (first_of box.x no_loops) x) (word.add n y)) (sym (first_none box.y));
        produced = λ k loop h further.
            absurd (omega (arith, further, most, consumers.few_inside pipeline schedule boxes rules accepted is func_index func plan source_box at inputs begun k loop h));
      }

      public_outer : (inner k : ℕ) → is_private k ≡ false → consumers.IsOuter pipeline schedule boxes rules accepted is func_index func plan source_box at inputs begun
          inner k
      public_outer inner k public_so loop h = absurd (true≢false (sym (produced_private k h.standing loop h.there h.placed_is h.same) ∙ public_so))

      record Done (list : List loops.Values) (after : Planes) : Type 0 where
        there : (x y : ℕ) → list_any (hits x y) list ≡ true → after func_index x y ≡ plane x y
        keeps : (k x y : ℕ) → is_private k ≡ false → (k ≡ func_index → list_any (hits x y) list ≡ false) → after k x y ≡ funcs k x y

      abbrev DoesLoops : List Loop → Stmt → Type 0
      DoesLoops = consumers.DoesLoops pipeline schedule boxes rules accepted is func_index func plan source_box at inputs begun store store_of

      inner_does : DoesLoops (inside_of (parallel stage) stage.loops) body.inner
      inner_does = consumers.all_loops pipeline schedule boxes rules accepted is func_index func plan source_box at inputs begun store store_of body.leaf body.bound
          (inside_of (parallel stage) stage.loops) body.inner body.looped

      done_by : (stage_loop : Option Loop) → parallel stage ≡ stage_loop → number < count_of (counts extents stage.splits) stage_loop → (inner statement : Stmt)
          → HasOutermost pipeline schedule boxes func_index stage_loop inner statement
          → DoesLoops (inside_of stage_loop stage.loops) inner
          → AllByRecursion IsVisited (wholes extents stage.splits (inside_of stage_loop stage.loops) (in_task_of func extents stage stage_facts.0 stage_facts.1 func_index
          stage_loop number))
          → Done (wholes extents stage.splits (inside_of stage_loop stage.loops) (in_task_of func extents stage stage_facts.0 stage_facts.1 func_index stage_loop number))
          (run points inputs statement (consuming func_index (in_task_of func extents stage stage_facts.0 stage_facts.1 func_index stage_loop number)) funcs)
      done_by None e l inner statement same does visited =
          let d = does [] (sym (append-nil stage.loops)) zeros (small_by func extents stage stage_facts.0 stage_facts.1 func_index (few pipeline schedule boxes func_index
          func plan source_box accepted is places.Root tt at) (splits pipeline schedule boxes func_index func plan source_box accepted is places.Root tt at) None number l) tt
          visited funcs (begins (length stage.loops) (omega arith) zeros) in
          record {
            there = λ x y t. ap (λ (s : Stmt). run points inputs s (consuming func_index zeros) funcs func_index x y) same ∙ d.there x y t;
            keeps = λ k x y public_so free. ap (λ (s : Stmt). run points inputs s (consuming func_index zeros) funcs k x y) same
                ∙ d.keeps k x y (public_outer (length stage.loops) k public_so) free;
          }
      done_by (Some loop) e l inner statement nested does visited =
          let o = outermost stage loop stage_facts.1 e in
          let inside = o.last.inside in
          let same : inside_of (Some loop) stage.loops ≡ inside = inside_last func extents stage stage_facts.0 stage_facts.1 func_index loop inside o.last.loops_are
          in
          let values = loops.with loop.id number zeros in
          let most : length stage.loops ≤ suc (length inside) = omega (arith, ap length o.last.loops_are, length-append inside (loop ∷ [])) in
          let iterations : AreIterations (counts extents stage.splits) (loop ∷ []) values = (
            subst (λ (n : ℕ). n < counts extents stage.splits loop.id)
                (sym (with_same loop.id number zeros)) l,
            tt,
          ) in
          let there = consumers.iteration_there pipeline schedule boxes rules accepted is func_index func plan source_box at inputs begun store store_of inside loop inner statement
          nested (subst (λ (ls : List Loop). DoesLoops ls inner) same does) [] o.last.loops_are
          values (small_by func extents stage stage_facts.0 stage_facts.1 func_index (few pipeline schedule boxes func_index func plan source_box accepted is places.Root tt at)
          (splits pipeline schedule boxes func_index func plan source_box accepted is places.Root tt at) (Some loop) number l) iterations
          (subst (λ (ls : List Loop). AllByRecursion IsVisited (wholes extents stage.splits ls values)) same visited) funcs (begins (suc (length inside))
          most values) in
          let keeps = consumers.iteration_keeps pipeline schedule boxes rules accepted is func_index func plan source_box at inputs begun store store_of inside loop inner statement
          nested (subst (λ (ls : List Loop). DoesLoops ls inner) same does) [] o.last.loops_are
          values (small_by func extents stage stage_facts.0 stage_facts.1 func_index (few pipeline schedule boxes func_index func plan source_box accepted is places.Root tt at)
          (splits pipeline schedule boxes func_index func plan source_box accepted is places.Root tt at) (Some loop) number l) iterations
          (subst (λ (ls : List Loop). AllByRecursion IsVisited (wholes extents stage.splits ls values)) same visited) funcs (begins (suc (length inside))
          most values) in
          subst (λ (ls : List Loop). Done (wholes extents stage.splits ls values) (run points inputs statement (consuming func_index values) funcs)) (sym same)
          (record { there = there; keeps = λ k x y public_so free. keeps k x y (public_outer (suc (length inside)) k public_so) free })

      done : Done list (run points inputs phase.body (consuming func_index in_task) funcs)
      done = done_by (parallel stage) refl below_count body.inner phase.body body.begun inner_does all_visited

      task_does : (x y : ℕ) → owns extents stage number x y ≡ true → run_task points inputs phase number funcs func_index x y ≡ result func_index x y
      task_does x y e = ap (λ (f : Planes). f func_index x y) (ran funcs) ∙ done.there x y (sym (owned_is x y) ∙ e) ∙ plane_is x y

      task_keeps : (other x y : ℕ) → is_private other ≡ false → (other ≡ func_index
          → owns extents stage number x y ≡ false)
          → run_task points inputs phase number funcs other x y ≡ funcs other x y
      task_keeps other x y public_so free = ap (λ (f : Planes). f other x y) (ran funcs) ∙ done.keeps other x y public_so (λ e. sym (owned_is x y) ∙ free e)

    owned_there : (x y : ℕ) → owns extents stage number x y ≡ true → points func_index x y ≡ true
    owned_there x y e =
        any_gives (IsVisitOf func None extents) (points func_index x y ≡ true) (is_slice x y)
        (λ visit v here.
        let p = and_parts (visit.x == x) (visit.y == y) here in
        let l = parts_of pipeline schedule boxes rules accepted is places.Root func_index func plan source_box tt at
        visit v in
        ap (λ (n : ℕ). points func_index n y) (sym (eqb-true visit.x x p.0)) ∙ ap (λ (n : ℕ). points func_index visit.x n) (sym (eqb-true visit.y y p.1))
        ∙ point_there pipeline schedule boxes rules accepted is places.Root func_index func plan source_box tt at visit.x visit.y l.0 l.1)
        (visits_in extents stage number) (all_visits func extents stage stage_facts.0 stage_facts.1 func_index number below_count) e

    task : DoesTask points is_private func_index start result (owns extents stage number) (run_task points inputs phase number)
    task = record { there = owned_there; does = task_does; keeps = task_keeps }

  -- ---- all tasks

  in_count : (number : ℕ) → number < phase.tasks → number < iteration_count extents stage
  in_count number l = subst (λ (n : ℕ). number < n) tasks_are l

  pub does_phase : DoesPhase points is_private func_index start result phase.tasks (owns extents stage) (run_task points inputs phase)
  does_phase = record {
    not_private = shared func_index at.standing at.there at.placed_is;
    each = task;
    one_owner = λ x y first second lf ls ef es. one_owner func extents stage stage_facts.0 stage_facts.1 func_index x y first second (in_count first lf)
        (in_count second ls) ef es;
    unowned = λ x y there none.
        absurd (some_owner func extents stage stage_facts.0 stage_facts.1 func_index (fits pipeline schedule boxes func_index func plan source_box accepted is places.Root tt at)
        x y
        (slice_there pipeline schedule boxes rules accepted is places.Root func_index func plan source_box tt at x y
        there)
        (λ number l. none number (subst (λ (n : ℕ). number < n) (sym tasks_are) l)));
    others = result_other;
  }
