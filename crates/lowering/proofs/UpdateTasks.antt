-- Tasks of an update: each leaves what is after it in the slices that its iteration visits.
use Rattle.std.proofs.Common.{◌≡◌, ℕ, suc, ◌-◌, ◌*◌, ◌^◌, ◌<◌, ◌≤◌, Bool, true, false, cond, List, [], ◌∷◌, map, length, take, Option, Some, None, refl, sym}
use Rattle.std.proofs.Common.{ap, subst, ◌∙◌, arith}
use Rattle.std.specs.Prelude.{◌&&◌, ◌==◌, slice_get, Ok}
use Rattle.std.specs.List.{AllByRecursion, list_any}
use Rattle.std.proofs.lemmas.Bool.{and_parts, and_from, eq-eqb, ne_eqb}
use Rattle.halide_pipeline.specs.declared.definitions.Func.{Func}
use Rattle.halide_pipeline.specs.declared.definitions.Update.{Update}
use Rattle.halide_pipeline.specs.declared.expressions.Source.TheVariants as sources
use Rattle.halide_pipeline.specs.declared.expressions.Variable.TheVariants as variables
use Rattle.halide_pipeline.specs.WellFormed.{is_first_in_place, is_second_in_place, IsWellFormed}
use Rattle.halide_pipeline.specs.Pipelines.{Pipeline}
use Rattle.halide_pipeline.specs.Words as word
use Rattle.halide_pipeline.specs.Pixel.{Plane, Planes, Reads, reads_of, with_plane, pixels, points, second_extent}
use Rattle.halide_pipeline.specs.Points.{Point}
use Rattle.halide_pipeline.specs.Pixel as meaning
use Rattle.schedule_lines.specs.declared.stages.Loop.{Loop}
use Rattle.schedule_lines.specs.declared.stages.LoopId.TheVariants as ids
use Rattle.schedule_lines.specs.declared.stages.Stage.{Stage}
use Rattle.schedule.specs.declared.plans.FuncPlan.{FuncPlan}
use Rattle.schedule.specs.declared.schedules.Schedule.{Schedule}
use Rattle.schedule.specs.declared.placements.LoopPosition.{LoopPosition}
use Rattle.schedule.specs.declared.placements.ComputeLevel.{ComputeLevel}
use Rattle.schedule.specs.declared.placements.ComputeLevel.TheVariants as places
use Rattle.schedule.specs.Accepted.{IsAccepted}
use Rattle.schedule_loops.specs.declared.extents.Extents.{Extents}
use Rattle.schedule_loops.specs.Visits.{counts, Visit, visit_of, slice, rising, parallel, visits_in, iteration_count, count_of}
use Rattle.schedule_loops.specs.Visits as loops
use Rattle.schedule_loops.specs.Reach.{wholes}
use Rattle.schedule_loops.specs.Stages.{IsStageOf, KeepsRules, IsVisitOf, points_of}
use Rattle.std.proofs.Math.Nat.{mul-le-mul}
use Rattle.std.proofs.lemmas.List.{append-nil}
use Rattle.schedule_loops.proofs.Bounded.{within}
use Rattle.schedule_loops.proofs.Ids.{same_id-self}
use Rattle.schedule_loops.proofs.Parallel.{outermost}
use Rattle.bounds_ranges.specs.Laws.{Below, AnswerWords}
use Rattle.bounds_ranges.specs.Ranges.{IsFit}
use Rattle.bounds.specs.declared.boxes.SourceBox.{SourceBox}
use Rattle.bounds.specs.declared.verdict.Boxes.{Boxes}
use Rattle.bounds.specs.Boxes.{IsBox, no_loops, lasts_of}
use Rattle.bounds.specs.Extents.{box_in, update_extents, BoxCorner, word_at, corner_of}
use Rattle.bounds.specs.Verdict.{inferred}
use Rattle.bounds_laws.specs.Callers.{IsReadWithin}
use Rattle.bounds_laws.specs.ConsumerLaws.{IsFrom}
use Rattle.bounds_laws.specs.Laws.{IsComputed, consumer_in, values_for}
use Rattle.bounds_laws.proofs.Found.{no_below}
use Rattle.loop_ir.specs.declared.expressions.Counter.{Counter}
use Rattle.loop_ir.specs.declared.statements.Phase.{Phase}
use Rattle.loop_ir.specs.declared.statements.Stmt.{Stmt}
use Rattle.loop_ir.specs.Buffers.{Points}
use Rattle.loop_ir.specs.Counters.{Values}
use Rattle.loop_ir.specs.Running.{run, task_values, run_task}
use Rattle.loop_ir.specs.Soundness.{is_sound}
use Rattle.loop_ir.specs.Stores.{Trace, is_stored_by, is_stored_by_task}
use Rattle.lowering_nests.specs.Nests.{loops_of, put_loops, all, AreSmall, Repeats}
use Rattle.lowering_nests.proofs.Few.{iterations_few}
use Rattle.schedule_lines.specs.Directives.{same_id}
use Rattle.lowering_expressions.specs.Lowering.{placed, place as place_in}
use Rattle.lowering.specs.Phases.{Hold, DoesTask, DoesPhase}
use Rattle.lowering.specs.Planes.{held, has_point, box_points}
use Rattle.lowering.specs.PurePhases.{inside_of, counter_of}
use Rattle.bounds.specs.Stages.{IsAtRoot, named_point, is_point, names}
use Rattle.lowering.specs.Stages.{is_private, after_stages}
use Rattle.lowering.specs.Touching.{may_write, may_load, TouchesItsOwn}
use Rattle.lowering.specs.Updates.{IsUpdateAt, IsUpdateStoreOf, LoadsOthers, in_place, is_visited, owns_update, IsBegin, IsCornerAt, ReadsPixels, consumer_at}
use Rattle.lowering.specs.Updates.{produced_iterations, stage_from}
use Rattle.lowering.proofs.Lists.{any_map, all_pass, before_last}
use Rattle.lowering.proofs.Loads.{update_loads}
use Rattle.lowering.proofs.Offsets.{first_none}
use Rattle.lowering.proofs.RootFacts.{is_box, no_lasts, from_corner_on, root_corner_at}
use Rattle.lowering.proofs.SoundTasks.{own_writes, own_loads, roots_load}
use Rattle.lowering.proofs.UpdateFacts.{has_reduction, points_are, first_extent, second_few}
use Rattle.lowering.proofs.UpdateReads.{consumers_none, none_within, roots_are_shared, reads_pixels}
use Rattle.lowering.proofs.UpdateRuns.{members, all_so, leaves, stays, names_inside, stores_named}
use Rattle.lowering.proofs.UpdateSteps.{ReadsOwn}
use Rattle.lowering.proofs.UpdateSlices.{slice_there}
use Rattle.lowering.proofs.UpdateStages.{staged, splits, few}
use Rattle.lowering.proofs.UpdateTouches.{all_sound}
use Rattle.lowering.proofs.UpdateVisits.{listed, task_within, task_in_order, one_task, some_task}

none_added : (n : ℕ) → n < 2 ^ 32 → word.add 0 n ≡ n
unfolding word.add
none_added n small = omega (arith, small)

word_small : (end : ℕ) → word_at end < 2 ^ 32
word_small end = omega arith

module _ (pipeline : Pipeline) (schedule : Schedule) (boxes : Boxes) (rules : IsWellFormed pipeline) (accepted : IsAccepted pipeline schedule)
    (is : inferred pipeline schedule ≡ Ok boxes)
    (func_index : ℕ) (func : Func) (plan : FuncPlan) (source_box : SourceBox) (root : IsAtRoot pipeline schedule boxes func_index func plan source_box)
    (at : ℕ) (update : Update) (stage : Stage) (it : IsUpdateAt schedule func_index func plan at update stage)
    (store : Stmt) (store_of : IsUpdateStoreOf pipeline schedule boxes func_index source_box update store)
    (phase : Phase) (tasks_are : phase.tasks ≡ iteration_count (update_extents source_box update) stage) (counter_is : phase.counter
    ≡ counter_of func_index (parallel stage))
    (repeats : Repeats func_index phase.body store (wholes (update_extents source_box update) stage.splits (inside_of (parallel stage) stage.loops)))
    (inputs : Planes) (begun : AnswerWords pipeline.inputs (reads_of inputs (pixels pipeline.funcs inputs 0))) where
  abbrev extents : Extents
  extents = update_extents source_box update

  abbrev start : Planes
  start = held boxes.funcs (after_stages pipeline.funcs inputs func_index func (suc at))

  abbrev result : Planes
  result = held boxes.funcs (after_stages pipeline.funcs inputs func_index func (suc (suc at)))

  abbrev begin : BoxCorner
  begin = corner_of (Some source_box)

  computed : IsComputed func_index root.standing.place
  computed = subst (λ (p : ComputeLevel). IsComputed func_index p) (sym root.placed_is) tt

  stage_facts : IsStageOf func (Some update) stage × KeepsRules stage
  stage_facts = staged pipeline schedule accepted func_index func plan root.standing root.func_is root.there at update stage it

  box_facts : IsBox source_box
  box_facts = is_box pipeline schedule boxes func_index func plan source_box accepted is root

  -- ---- no loops outside

  iterations_are : produced_iterations schedule boxes root.standing no_loops ≡ no_loops
  iterations_are = ap (λ (p : ComputeLevel). values_for (consumer_in schedule boxes.funcs p) no_loops) root.placed_is

  lasts_are : lasts_of (consumer_at schedule boxes root.standing) ≡ no_loops
  lasts_are = ap (λ (p : ComputeLevel). lasts_of (consumer_in schedule boxes.funcs p)) root.placed_is

  below : Below (produced_iterations schedule boxes root.standing no_loops) (lasts_of (consumer_at schedule boxes root.standing))
  below = subst (λ (l : List ℕ). Below l (lasts_of (consumer_at schedule boxes root.standing))) (sym iterations_are) (subst (λ (l : List ℕ). Below no_loops l)
      (sym lasts_are) no_below)

  none_of : source_box.lasts ≡ no_loops
  none_of = no_lasts pipeline schedule boxes func_index func plan source_box accepted is root

  begins : IsBegin (produced_iterations schedule boxes root.standing no_loops) source_box begin
  begins =
      subst (λ (l : List ℕ). IsBegin l source_box begin) (sym iterations_are)
      (record {
        x = subst (λ (n : ℕ). IsFrom no_loops source_box.x 0 n)
            (none_added (word_at source_box.x.low) (word_small source_box.x.low))
            (from_corner_on source_box.x 0 (subst (λ (l : List ℕ). IsFit l source_box.x) none_of box_facts.x) (omega (arith, box_facts.x.ordered)));
        y = subst (λ (n : ℕ). IsFrom no_loops source_box.y 0 n)
            (none_added (word_at source_box.y.low) (word_small source_box.y.low))
            (from_corner_on source_box.y 0 (subst (λ (l : List ℕ). IsFit l source_box.y) none_of box_facts.y) (omega (arith, box_facts.y.ordered)));
      })

  -- ---- planes

  points_own : (x y : ℕ) → box_points boxes.funcs func_index x y ≡ has_point (Some source_box) x y
  points_own x y = ap (λ (o : Option (Option SourceBox)). has_point (box_in o) x y) root.box_is

  held_own : (updates x y : ℕ) → held boxes.funcs (after_stages pipeline.funcs inputs func_index func (suc updates)) func_index x y ≡ stage_from pipeline inputs func_index
      func begin updates x y
  held_own updates x y = rw root.box_is (rw (eq-eqb func_index func_index refl) refl)

  held_other : (updates other x y : ℕ) → (other ≡ func_index → ⊥) → held boxes.funcs (after_stages pipeline.funcs inputs func_index func (suc updates)) other x y
      ≡ held boxes.funcs (pixels pipeline.funcs inputs func_index) other x y
  held_other updates other x y d =
      let corner = corner_of (box_in (slice_get boxes.funcs other)) in
      ap (λ (b : Bool). cond b (meaning.stage func_index func inputs (pixels pipeline.funcs inputs func_index) updates) (pixels pipeline.funcs inputs func_index other)
      (word.add corner.x x) (word.add corner.y y)) (ne_eqb other func_index d)

  -- ---- slices

  some_points : 1 ≤ points_of func (Some update) extents
  some_points =
      let box_rule = ((rules.funcs func_index func root.func_is).updates at update it.update_is).box in
      let all : 1 * 1 ≤ update.first.extent * second_extent update.second = mul-le-mul (first_extent update box_rule).0 (second_few update box_rule).0 in
      omega (arith, all, points_are func update source_box)

  -- ---- a task

  module _ (number : ℕ) (below_tasks : number < phase.tasks) where
    abbrev before : Values
    before = task_values (counter_of func_index (parallel stage)) number

    abbrev list : List loops.Values
    list = wholes extents stage.splits (inside_of (parallel stage) stage.loops) (loops_of func_index before)

    below_count : number < iteration_count extents stage
    below_count = subst (λ (n : ℕ). number < n) tasks_are below_tasks

    abbrev owned : ℕ → ℕ → Bool
    owned = owns_update source_box update stage number

    visits_are : visits_in extents stage number ≡ map (visit_of extents) list
    visits_are = listed func update extents stage stage_facts.0 func_index stage_facts.1 (parallel stage) refl number below_count

    all_visits : AllByRecursion (IsVisitOf func (Some update) extents) (map (visit_of extents) list)
    all_visits = subst (λ (l : List Visit). AllByRecursion (IsVisitOf func (Some update) extents) l) visits_are (task_within func update extents stage
        stage_facts.0 func_index stage_facts.1 number below_count)

    reduced_by : (stage_loop : Option Loop) → parallel stage ≡ stage_loop
        → number < count_of (counts extents stage.splits) stage_loop
        → AllByRecursion (λ inner. inner (ids.Whole variables.FirstReduction) < update.first.extent) (wholes extents stage.splits (inside_of stage_loop stage.loops)
        (loops_of func_index (task_values (counter_of func_index stage_loop) number)))
    reduced_by None e l =
        within func (Some update) extents stage stage.loops [] variables.FirstReduction (loops_of func_index (task_values None number)) stage_facts.0
        (sym (append-nil stage.loops)) (has_reduction func update) tt
    reduced_by (Some loop) e l =
        let o = outermost stage loop stage_facts.1 e in
        let taken : inside_of (Some loop) stage.loops ≡ o.last.inside = ap (λ (ls : List Loop). take (length ls - 1) ls) o.last.loops_are
        ∙ before_last o.last.inside loop in
        let iteration : loops_of func_index (task_values (counter_of func_index (Some loop)) number) loop.id ≡ number =
        ap (λ (b : Bool). cond b number 0) (and_from (func_index == func_index) (same_id loop.id loop.id) (eq-eqb func_index func_index refl) (same_id-self loop.id)) in
        subst (λ (ls : List Loop). AllByRecursion (λ inner. inner (ids.Whole variables.FirstReduction) < update.first.extent) (wholes extents stage.splits ls
        (loops_of func_index (task_values (counter_of func_index (Some loop)) number)))) (sym taken)
        (within func (Some update) extents stage o.last.inside (loop ∷ []) variables.FirstReduction (loops_of func_index (task_values (counter_of func_index (Some loop))
        number)) stage_facts.0 o.last.loops_are (has_reduction func update)
        (omega (arith, iteration, l), tt))

    reduced : AllByRecursion (λ inner. inner (ids.Whole variables.FirstReduction) < update.first.extent) list
    reduced = reduced_by (parallel stage) refl below_count

    small_by : (stage_loop : Option Loop) → number < count_of (counts extents stage.splits) stage_loop
        → AreSmall (loops_of func_index (task_values (counter_of func_index stage_loop) number))
    small_by None l id = omega arith
    small_by (Some loop) l id = by_test (func_index == func_index && same_id id loop.id)
      where
        by_test : (b : Bool) → cond b number 0 < 2 ^ 25
        by_test true =
            omega (
              arith,
              l,
              iterations_few extents stage.splits (few pipeline schedule boxes rules accepted is func_index func source_box root.func_is root.box_is at update
                  it.update_is root.standing root.there computed) (splits pipeline schedule accepted func_index func plan root.standing root.func_is root.there at
                  update stage it) loop.id,
            )
        by_test false = omega arith

    ran : (funcs : Planes) → run_task (box_points boxes.funcs) inputs phase number funcs ≡ all (λ inner. run (box_points boxes.funcs) inputs store
        (put_loops func_index inner before)) list funcs
    ran funcs =
        ap (λ (c : Option Counter). run (box_points boxes.funcs) inputs phase.body (task_values c number) funcs) counter_is
        ∙ repeats.runs (box_points boxes.funcs) inputs before funcs (small_by (parallel stage) below_count)

    corner_is : IsCornerAt func_index before store_of.corner begin
    corner_is inner =
        let c = store_of.is_corner (put_loops func_index inner before) in
        (c.0 ∙ first_none source_box.x, c.1 ∙ first_none source_box.y)

    reads_own : ReadsOwn store_of.corners func_index before inputs begin
    unfolding placed
    reads_own inner buffers a b =
        let now : Values = put_loops func_index inner before in
        let c = root_corner_at schedule boxes store_of.corners func_index source_box root.standing store_of.are_corners root.box_is root.there.standing root.placed_is in
        rw (c.there, (c.is now).0, (c.is now).1) refl

    in_box : (i j : ℕ) → owned i j ≡ true → has_point (Some source_box) i j ≡ true
    in_box i j e = (and_parts (has_point (Some source_box) i j) (list_any (is_visited update i j) (visits_in extents stage number)) e).0

    on_visited : (i j : ℕ) → owned i j ≡ true → list_any (is_visited update i j) (visits_in extents stage number) ≡ true
    on_visited i j e = (and_parts (has_point (Some source_box) i j) (list_any (is_visited update i j) (visits_in extents stage number)) e).1

    closed : AllByRecursion (λ visit. (i j : ℕ) → has_point (Some source_box) i j ≡ true
        → is_visited update i j visit ≡ true
        → owned i j ≡ true) (map (visit_of extents) list)
    closed =
        all_so (λ visit. (test : Visit → Bool) → test visit ≡ true → list_any test (map (visit_of extents) list) ≡ true) (λ visit. (i j : ℕ)
        → has_point (Some source_box) i j ≡ true → is_visited update i j visit ≡ true → owned i j ≡ true)
        (λ visit member i j boxed on.
        and_from (has_point (Some source_box) i j) (list_any (is_visited update i j) (visits_in extents stage number)) boxed (ap (list_any (is_visited update i j))
        visits_are ∙ member (is_visited update i j) on))
        (map (visit_of extents) list) (members (map (visit_of extents) list))

    in_order : (i j : ℕ) → owned i j ≡ true
        → slice (in_place (is_first_in_place update) i) (in_place (is_second_in_place update) j) (map (visit_of extents) list)
        ≡ rising (in_place (is_first_in_place update) i) (in_place (is_second_in_place update) j) 0 (points update)
    in_order i j e =
        let c = in_place (is_first_in_place update) i in
        let r = in_place (is_second_in_place update) j in
        ap (slice c r) (sym visits_are)
        ∙ task_in_order func update extents stage stage_facts.0 func_index stage_facts.1 number below_count c r (on_visited i j e)
        ∙ ap (rising c r 0) (points_are func update source_box)

    names_are : (x y : ℕ) → names pipeline inputs func_index source_box update stage number x y
        ≡ list_any (λ inner. is_point x y (named_point (reads_of inputs (pixels pipeline.funcs inputs func_index)) begin update (visit_of extents inner))) list
    names_are x y =
        let left = named_point (reads_of inputs (pixels pipeline.funcs inputs func_index)) begin update in
        any_map (is_point x y) left (visits_in extents stage number)
        ∙ ap (list_any (λ (visit : Visit). is_point x y (left visit))) visits_are ∙ any_map (λ (visit : Visit). is_point x y (left visit)) (visit_of extents)
        list

    module _ (funcs : Planes) (hold : Hold (box_points boxes.funcs) (is_private schedule.standings) func_index owned start funcs) where
      others : ReadsPixels pipeline schedule store_of.corners func_index update (produced_iterations schedule boxes root.standing no_loops) source_box inputs before funcs
      others =
          subst (λ (l : List ℕ). ReadsPixels pipeline schedule store_of.corners func_index update l source_box inputs before funcs) (sym iterations_are)
          (reads_pixels pipeline schedule boxes rules accepted is func_index func plan source_box root at update stage it inputs begun store_of.corners store_of.are_corners
          before funcs
          (λ k x y d public_so boxed. hold k x y public_so boxed (λ e. absurd (d e)) ∙ held_other at k x y d))

      holds : (i j : ℕ) → owned i j ≡ true → funcs func_index i j ≡ stage_from pipeline inputs func_index func begin at
          i j
      holds i j e = hold func_index i j (roots_are_shared pipeline schedule accepted func_index root.standing root.there root.placed_is) (points_own i j
          ∙ in_box i j e) (λ s. e) ∙ held_own at i j

      task_does : (x y : ℕ) → owned x y ≡ true → run_task (box_points boxes.funcs) inputs phase number funcs func_index x y ≡ result func_index x y
      task_does x y e =
          ap (λ (f : Planes). f func_index x y) (ran funcs)
          ∙ leaves pipeline schedule boxes rules accepted is func_index func source_box root.func_is root.box_is root.standing root.there computed at update it.update_is
          inputs begun no_loops below begin begins store_of.corners before store_of.corner corner_is reads_own
          store store_of.stores funcs others list all_visits reduced owned in_box closed in_order holds x y e
          ∙ sym (held_own (suc at) x y)

      task_keeps : (other x y : ℕ) → is_private schedule.standings other ≡ false → (other ≡ func_index
          → owned x y ≡ false)
          → run_task (box_points boxes.funcs) inputs phase number funcs other x y ≡ funcs other x y
      task_keeps other x y public_so free =
          ap (λ (f : Planes). f other x y) (ran funcs)
          ∙ stays pipeline schedule boxes rules accepted is func_index func source_box root.func_is root.box_is root.standing root.there computed at update it.update_is
          inputs begun no_loops below begin begins store_of.corners before store_of.corner corner_is reads_own
          store store_of.stores funcs others list all_visits reduced owned in_box closed in_order holds other x y free

      -- ---- where it stores

      inside_so : (x y : ℕ) → names pipeline inputs func_index source_box update stage number x y ≡ true
          → owned x y ≡ true
      inside_so x y e =
          names_inside pipeline schedule boxes rules accepted is func_index func source_box root.func_is root.box_is root.standing root.there computed at update
          it.update_is inputs begun no_loops below begin begins store_of.corners before store_of.corner corner_is reads_own
          store store_of.stores funcs others list all_visits reduced owned in_box closed x y (sym (names_are x y) ∙ e)

      pub task_stores : (x y : ℕ) → is_stored_by_task (box_points boxes.funcs) inputs phase number func_index x y funcs ≡ names pipeline inputs func_index source_box update
          stage number x y
      task_stores x y =
          let begins_so : Trace = record { funcs = funcs; is_stored = false } in
          ap (λ (c : Option Counter). is_stored_by (box_points boxes.funcs) inputs func_index x y phase.body (task_values c number) funcs) counter_is
          ∙ ap (λ (t : Trace). t.is_stored) (repeats.traces (box_points boxes.funcs) inputs func_index x y before begins_so (small_by (parallel stage) below_count))
          ∙ stores_named pipeline schedule boxes rules accepted is func_index func source_box root.func_is root.box_is root.standing root.there computed at update
          it.update_is inputs begun no_loops below begin begins store_of.corners before store_of.corner corner_is reads_own
          store store_of.stores funcs others list all_visits reduced owned in_box closed in_order holds store_of.hits x y
          ∙ sym (names_are x y)

    pub names_owned : (x y : ℕ) → names pipeline inputs func_index source_box update stage number x y ≡ true
        → owned x y ≡ true
    names_owned = inside_so start (λ other x y public_so boxed mine. refl)

    task : DoesTask (box_points boxes.funcs) (is_private schedule.standings) func_index start result owned (run_task (box_points boxes.funcs) inputs phase number)
    task = record { there = λ x y e. points_own x y ∙ in_box x y e; does = task_does; keeps = task_keeps }

    -- ---- what it touches

    module _ (private_is : phase.private ≡ []) (reads : Reads) (words : AnswerWords pipeline.inputs reads) where
      abbrev written : Points
      written = may_write boxes.funcs func_index owned phase.private

      abbrev loaded : Point → Bool
      loaded = may_load pipeline schedule boxes func_index owned phase.private

      produced_none : (k : ℕ) (w : IsReadWithin schedule func_index k) (loop : LoopPosition)
          → w.own.place ≡ places.At loop → ⊥
      produced_none = none_within pipeline schedule accepted func_index root.standing root.there root.placed_is (consumers_none pipeline schedule accepted func_index plan
          at stage it.plan_is it.stage_is)

      others_load : LoadsOthers pipeline schedule store_of.corners func_index update no_loops source_box reads loaded
          before
      others_load inner count x y few_so lies =
          update_loads pipeline schedule boxes rules accepted is places.Root func_index func plan source_box tt root func_index func plan source_box root
          (loops_of func_index (put_loops func_index inner before)) (λ k w loop e. absurd (produced_none k w loop e))
          (put_loops func_index inner before) (λ id. refl) store_of.corners store_of.are_corners reads words loaded (λ k a b e. e) (roots_load pipeline schedule
          boxes func_index owned phase.private)
          (λ k w loop e. absurd (produced_none k w loop e)) no_loops (subst (λ (l : List ℕ). Below no_loops l) (sym none_of) no_below) x y lies
          (λ k w loop e. absurd (produced_none k w loop e)) at update it.update_is count few_so

      own_placed : (inner : loops.Values) (a b : ℕ) → place_in store_of.corners (put_loops func_index inner before)
          (record {
            source = sources.Func func_index;
            x = a;
            y =
                b;
          })
          ≡ record { source = sources.Func func_index; x = word.subtract a begin.x; y = word.subtract b begin.y }
      own_placed inner a b =
          let now : Values = put_loops func_index inner before in
          let c = root_corner_at schedule boxes store_of.corners func_index source_box root.standing store_of.are_corners root.box_is root.there.standing root.placed_is in
          rw (c.there, (c.is now).0, (c.is now).1) refl

      pub task_sound : is_sound reads written loaded phase.body (task_values phase.counter number) ≡ true
      task_sound =
          ap (λ (c : Option Counter). is_sound reads written loaded phase.body (task_values c number)) counter_is
          ∙ repeats.sound reads written loaded before (small_by (parallel stage) below_count)
          ∙ all_pass (λ inner. is_sound reads written loaded store (put_loops func_index inner before)) list
          (all_sound pipeline schedule boxes rules is func_index func source_box root.func_is root.box_is root.standing root.there computed at update it.update_is no_loops
          below begin begins store_of.corners before store_of.corner corner_is
          store store_of.sound reads words written loaded own_placed (subst (λ (l : List ℕ). LoadsOthers pipeline schedule store_of.corners func_index update l source_box
          reads loaded before) (sym iterations_are) others_load)
          owned (own_writes pipeline schedule boxes func_index owned phase.private) (own_loads pipeline schedule boxes func_index owned phase.private) list all_visits
          reduced closed)

  -- ---- all tasks

  in_count : (number : ℕ) → number < phase.tasks → number < iteration_count extents stage
  in_count number l = subst (λ (n : ℕ). number < n) tasks_are l

  visited_by : (number x y : ℕ) → owns_update source_box update stage number x y ≡ true → list_any (is_visited update x y) (visits_in extents stage number) ≡ true
  visited_by number x y e = (and_parts (has_point (Some source_box) x y) (list_any (is_visited update x y) (visits_in extents stage number)) e).1

  never_unowned : (x y : ℕ) → box_points boxes.funcs func_index x y ≡ true → ((number : ℕ) → number < phase.tasks → owns_update source_box update stage number x y ≡ false)
      → ⊥
  never_unowned x y boxed none =
      let here : has_point (Some source_box) x y ≡ true = sym (points_own x y) ∙ boxed in
      some_task func update extents stage stage_facts.0 func_index stage_facts.1 (in_place (is_first_in_place update) x) (in_place (is_second_in_place update) y)
      (slice_there func update source_box pipeline.inputs pipeline.funcs func_index ((rules.funcs func_index func root.func_is).updates at update it.update_is) x y here)
      some_points
      (λ number l.
      ap (λ (b : Bool). b && list_any (is_visited update x y) (visits_in extents stage number)) (sym here)
      ∙ none number (subst (λ (n : ℕ). number < n) (sym tasks_are) l))

  pub does_update : DoesPhase (box_points boxes.funcs) (is_private schedule.standings) func_index start result phase.tasks (owns_update source_box update stage)
      (run_task (box_points boxes.funcs) inputs phase)
  does_update = record {
    not_private = roots_are_shared pipeline schedule accepted func_index root.standing root.there root.placed_is;
    each = task;
    one_owner = λ x y first second lf ls ef es.
        one_task func update extents stage stage_facts.0 func_index stage_facts.1 (in_place (is_first_in_place update) x) (in_place (is_second_in_place update) y)
        first second (in_count first lf) (in_count second ls)
        (visited_by first x y ef) (visited_by second x y es);
    unowned = λ x y boxed none. absurd (never_unowned x y boxed none);
    others = λ other x y d. held_other (suc at) other x y d ∙ sym (held_other at other x y d);
  }

  pub touches : phase.private ≡ [] → TouchesItsOwn pipeline schedule boxes func_index
      (owns_update source_box update stage) phase
  touches private_is number below_tasks reads words = task_sound number below_tasks private_is reads words
