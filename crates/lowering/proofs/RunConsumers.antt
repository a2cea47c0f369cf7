-- A consumer whose innermost loop is vectorized stores its points by the runs of that loop. Nests of Funcs at its loops store none of them.
use Rattle.std.proofs.Common.{◌≡◌, ℕ, zero, suc, ◌^◌, inl, inr, ◌<◌, ◌≤◌, Bool, true, false, cond, List, [], ◌∷◌, ◌++◌, Option, Some, None, refl, sym, ap}
use Rattle.std.proofs.Common.{subst, ◌∙◌, arith, true≢false}
use Rattle.std.specs.Prelude.{◌==◌, ◌&&◌, ◌||◌, nat_lt, not, slice_get}
use Rattle.std.specs.List.{AllByRecursion, list_all, list_any}
use Rattle.std.proofs.lemmas.Bool.{and_from, eq-eqb, eqb-true, ne_eqb, cases_eq, lt-ltb}
use Rattle.std.proofs.lemmas.List.Folds.{list_any-append}
use Rattle.halide_pipeline.specs.declared.definitions.Func.{Func}
use Rattle.halide_pipeline.specs.declared.expressions.Variable.TheVariants as variables
use Rattle.halide_pipeline.specs.Pipelines.{Pipeline}
use Rattle.halide_pipeline.specs.Pixel.{Reads}
use Rattle.schedule_lines.specs.declared.stages.Loop.{Loop}
use Rattle.schedule_lines.specs.declared.stages.LoopId.{LoopId}
use Rattle.schedule_lines.specs.declared.stages.Stage.{Stage}
use Rattle.schedule.specs.declared.plans.FuncPlan.{FuncPlan}
use Rattle.schedule.specs.declared.schedules.Schedule.{Schedule}
use Rattle.schedule.specs.declared.placements.LoopPosition.{LoopPosition}
use Rattle.schedule.specs.Accepted.{IsAccepted}
use Rattle.schedule_loops.specs.declared.extents.Extents.{Extents}
use Rattle.schedule_loops.specs.Visits as loops
use Rattle.schedule_loops.specs.Visits.{parallel, upto, nest, over_loops, visit_of, is_slice}
use Rattle.schedule_loops.specs.Reach.{wholes}
use Rattle.schedule_loops.specs.Runs.{AreIterations, is_vectorized_loop, innermost, outside_innermost, iterations_of, run_of, are_iterations, is_vectorized_first}
use Rattle.schedule_loops.specs.Stages.{IsStageOf, KeepsRules}
use Rattle.schedule_loops.proofs.Nesting.{nest-append}
use Rattle.schedule_loops.proofs.Wholes.{visits_of_wholes}
use Rattle.bounds.specs.declared.verdict.Boxes.{Boxes}
use Rattle.loop_ir.specs.declared.statements.Stmt.{Stmt}
use Rattle.loop_ir.specs.Counters.{Values, with}
use Rattle.loop_ir.specs.LoopLanes.{all_but, all_points}
use Rattle.loop_ir.specs.Runs.{are_same, point_of, stores_in_runs}
use Rattle.loop_ir.specs.Soundness.{every, is_sound}
use Rattle.loop_ir.proofs.Runs.{others_store_in_no_run}
use Rattle.lowering_nests.specs.Nests.{loops_of, put_loops, AreSmall, Repeats}
use Rattle.lowering_nests.specs.LoopLanes.{IsLeaf}
use Rattle.lowering_nests.proofs.LoopLanes.{iterations_more}
use Rattle.lowering.specs.Consuming.{consuming, in_runs_first, IsNestAt, IsNestOf, HasNests, None_left, One_more, HasLoops, No_loops, One_outside, HasOutermost}
use Rattle.lowering.specs.PurePhases.{MissesPure, whole_at}
use Rattle.lowering.specs.Runs.{is_in_run}
use Rattle.lowering.proofs.Facts.{produced_before}
use Rattle.lowering.proofs.Filling.{loops_consuming}
use Rattle.lowering.proofs.ConsumerLanes.{no_nests, none_produced, later_plain, no_loops_is}
use Rattle.lowering.proofs.Lists.{all_upto, any_map}
use Rattle.lowering.proofs.LoopIterations.{consuming_with, small_with}
use Rattle.lowering.proofs.RunLists.{one_more}
use Rattle.lowering.proofs.StoredConsumers.{x_of, y_of, AreWords, is_at, whole_put}

-- ---- tests

same_test : (a b : ℕ) → (a == b) ≡ (b == a)
same_test a b = elim (cases_eq a b) [
  | inl e ↦ eq-eqb a b e ∙ sym (eq-eqb b a (sym e))
  | inr d ↦ ne_eqb a b d ∙ sym (ne_eqb b a (λ (e : b ≡ a). d (sym e)))
]

not_or : (a b : Bool) → (not a && not b) ≡ not (a || b)
not_or true b = refl
not_or false b = refl

same_as_itself : (b : Bool) → are_same b b ≡ true
same_as_itself true = refl
same_as_itself false = refl

every_passes : (n : ℕ) (test : ℕ → Bool) → ((iteration : ℕ) → iteration < n → test iteration ≡ true) → every n test ≡ true
unfolding every
every_passes zero test each = refl
every_passes (suc n) test each = and_from (every n test) (test n) (every_passes n test (λ iteration below. each iteration (omega (arith, below)))) (each n (omega arith))

-- loops that are in their iterations pass the test on them
iterations_pass : (counts : loops.Values) (stage_loops : List Loop) (in_task : loops.Values) → AreIterations counts stage_loops in_task → are_iterations counts stage_loops in_task ≡ true
iterations_pass counts [] in_task are = refl
iterations_pass counts (first ∷ others) in_task are =
    and_from (nat_lt (in_task first.id) (counts first.id)) (are_iterations counts others in_task) (lt-ltb (in_task first.id) (counts first.id) are.0)
    (iterations_pass counts others in_task are.1)

-- none of the iterations stores where none of the lists has the point
every_misses : {A : Type 0} (n most : ℕ) → n ≤ most → (test : ℕ → Bool) (hit : A → Bool) (lists : ℕ → List A) → ((iteration : ℕ) → iteration < most
    → test iteration ≡ not (list_any hit (lists iteration)))
    → every n test ≡ not (list_any hit (upto n lists))
unfolding every upto
every_misses zero most few test hit lists each = refl
every_misses (suc n) most few test hit lists each =
    ap (λ (b : Bool). b && test n) (every_misses n most (omega (arith, few)) test hit lists each)
    ∙ ap (λ (b : Bool). not (list_any hit (upto n lists)) && b) (each n (omega (arith, few)))
    ∙ not_or (list_any hit (upto n lists)) (list_any hit (lists n))
    ∙ ap not (sym (list_any-append hit (upto n lists) (lists n)))

module _ (pipeline : Pipeline) (schedule : Schedule) (boxes : Boxes) (accepted : IsAccepted pipeline schedule) (reads : Reads) (consumer x y : ℕ) where
  -- ---- nests of others

  module _ (expected : Values → Bool) (at : LoopPosition) (same : at.func ≡ consumer) (values : Values) where
    nest_avoids : (func_index : ℕ) (found : Option Stmt) → IsNestAt pipeline schedule boxes at func_index found → in_runs_first reads consumer x y expected found values
        ≡ true
    nest_avoids func_index None none = refl
    nest_avoids func_index (Some first) nest_of =
        let earlier : func_index < at.func = produced_before pipeline schedule accepted func_index nest_of.parts.standing nest_of.parts.there at nest_of.parts.placed_is
        in
        others_store_in_no_run reads consumer x y expected func_index first values (λ e. omega (arith, e, earlier, same)) nest_of.about

    pub nests_run : (from : ℕ) (inner body : Stmt) → HasNests pipeline schedule boxes at from inner body
        → stores_in_runs reads consumer x y expected inner values ≡ true → stores_in_runs reads consumer x y expected body values ≡ true
    nests_run from inner _ (None_left _ _ all_seen) told = told
    nests_run from inner body (One_more _ found _ rest _ is more does) told =
        does.in_runs reads consumer x y expected values
        ∙ and_from (in_runs_first reads consumer x y expected found values) (stores_in_runs reads consumer x y expected rest values) (nest_avoids from found is)
        (nests_run (suc from) inner rest more told)

  -- ---- loops

  module _ (func : Func) (plan : FuncPlan) (plan_is : slice_get schedule.funcs consumer ≡ Some plan) (extents : Extents)
      (is : IsStageOf func None plan.pure) (kept : KeepsRules plan.pure) (few : (id : LoopId) → loops.counts extents plan.pure.splits id < 2 ^ 25)
      (store : Stmt) (misses : MissesPure consumer store) (leaf : Stmt) (bound : Repeats consumer leaf store (wholes extents plan.pure.splits []))
      (store_is : IsLeaf store) (leaf_is : IsLeaf leaf) where
    abbrev stage : Stage
    stage = plan.pure

    abbrev counts : loops.Values
    counts = loops.counts extents plan.pure.splits

    abbrev listed : List Loop → loops.Values → List loops.Values
    listed inside in_task = wholes extents plan.pure.splits inside in_task

    abbrev missed : Stmt → Values → Bool
    missed = is_sound reads (all_but (point_of consumer x y)) all_points

    abbrev expected : Values → Bool
    expected = is_in_run extents plan.pure consumer x y

    abbrev Runs : Stmt → loops.Values → Type 0
    Runs statement in_task = stores_in_runs reads consumer x y expected statement (consuming consumer in_task) ≡ true

    store_misses : (in_task inner : loops.Values) → AreWords inner → missed store (put_loops consumer inner (consuming consumer in_task)) ≡ not (is_at x y inner)
    store_misses in_task inner small =
        let values = put_loops consumer inner (consuming consumer in_task) in
        misses reads x y values
        ∙ ap (λ (n : ℕ). not (x == n && y == whole_at values consumer variables.SecondArgument)) (whole_put consumer inner (consuming consumer in_task)
        variables.FirstArgument small.0)
        ∙ ap (λ (n : ℕ). not (x == x_of inner && y == n)) (whole_put consumer inner (consuming consumer in_task) variables.SecondArgument small.1)
        ∙ ap (λ (b : Bool). not (b && y == y_of inner)) (same_test x (x_of inner))
        ∙ ap (λ (b : Bool). not (x_of inner == x && b)) (same_test y (y_of inner))

    all_miss : (in_task : loops.Values) (list : List loops.Values) → AllByRecursion AreWords list
        → list_all (λ inner. missed store (put_loops consumer inner (consuming consumer in_task))) list ≡ not (list_any (is_at x y) list)
    all_miss in_task [] words = refl
    all_miss in_task (inner ∷ list) words =
        ap (λ (b : Bool). b && list_all (λ inner. missed store (put_loops consumer inner (consuming consumer in_task))) list) (store_misses in_task inner words.0)
        ∙ ap (λ (b : Bool). not (is_at x y inner) && b) (all_miss in_task list words.1)
        ∙ not_or (is_at x y inner) (list_any (is_at x y) list)

    leaf_misses : (in_task : loops.Values) → AreSmall in_task → AllByRecursion AreWords (listed [] in_task) → missed leaf (consuming consumer in_task)
        ≡ not (list_any (is_at x y) (listed [] in_task))
    leaf_misses in_task small words =
        bound.sound reads (all_but (point_of consumer x y)) all_points (consuming consumer in_task) (subst AreSmall (sym (loops_consuming consumer in_task))
        small)
        ∙ ap (λ (t : loops.Values). list_all (λ inner. missed store (put_loops consumer inner (consuming consumer in_task))) (listed [] t))
        (loops_consuming consumer in_task)
        ∙ all_miss in_task (listed [] in_task) words

    in_iterations : (stage_loop : Loop) (outside : List Loop) → stage.loops ≡ stage_loop ∷ outside → (in_task : loops.Values) → AreIterations counts outside in_task
        → are_iterations counts (outside_innermost stage.loops) (loops_of consumer (consuming consumer in_task)) ≡ true
    in_iterations stage_loop outside loops_are in_task are =
        ap (λ (t : loops.Values). are_iterations counts (outside_innermost stage.loops) t) (loops_consuming consumer in_task)
        ∙ ap (λ (ls : List Loop). are_iterations counts (outside_innermost ls) in_task) loops_are
        ∙ iterations_pass counts outside in_task are

    -- what is expected of a run is what the innermost loop lists, where no other loop has begun
    expected_is : (stage_loop : Loop) (outside : List Loop) → stage.loops ≡ stage_loop ∷ outside → (in_task : loops.Values) → AreIterations counts outside in_task
        → in_task ≡ iterations_of outside in_task
        → expected (consuming consumer in_task) ≡ list_any (is_at x y) (listed (stage_loop ∷ []) in_task)
    expected_is stage_loop outside loops_are in_task are alone =
        ap (λ (b : Bool). b && list_any (is_slice x y) (run_of extents plan.pure (loops_of consumer (consuming consumer in_task))))
        (in_iterations stage_loop outside loops_are in_task are)
        ∙ ap (λ (t : loops.Values). list_any (is_slice x y) (run_of extents plan.pure t)) (loops_consuming consumer in_task)
        ∙ ap (λ (ls : List Loop). list_any (is_slice x y) (nest counts (innermost ls) (over_loops extents plan.pure.splits (λ whole. visit_of extents whole
        ∷ [])) (iterations_of (outside_innermost ls) in_task))) loops_are
        ∙ ap (λ (t : loops.Values). list_any (is_slice x y) (nest counts (stage_loop ∷ []) (over_loops extents plan.pure.splits (λ whole. visit_of extents whole ∷ []))
        t)) (sym alone)
        ∙ ap (list_any (is_slice x y)) (visits_of_wholes extents plan.pure.splits (stage_loop ∷ []) in_task)
        ∙ any_map (is_slice x y) (visit_of extents) (listed (stage_loop ∷ []) in_task)

    -- the vectorized loop
    module _ (stage_loop : Loop) (outside : List Loop) (loops_are : stage.loops ≡ stage_loop ∷ outside) (in_task : loops.Values) (small : AreSmall in_task)
        (are : AreIterations counts outside in_task) (alone : in_task ≡ iterations_of outside in_task)
        (words : AllByRecursion AreWords (listed (stage_loop ∷ []) in_task)) where
      abbrev lists : ℕ → List loops.Values
      lists iteration = listed [] (loops.with stage_loop.id iteration in_task)

      lane_misses : (lane : ℕ) → lane < counts stage_loop.id → missed leaf (with (record { func = consumer; id = stage_loop.id }) lane (consuming consumer in_task))
          ≡ not (list_any (is_at x y) (lists lane))
      lane_misses lane below =
          ap (missed leaf) (consuming_with consumer stage_loop.id lane in_task)
          ∙ leaf_misses (loops.with stage_loop.id lane in_task) (small_with stage_loop.id lane in_task (omega (arith, below, few stage_loop.id)) small) (all_upto AreWords lists
          (counts stage_loop.id) words lane below)

      pub vector_runs : are_same (every (counts stage_loop.id) (λ lane. missed leaf (with (record { func = consumer; id = stage_loop.id }) lane
          (consuming consumer in_task)))) (not (expected (consuming consumer in_task))) ≡ true
      vector_runs =
          ap (λ (b : Bool). are_same b (not (expected (consuming consumer in_task)))) (every_misses (counts stage_loop.id) (counts stage_loop.id) (omega arith)
          (λ lane. missed leaf (with (record { func = consumer; id = stage_loop.id }) lane (consuming consumer in_task))) (is_at x y) lists lane_misses)
          ∙ ap (λ (b : Bool). are_same (not (list_any (is_at x y) (listed (stage_loop ∷ []) in_task))) (not b)) (expected_is stage_loop outside loops_are in_task are alone)
          ∙ same_as_itself (not (list_any (is_at x y) (listed (stage_loop ∷ []) in_task)))

    behind : (ls : List Loop) (stage_loop : Loop) (outside : List Loop)
        → (ls ++ stage_loop ∷ []) ++ outside ≡ ls ++ stage_loop ∷ outside
    behind [] stage_loop outside = refl
    behind (one ∷ ls) stage_loop outside = ap (λ (l : List Loop). one ∷ l) (behind ls stage_loop outside)

    plain_by : (stage_loop : Loop) → (is_vectorized_loop stage_loop ≡ true → ⊥) → is_vectorized_loop stage_loop ≡ false
    plain_by stage_loop never = by_test (is_vectorized_loop stage_loop) refl
      where
        by_test : (b : Bool) → is_vectorized_loop stage_loop ≡ b → b ≡ false
        by_test true e = absurd (never e)
        by_test false e = refl

    pub loops_run : (inside : List Loop) (statement : Stmt) → HasLoops pipeline schedule boxes consumer counts leaf inside statement → (outside : List Loop)
        → stage.loops ≡ inside ++ outside → is_vectorized_first inside ≡ true
        → (in_task : loops.Values) → AreSmall in_task → AreIterations counts outside in_task → in_task ≡ iterations_of outside in_task
        → AllByRecursion AreWords (listed inside in_task) → Runs statement in_task
    loops_run _ _ No_loops outside loops_are first in_task small are resting words = absurd (true≢false (sym first))
    loops_run _ statement (One_outside inside mid inner body _ within nested does around run_around) outside loops_are first in_task small are resting words =
        by_inside inside within refl
        (λ first_in iteration below words_in.
        loops_run inside inner within (mid ∷ outside) here first_in (loops.with mid.id iteration in_task) (small_with mid.id iteration in_task
        (omega (arith, below, few mid.id)) small)
        (iterations_more counts mid iteration below outside in_task are) (ap (loops.with mid.id iteration) resting ∙ one_more mid outside iteration in_task) words_in)
      where
        here : stage.loops ≡ inside ++ mid ∷ outside
        here = loops_are ∙ behind inside mid outside

        by_inside : (ls : List Loop) → HasLoops pipeline schedule boxes consumer counts leaf ls inner → inside ≡ ls
            → (is_vectorized_first inside ≡ true → (iteration : ℕ) → iteration < counts mid.id → AllByRecursion AreWords (listed inside (loops.with mid.id iteration in_task))
            → Runs inner (loops.with mid.id iteration in_task))
            → Runs statement in_task
        by_inside [] alone e told =
            let v : is_vectorized_loop mid ≡ true = subst (λ (ls : List Loop). is_vectorized_first (ls ++ mid ∷ []) ≡ true) e first in
            let now : stage.loops ≡ mid ∷ outside = subst (λ (ls : List Loop). stage.loops ≡ ls ++ mid ∷ outside) e here in
            let inner_is = no_loops_is pipeline schedule boxes accepted consumer func plan plan_is extents is kept few leaf store bound store_is leaf_is []
            inner alone refl in
            let body_is = no_nests pipeline schedule boxes (record { func = consumer; inside = mid.id }) (none_produced pipeline schedule boxes accepted
            consumer func plan plan_is extents is kept few leaf store bound store_is leaf_is mid outside now v) 0 inner body nested ∙ inner_is in
            run_around.vector v reads x y expected (consuming consumer in_task)
            ∙ ap (λ (b : Stmt). are_same (every (counts mid.id) (λ lane. missed b (with (record { func = consumer; id = mid.id }) lane
            (consuming consumer in_task)))) (not (expected (consuming consumer in_task)))) body_is
            ∙ vector_runs mid outside now in_task small are resting (subst (λ (ls : List Loop). AllByRecursion AreWords (listed (ls ++ mid ∷ []) in_task)) e
            words)
        by_inside (one ∷ before) more e told =
            let now : stage.loops ≡ (one ∷ before) ++ mid ∷ outside = subst (λ (ls : List Loop). stage.loops ≡ ls ++ mid ∷ outside) e here in
            let first_in : is_vectorized_first inside ≡ true = subst (λ (ls : List Loop). is_vectorized_first ls ≡ true) (sym e)
            (subst (λ (ls : List Loop). is_vectorized_first (ls ++ mid ∷ []) ≡ true) e first) in
            let plain = plain_by mid (later_plain pipeline schedule boxes accepted consumer func plan plan_is extents is kept few leaf store bound store_is
            leaf_is one before mid outside now) in
            let lists : ℕ → List loops.Values = λ iteration. listed inside (loops.with mid.id iteration in_task) in
            let list_is : listed (inside ++ mid ∷ []) in_task ≡ upto (counts mid.id) lists = nest-append counts inside (mid ∷ [])
            (over_loops extents plan.pure.splits (λ (whole : loops.Values). whole ∷ [])) in_task in
            let all_words : AllByRecursion AreWords (upto (counts mid.id) lists) = subst (λ (l : List loops.Values). AllByRecursion AreWords l) list_is words in
            run_around.plain plain reads x y expected (consuming consumer in_task)
            ∙ every_passes (counts mid.id) (λ iteration. stores_in_runs reads consumer x y expected body (with (record { func = consumer; id = mid.id }) iteration
            (consuming consumer in_task)))
            (λ iteration below. ap (stores_in_runs reads consumer x y expected body) (consuming_with consumer mid.id iteration in_task)
            ∙ nests_run expected (record { func = consumer; inside = mid.id }) refl (consuming consumer (loops.with mid.id iteration in_task)) 0 inner body nested
            (told first_in iteration below (all_upto AreWords lists (counts mid.id) all_words iteration below)))

    -- a task begins with the nests of the Funcs that are computed at the parallel loop
    pub begun_runs : (found : Option Loop) (inner body : Stmt) → HasOutermost pipeline schedule boxes consumer found inner body → (in_task : loops.Values)
        → Runs inner in_task → Runs body in_task
    begun_runs None inner body same in_task told = ap (λ (b : Stmt). stores_in_runs reads consumer x y expected b (consuming consumer in_task)) same ∙ told
    begun_runs (Some stage_loop) inner body nests in_task told = nests_run expected (record { func = consumer; inside = stage_loop.id }) refl (consuming consumer in_task) 0
        inner body nests told
