-- What the loops of a consumer touch, with the nests of the Funcs that are computed at them.
use Rattle.std.proofs.Common.{◌≡◌, ℕ, zero, suc, ◌^◌, ◌<◌, Bool, true, List, [], ◌∷◌, ◌++◌, Option, Some, None, refl, sym, ap, subst, ◌∙◌, arith, append_assoc}
use Rattle.std.specs.Prelude.{slice_get, Contains, Ok}
use Rattle.std.specs.List.{AllByRecursion, list_all}
use Rattle.std.proofs.lemmas.Bool.{and_from}
use Rattle.halide_pipeline.specs.declared.definitions.Func.{Func}
use Rattle.halide_pipeline.specs.declared.expressions.Source.{Source}
use Rattle.halide_pipeline.specs.declared.expressions.Source.TheVariants as sources
use Rattle.halide_pipeline.specs.declared.expressions.Variable.TheVariants as variables
use Rattle.halide_pipeline.specs.Pipelines.{Pipeline}
use Rattle.halide_pipeline.specs.WellFormed.{IsWellFormed}
use Rattle.halide_pipeline.specs.Pixel.{Planes, Reads, reads_of, pixels}
use Rattle.halide_pipeline.specs.Points.{Point}
use Rattle.schedule_lines.specs.declared.stages.Loop.{Loop}
use Rattle.schedule_lines.specs.declared.stages.LoopId.TheVariants as ids
use Rattle.schedule.specs.declared.plans.FuncPlan.{FuncPlan}
use Rattle.schedule.specs.declared.schedules.Schedule.{Schedule}
use Rattle.schedule.specs.declared.placements.LoopPosition.{LoopPosition}
use Rattle.schedule.specs.declared.placements.ComputeLevel.TheVariants as places
use Rattle.schedule.specs.declared.placements.FuncPlacement.{FuncPlacement}
use Rattle.schedule.specs.Accepted.{IsAccepted}
use Rattle.schedule.specs.Uses.{IsReached}
use Rattle.schedule_loops.specs.declared.extents.Extents.{Extents}
use Rattle.schedule_loops.specs.Visits as loops
use Rattle.schedule_loops.specs.Reach.{wholes}
use Rattle.schedule_loops.specs.Runs.{AreIterations}
use Rattle.schedule_loops.specs.Stages.{IsStageOf, IsVisitOf}
use Rattle.schedule_loops.specs.Visits.{upto, over_loops, visit_of}
use Rattle.schedule_loops.proofs.FirstLoops.{plain, sound_made}
use Rattle.schedule_loops.proofs.Ids.{with_same}
use Rattle.schedule_loops.proofs.Nesting.{nest-append}
use Rattle.schedule_loops.proofs.Selecting.{Unique}
use Rattle.schedule_loops.proofs.IterationsFound.{of_all}
use Rattle.bounds_ranges.specs.Laws.{Below, AnswerWords}
use Rattle.bounds.specs.declared.boxes.SourceBox.{SourceBox}
use Rattle.bounds.specs.declared.verdict.Boxes.{Boxes}
use Rattle.bounds.specs.Boxes.{no_loops}
use Rattle.bounds.specs.Extents.{box_in, extents_of}
use Rattle.bounds.specs.Verdict.{inferred}
use Rattle.bounds.specs.Views.{inner_count}
use Rattle.bounds_laws.specs.Closure.{is_within}
use Rattle.bounds_laws.specs.ConsumerLaws.{values_in}
use Rattle.bounds_laws.specs.Laws.{LiesIn}
use Rattle.loop_ir.specs.declared.statements.Stmt.{Stmt}
use Rattle.loop_ir.specs.Buffers.{Points}
use Rattle.loop_ir.specs.Counters.{with}
use Rattle.loop_ir.specs.Soundness.{every, is_sound}
use Rattle.lowering_nests.specs.Nests.{put_loops, AreSmall, Repeats}
use Rattle.lowering_nests.proofs.Few.{iterations_few}
use Rattle.lowering.specs.Corners.{iterations_for}
use Rattle.lowering.specs.Consuming.{consuming, MayTouch, IsSoundNest, HasNests, None_left, One_more, HasLoops, No_loops, One_outside}
use Rattle.lowering.specs.Planes.{has_point, box_points}
use Rattle.lowering.specs.PurePhases.{IsStoreOf}
use Rattle.bounds.specs.Stages.{IsComputedAt, IsAtRoot}
use Rattle.lowering.proofs.Facts.{staged, few, splits}
use Rattle.lowering.proofs.Filling.{loops_consuming}
use Rattle.lowering.proofs.Consumers as consumers
use Rattle.lowering.proofs.Lists.{all_pass, all_upto}
use Rattle.lowering.proofs.Loads.{pure_loads, update_loads}
use Rattle.lowering.proofs.LoopIterations.{iterations_with, none_outside, consuming_with, small_with, all_contained}
use Rattle.lowering.proofs.SplitsApart.{loops_put, iterations_kept}
use Rattle.lowering.proofs.UpdateRuns.{all_so}
use Rattle.lowering.proofs.Writing as writing

-- ---- inputs of zeros, since soundness depends on no picture

abbrev pub dark : Planes
dark place x y = 0

module _ (pipeline : Pipeline) where
  dark_word : (s : Source) (x y : ℕ) → reads_of dark (pixels pipeline.funcs dark 0) s x y < 2 ^ 32
  unfolding pixels
  dark_word (sources.Input k) x y = omega arith
  dark_word (sources.Func k) x y = omega arith

  pub dark_words : AnswerWords pipeline.inputs (reads_of dark (pixels pipeline.funcs dark 0))
  dark_words = record { words = λ s x y lx ly. dark_word s x y; bytes = λ place input there is_bytes x y. omega arith }

-- each of this many iterations passes
every_passes : (n : ℕ) (test : ℕ → Bool) → ((k : ℕ) → k < n → test k ≡ true) → every n test ≡ true
unfolding every
every_passes zero test all = refl
every_passes (suc n) test all = and_from (every n test) (test n) (every_passes n test (λ k l. all k (omega (arith, l)))) (all n (omega arith))

module _ (pipeline : Pipeline) (schedule : Schedule) (boxes : Boxes) (rules : IsWellFormed pipeline) (accepted : IsAccepted pipeline schedule)
    (is : inferred pipeline schedule ≡ Ok boxes)
    (consumer : ℕ) (func : Func) (plan : FuncPlan) (source_box : SourceBox) (at : IsAtRoot pipeline schedule boxes consumer func plan source_box)
    (store : Stmt) (store_of : IsStoreOf pipeline schedule boxes places.Root consumer func source_box store)
    (reads : Reads) (words : AnswerWords pipeline.inputs reads) (written : Points) (loaded : Point → Bool)
    (inputs_load : (k x y : ℕ) → is_within (slice_get pipeline.inputs k) x y ≡ true → loaded (record { source = sources.Input k; x = x; y = y }) ≡ true)
    (roots_load : (k : ℕ) (placement : FuncPlacement) → k < consumer → IsReached schedule.standings k placement → placement.place ≡ places.Root
    → (x y : ℕ) → box_points boxes.funcs k x y ≡ true → loaded (record { source = sources.Func k; x = x; y = y }) ≡ true)
    (produced_writes : (k : ℕ) (placement : FuncPlacement) (loop : LoopPosition) → IsReached schedule.standings k placement → placement.place ≡ places.At loop
    → loop.func ≡ consumer
    → (x y : ℕ) → box_points boxes.funcs k x y ≡ true → written k x y ≡ true)
    (produced_loads : (k : ℕ) (placement : FuncPlacement) (loop : LoopPosition) → IsReached schedule.standings k placement → placement.place ≡ places.At loop
    → loop.func ≡ consumer
    → (x y : ℕ) → box_points boxes.funcs k x y ≡ true → loaded (record { source = sources.Func k; x = x; y = y }) ≡ true) where
  abbrev extents : Extents
  extents = extents_of source_box

  abbrev counts : loops.Values
  counts = loops.counts extents plan.pure.splits

  abbrev loops_in : List Loop
  loops_in = plan.pure.loops

  abbrev begun : AnswerWords pipeline.inputs (reads_of dark (pixels pipeline.funcs dark 0))
  begun = dark_words pipeline

  stage_is : IsStageOf func None plan.pure
  stage_is = (staged pipeline schedule boxes consumer func plan source_box accepted is places.Root tt at).0

  unique : Unique loops_in
  unique = (sound_made (plain func None) stage_is.made).unique

  -- a visit that may be written
  abbrev pub Good : loops.Values → Type 0
  Good inner = IsVisitOf func None extents (visit_of extents inner) × (written consumer (inner (ids.Whole variables.FirstArgument))
      (inner (ids.Whole variables.SecondArgument)) ≡ true)

  -- ---- nests at a loop

  module _ (inside : List Loop) (mid : Loop) (outside : List Loop) (loops_are : loops_in ≡ inside ++ mid ∷ outside) (in_task : loops.Values)
      (are : AreIterations counts (mid ∷ outside) in_task) where
    abbrev loop_here : LoopPosition
    loop_here = record { func = consumer; inside = mid.id }

    abbrev values : List ℕ
    values = iterations_for schedule.funcs (places.At loop_here) (consuming consumer in_task)

    values_are : values ≡ values_in plan mid.id in_task
    values_are = consumers.iterations_are pipeline schedule boxes rules accepted is consumer func plan source_box at dark begun inside mid outside loops_are in_task are

    module _ (g : ℕ) (nested : Func) (nested_plan : FuncPlan) (box : SourceBox) (parts : IsComputedAt pipeline schedule boxes (places.At loop_here) g nested
        nested_plan box) where
      below : Below (values_in plan mid.id in_task) box.lasts
      below = consumers.below pipeline schedule boxes rules accepted is consumer func plan source_box at dark begun inside mid outside loops_are in_task are g nested
          nested_plan box parts

      before : g < consumer
      before = consumers.g_before pipeline schedule boxes rules accepted is consumer func plan source_box at dark begun inside mid outside loops_are in_task are g
          nested nested_plan box parts

      points_are : (x y : ℕ) → box_points boxes.funcs g x y ≡ has_point (Some box) x y
      points_are x y = ap (λ (o : Option (Option SourceBox)). has_point (box_in o) x y) parts.box_is

      may : MayTouch pipeline schedule boxes consumer g nested box values reads written loaded in_task
      may = record {
        writes = λ x y e. produced_writes g parts.standing loop_here parts.there parts.placed_is refl x y (points_are x y ∙ e);
        loads = λ x y e. produced_loads g parts.standing loop_here parts.there parts.placed_is refl x y (points_are x y ∙ e);
        pure = λ corners are_corners counters counters_are x y lies.
            let lies_here : LiesIn (values_in plan mid.id in_task) box x y = subst (λ (l : List ℕ). LiesIn l box x y) values_are lies in
            pure_loads pipeline schedule boxes rules accepted is (places.At loop_here) g nested nested_plan box before parts consumer func plan source_box at in_task
            (consumers.of_consumer pipeline schedule boxes rules accepted is consumer func plan source_box at dark begun inside mid outside loops_are in_task are g
            nested nested_plan box parts)
            counters (λ id. ap (values_in plan id) counters_are) corners are_corners reads words loaded inputs_load
            (λ k placement earlier there root. roots_load k placement (omega (arith, earlier, before)) there root)
            (λ k w loop placed. produced_loads k w.own loop w.there placed
            (consumers.of_consumer pipeline schedule boxes rules accepted is consumer func plan source_box at dark begun inside mid outside loops_are in_task are g
            nested nested_plan box parts k w loop placed))
            (values_in plan mid.id in_task) below x y lies_here
            (λ k w loop placed. (
              consumers.iterations_here pipeline schedule boxes rules accepted is consumer func plan source_box at dark begun inside mid outside
                  loops_are in_task are,
              lies_here,
            ));
        updates = λ corners are_corners counters counters_are number_at update update_is number x y few_points lies.
            let lies_here : LiesIn (values_in plan mid.id in_task) box x y = subst (λ (l : List ℕ). LiesIn l box x y) values_are lies in
            update_loads pipeline schedule boxes rules accepted is (places.At loop_here) g nested nested_plan box before parts consumer func plan source_box at in_task
            (consumers.of_consumer pipeline schedule boxes rules accepted is consumer func plan source_box at dark begun inside mid outside loops_are in_task are g
            nested nested_plan box parts)
            counters (λ id. ap (values_in plan id) counters_are) corners are_corners reads words loaded inputs_load
            (λ k placement earlier there root. roots_load k placement (omega (arith, earlier, before)) there root)
            (λ k w loop placed. produced_loads k w.own loop w.there placed
            (consumers.of_consumer pipeline schedule boxes rules accepted is consumer func plan source_box at dark begun inside mid outside loops_are in_task are g
            nested nested_plan box parts k w loop placed))
            (values_in plan mid.id in_task) below x y lies_here
            (λ k w loop placed. (
              consumers.iterations_here pipeline schedule boxes rules accepted is consumer func plan source_box at dark begun inside mid outside
                  loops_are in_task are,
              lies_here,
            ))
            number_at update update_is number few_points;
      }

      sound_one : (statement : Stmt) → IsSoundNest pipeline schedule boxes loop_here g nested box statement
          → is_sound reads written loaded statement (consuming consumer in_task) ≡ true
      sound_one statement sound = sound reads words written loaded in_task (subst (λ (l : List ℕ). Below l box.lasts) (sym values_are) below) may

    pub sound_nests : (from : ℕ) (inner body : Stmt) → HasNests pipeline schedule boxes loop_here from inner body
        → is_sound reads written loaded inner (consuming consumer in_task) ≡ true
        → is_sound reads written loaded body (consuming consumer in_task) ≡ true
    sound_nests from inner _ (None_left _ _ all_seen) sound = sound
    sound_nests from inner body (One_more _ None _ rest _ none more does) sound = does.sound reads written loaded (consuming consumer in_task)
        ∙ sound_nests (suc from) inner rest more sound
    sound_nests from inner body (One_more _ (Some first) _ rest _ nest_of more does) sound =
        does.sound reads written loaded (consuming consumer in_task)
        ∙ and_from (is_sound reads written loaded first (consuming consumer in_task)) (is_sound reads written loaded rest (consuming consumer in_task))
        (sound_one from nest_of.func nest_of.plan nest_of.own nest_of.parts first nest_of.sound) (sound_nests (suc from) inner rest more sound)

  -- ---- the store of the consumer

  no_iterations_below : Below no_loops source_box.lasts
  no_iterations_below = consumers.no_iterations_below pipeline schedule boxes rules accepted is consumer func plan source_box at dark begun store store_of

  module _ (in_task : loops.Values) (are : AreIterations counts loops_in in_task) (good : AllByRecursion Good (wholes extents plan.pure.splits [] in_task)) where
    abbrev IsSoundAt : loops.Values → Type 0
    IsSoundAt inner = is_sound reads written loaded store (put_loops consumer inner (consuming consumer in_task)) ≡ true

    visited : AllByRecursion (λ inner. IsVisitOf func None extents (visit_of extents inner)) (wholes extents plan.pure.splits [] in_task)
    visited = all_so Good (λ inner. IsVisitOf func None extents (visit_of extents inner)) (λ inner g. g.0) (wholes extents plan.pure.splits [] in_task) good

    one_sound : (inner : loops.Values) → Contains (wholes extents plan.pure.splits [] in_task) inner → IsSoundAt inner
    one_sound inner listed =
        let g = of_all Good (wholes extents plan.pure.splits [] in_task) good inner listed in
        writing.sound pipeline schedule boxes rules accepted is places.Root consumer func plan source_box tt at store store_of dark no_loops no_iterations_below
        (consuming consumer in_task) (λ i. refl) inner g.0 reads written loaded g.1
        (pure_loads pipeline schedule boxes rules accepted is places.Root consumer func plan source_box tt at consumer func plan source_box at in_task
        (consumers.of_root pipeline schedule boxes rules accepted is consumer func plan source_box at dark begun store store_of in_task are visited)
        (put_loops consumer inner (consuming consumer in_task)) (λ id. ap (values_in plan id) (loops_put consumer inner (consuming consumer in_task))
        ∙ iterations_kept func plan.pure stage_is extents in_task inner listed (inner_count id loops_in))
        store_of.corners store_of.are_corners reads words loaded inputs_load roots_load
        (λ k w loop placed. produced_loads k w.own loop w.there placed (consumers.of_root pipeline schedule boxes rules accepted is consumer func plan source_box at
        dark begun store store_of in_task are visited k w loop placed))
        no_loops no_iterations_below
        (writing.across pipeline schedule boxes rules accepted is places.Root consumer func plan source_box tt at store store_of dark no_loops no_iterations_below
        (consuming consumer in_task) (λ i. refl) inner)
        (writing.down pipeline schedule boxes rules accepted is places.Root consumer func plan source_box tt at store store_of dark no_loops no_iterations_below
        (consuming consumer in_task) (λ i. refl) inner)
        (writing.lies pipeline schedule boxes rules accepted is places.Root consumer func plan source_box tt at store store_of dark no_loops no_iterations_below
        (consuming consumer in_task) (λ i. refl) inner g.0)
        (λ k w loop placed. consumers.reached pipeline schedule boxes rules accepted is consumer func plan source_box at dark begun store store_of in_task are visited
        inner listed loop.inside))

    sound_leaf : (leaf : Stmt) → Repeats consumer leaf store (wholes extents plan.pure.splits []) → AreSmall in_task
        → is_sound reads written loaded leaf (consuming consumer in_task) ≡ true
    sound_leaf leaf bound small =
        bound.sound reads written loaded (consuming consumer in_task) (subst AreSmall (sym (loops_consuming consumer in_task)) small)
        ∙ ap (λ (t : loops.Values). list_all (λ inner. is_sound reads written loaded store (put_loops consumer inner (consuming consumer in_task)))
        (wholes extents plan.pure.splits [] t)) (loops_consuming consumer in_task)
        ∙ all_pass (λ inner. is_sound reads written loaded store (put_loops consumer inner (consuming consumer in_task))) (wholes extents plan.pure.splits []
        in_task)
        (all_contained IsSoundAt (wholes extents plan.pure.splits [] in_task) one_sound)

  -- ---- loops

  abbrev pub AreSound : List Loop → Stmt → Type 0
  AreSound inside statement = (outside : List Loop) → loops_in ≡ inside ++ outside → (in_task : loops.Values) → AreSmall in_task → AreIterations counts outside in_task
      → AllByRecursion Good (wholes extents plan.pure.splits inside in_task) → is_sound reads written loaded statement (consuming consumer in_task) ≡ true

  module _ (inside : List Loop) (mid : Loop) (outside : List Loop) (loops_are : loops_in ≡ inside ++ mid ∷ outside) (in_task : loops.Values)
      (small : AreSmall in_task) (are : AreIterations counts outside in_task) (n : ℕ) (few_so : n < counts mid.id) where
    mid_iterations : AreIterations counts (mid ∷ outside) (loops.with mid.id n in_task)
    mid_iterations = (
      subst (λ (m : ℕ). m < counts mid.id) (sym (with_same mid.id n in_task)) few_so,
      iterations_with counts outside in_task mid.id n (none_outside inside mid outside (subst Unique loops_are unique)) are,
    )

    small_at : AreSmall (loops.with mid.id n in_task)
    small_at = small_with mid.id n in_task (omega (
      arith,
      few_so,
      iterations_few extents plan.pure.splits (few pipeline schedule boxes consumer func plan source_box accepted
          is places.Root tt at) (splits pipeline schedule boxes consumer func plan source_box accepted is places.Root tt at) mid.id,
    )) small

  pub sound_loops : (leaf : Stmt) (bound : Repeats consumer leaf store (wholes extents plan.pure.splits [])) (inside : List Loop) (statement : Stmt)
      → HasLoops pipeline schedule boxes consumer counts leaf inside statement → AreSound inside statement
  sound_loops leaf bound _ _ No_loops outside loops_are in_task small are good =
      sound_leaf in_task (subst (λ (l : List Loop). AreIterations counts l in_task) (sym loops_are) are) good leaf bound small
  sound_loops leaf bound _ statement (One_outside inside mid inner body _ within nested does around run_around) outside loops_are in_task small are good =
      let further : loops_in ≡ inside ++ mid ∷ outside = loops_are ∙ append_assoc inside (mid ∷ []) outside in
      let list_is = nest-append counts inside (mid ∷ []) (over_loops extents plan.pure.splits (λ (whole : loops.Values). whole ∷ [])) in_task in
      let seen : AllByRecursion Good (upto (counts mid.id) (λ iteration. wholes extents plan.pure.splits inside (loops.with mid.id iteration in_task))) =
      subst (λ (l : List loops.Values). AllByRecursion Good l) list_is good in
      does.sound reads written loaded (consuming consumer in_task)
      ∙ every_passes (counts mid.id) (λ iteration. is_sound reads written loaded body (with (record { func = consumer; id = mid.id }) iteration
      (consuming consumer in_task)))
      (λ n l.
      ap (is_sound reads written loaded body) (consuming_with consumer mid.id n in_task)
      ∙ sound_nests inside mid outside further (loops.with mid.id n in_task) (mid_iterations inside mid outside further in_task small are n l) 0 inner body nested
      (sound_loops leaf bound inside inner within (mid ∷ outside) further (loops.with mid.id n in_task) (small_at inside mid outside further in_task small are n
      l) (mid_iterations inside mid outside further in_task small are n l)
      (all_upto Good (λ iteration. wholes extents plan.pure.splits inside (loops.with mid.id iteration in_task)) (counts mid.id) seen n l)))
