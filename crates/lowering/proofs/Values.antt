-- What the store of a pure definition reads, and what it writes.
use Rattle.std.proofs.Common.{◌≡◌, ℕ, zero, suc, ◌<◌, true, false, List, [], ◌∷◌, Option, Some, None, refl, sym, ap, subst, ◌∙◌, arith, inl, inr, true≢false}
use Rattle.std.specs.Prelude.{slice_get, Ok}
use Rattle.std.specs.List.{AllByRecursion}
use Rattle.std.proofs.lemmas.Bool.{eq-eqb}
use Rattle.halide_pipeline.specs.declared.definitions.Func.{Func}
use Rattle.halide_pipeline.specs.declared.definitions.Update.{Update}
use Rattle.halide_pipeline.specs.declared.expressions.Source.{Source}
use Rattle.halide_pipeline.specs.declared.expressions.Source.TheVariants as sources
use Rattle.halide_pipeline.specs.WellFormed.{dimensions, is_argument, IsWellFormed}
use Rattle.halide_pipeline.specs.Pipelines.{Pipeline}
use Rattle.halide_pipeline.specs.Words as word
use Rattle.halide_pipeline.specs.Pixel.{Planes, Reads, reads_of, pixels, value, variable, at_point}
use Rattle.halide_pipeline.specs.Pixel as pixel
use Rattle.halide_pipeline.specs.Points.{Point, Seen, Agree}
use Rattle.schedule_lines.specs.declared.stages.LoopId.{LoopId}
use Rattle.schedule.specs.declared.plans.FuncPlan.{FuncPlan}
use Rattle.schedule.specs.declared.schedules.Schedule.{Schedule}
use Rattle.schedule.specs.declared.placements.LoopPosition.{LoopPosition}
use Rattle.schedule.specs.declared.placements.ComputeLevel.{ComputeLevel}
use Rattle.schedule.specs.declared.placements.ComputeLevel.TheVariants as places
use Rattle.schedule.specs.declared.placements.FuncPlacement.{FuncPlacement}
use Rattle.schedule.specs.Accepted.{IsAccepted, IsPlan, IsLegal}
use Rattle.schedule.specs.Placements.{calls, updates_call, func_calls, place_calls, place_calls_of}
use Rattle.schedule.specs.Legal.{is_inlined, is_nowhere}
use Rattle.schedule.specs.Uses.{IsReached}
use Rattle.schedule.proofs.Uses.{IsSome, some_before}
use Rattle.schedule_loops.proofs.AcceptedStages.{pair_at}
use Rattle.schedule_loops.specs.Visits as loops
use Rattle.bounds_inlining.specs.Inlining.{inlined, flagged}
use Rattle.bounds_inlining.specs.Values.{values as valuing}
use Rattle.bounds_inlining.proofs.Pixels.{inlining_keeps_values}
use Rattle.bounds_inlining.proofs.Seeing.{sees_inlined_values, inlined_values_depend_on_reads}
use Rattle.bounds_ranges.specs.Laws.{Below, AnswerWords}
use Rattle.bounds_ranges.proofs.PixelWords.{pixels_are_words}
use Rattle.bounds_weights.specs.Weight.{flags_of}
use Rattle.bounds.specs.declared.boxes.SourceBox.{SourceBox}
use Rattle.bounds.specs.declared.verdict.Boxes.{Boxes}
use Rattle.bounds.specs.Boxes.{no_loops, IsBox, same_source}
use Rattle.bounds.specs.Verdict.{inferred}
use Rattle.bounds_laws.specs.Callers.{ReadsThrough, IsReadThrough, AreReadThrough, IsReadWithin}
use Rattle.bounds_laws.specs.ConsumerLaws.{values_in, MayBeArguments}
use Rattle.bounds_laws.specs.Laws.{LiesIn, IsBoxed, AreBoxed, IsComputed, IsNear, consumer_in, pure_points, update_points}
use Rattle.bounds_laws.proofs.BoxesProduced.{boxes_are_produced, points_are_near}
use Rattle.bounds_laws.proofs.Callers.{pure_points_are_read_through, update_points_are_read_through, or_left}
use Rattle.bounds_laws.proofs.Found.{no_below}
use Rattle.bounds_laws.proofs.FoundFuncs.{pure_reads_of_funcs_lie}
use Rattle.bounds_laws.proofs.LoopReads.{pure_reads_in_loops_lie, update_reads_in_loops_lie}
use Rattle.bounds_laws.proofs.PutIn.{put, flags, same_seen, put_simple, reaching, reached, pair_there}
use Rattle.bounds_laws.proofs.StandingWithin.{flag_is, readers_stand_within}
use Rattle.bounds_laws.proofs.Updates.{update_reads_of_funcs_lie}
use Rattle.loop_ir.specs.Counters.{Values}
use Rattle.lowering_nests.specs.Nests.{loops_of}
use Rattle.lowering_expressions.specs.declared.calls.Corner.{Corner}
use Rattle.lowering_expressions.specs.Lowering.{placed}
use Rattle.lowering.specs.Corners.{first_of, iterations_for, iterations_at, IsCornerOf, AreCorners}
use Rattle.lowering.specs.Consuming.{Holds, Keeps}
use Rattle.bounds.specs.Stages.{IsComputedAt, IsAtRoot}
use Rattle.lowering.proofs.Facts.{produced_before}
use Rattle.lowering.proofs.Offsets.{offset_within, offset_back}

-- ---- corners

pub record HasCorner (plans : List FuncPlan) (corners : List Corner) (k : ℕ) (level : ComputeLevel) (source_box : Option SourceBox) : Type 0 where
  pub corner : Corner
  pub there : slice_get corners k ≡ Some corner
  pub is : IsCornerOf plans level source_box corner

pub corner_at : (plans : List FuncPlan) (boxes : List (Option SourceBox)) (standings : List FuncPlacement) (corners : List Corner) (k : ℕ) (source_box : Option SourceBox)
    (placement : FuncPlacement)
    → AreCorners plans boxes standings corners → slice_get boxes k ≡ Some source_box
    → slice_get standings k ≡ Some placement
    → HasCorner plans corners k placement.place source_box
corner_at plans [] standings corners k source_box placement are there stands = absurd cc
corner_at plans (first ∷ boxes) [] corners k source_box placement are there stands = absurd cc
corner_at plans (first ∷ boxes) (other ∷ standings) [] k source_box placement are there stands = absurd are
corner_at plans (first ∷ boxes) (other ∷ standings) (corner ∷ corners) zero source_box placement are there stands =
    let same : first ≡ source_box = cc in
    let same_standing : other ≡ placement = cc in
    record {
      corner = corner;
      there = refl;
      is = subst (λ (o : Option SourceBox). IsCornerOf plans placement.place o corner) same
          (subst (λ (s : FuncPlacement). IsCornerOf plans s.place first corner) same_standing are.0);
    }
corner_at plans (first ∷ boxes) (other ∷ standings) (corner ∷ corners) (suc k) source_box placement are there stands =
    let h = corner_at plans boxes standings corners k source_box placement are.1 there stands in
    record { corner = h.corner; there = h.there; is = h.is }

not_inlined : (k : ℕ) (p : ComputeLevel) → IsComputed k p → is_inlined p ≡ false
not_inlined k places.Root c = refl
not_inlined k (places.At at) c = refl
not_inlined k places.Inlined c = absurd c
not_inlined k places.Nowhere c = refl

pub same_self : (k : ℕ) → same_source (sources.Func k) (sources.Func k) ≡ true
same_self k = eq-eqb k k refl

module _ (pipeline : Pipeline) (schedule : Schedule) (boxes : Boxes) (rules : IsWellFormed pipeline) (accepted : IsAccepted pipeline schedule)
    (is : inferred pipeline schedule ≡ Ok boxes)
    (placed_at : ComputeLevel) (reader : ℕ) (func : Func) (plan : FuncPlan) (source_box : SourceBox) (here : IsComputed reader placed_at) (at : IsComputedAt pipeline schedule
    boxes placed_at reader func plan source_box)
    (inputs : Planes) where
  -- what reads are answered by
  abbrev wanted : Reads
  wanted = reads_of inputs (pixels pipeline.funcs inputs reader)

  -- ---- which Funcs are read

  reader_computed : IsComputed reader at.standing.place
  reader_computed = subst (λ (p : ComputeLevel). IsComputed reader p) (sym at.placed_is) here

  somewhere : (k : ℕ) → k < reader → (placement : FuncPlacement) → IsReached schedule.standings k placement → is_nowhere placement.place ≡ false
  somewhere k before placement there =
      let f = some_before pipeline.funcs reader k func at.func_is before in
      let p = pair_there IsPlan pipeline.funcs schedule.funcs k f.value accepted.plans f.is in
      (pair_at IsLegal schedule.funcs schedule.standings k p.value placement accepted.legal p.is there.standing there.reached).somewhere

  computed_by : (k : ℕ) (placement : FuncPlacement) → IsReached schedule.standings k placement → (p : ComputeLevel) → placement.place ≡ p → is_inlined p ≡ false
      → is_nowhere p ≡ false → IsComputed k p
  computed_by k placement there places.Root e plain some = tt
  computed_by k placement there (places.At consumer) e plain some = produced_before pipeline schedule accepted k placement there consumer e
  computed_by k placement there places.Inlined e plain some = absurd (true≢false plain)
  computed_by k placement there places.Nowhere e plain some = absurd (true≢false some)

  module _ (begun : AnswerWords pipeline.inputs (reads_of inputs (pixels pipeline.funcs inputs 0)))
      (consumer : ℕ) (consumer_func : Func) (consumer_plan : FuncPlan) (consuming : SourceBox) (consumer_at : IsAtRoot pipeline schedule boxes consumer
      consumer_func consumer_plan consuming) (in_task : loops.Values)
      (funcs : Planes)
      (roots_hold : (k : ℕ) (placement : FuncPlacement) → k < reader → IsReached schedule.standings k placement → placement.place ≡ places.Root
      → (box : SourceBox) → slice_get boxes.funcs k ≡ Some (Some box) → Holds k box no_loops (pixels pipeline.funcs inputs reader k) funcs)
      (of_consumer : (k : ℕ) (w : IsReadWithin schedule reader k) (loop : LoopPosition) → w.own.place ≡ places.At loop → loop.func ≡ consumer)
      (loops_hold : (k : ℕ) (w : IsReadWithin schedule reader k) (loop : LoopPosition) → w.own.place ≡ places.At loop
      → (box : SourceBox) → slice_get boxes.funcs k ≡ Some (Some box)
      → Holds k box (values_in consumer_plan loop.inside in_task) (pixels pipeline.funcs inputs reader k) funcs)
      (counters : Values) (counters_are : (id : LoopId) → values_in consumer_plan id (loops_of consumer counters) ≡ values_in consumer_plan id in_task)
      (corners : List Corner) (are : AreCorners schedule.funcs boxes.funcs schedule.standings corners) (now : Planes) (keeps : Keeps reader funcs now) where
    words : AnswerWords pipeline.inputs wanted
    words = pixels_are_words pipeline.inputs pipeline.funcs inputs rules.funcs begun reader

    abbrev found_reads : Reads
    found_reads = placed corners counters (reads_of inputs now)

    -- ---- a point that is read

    ordered : (k : ℕ) (placement : FuncPlacement) → IsReached schedule.standings k placement → IsComputed k placement.place → (box : SourceBox)
        → slice_get boxes.funcs k ≡ Some (Some box) → IsBox box
    ordered k placement there computed box box_is = (boxes_are_produced pipeline schedule boxes is k placement there.standing there.reached computed box
        box_is).box

    found_in : (k a b : ℕ) (box : SourceBox) (values : List ℕ) (placement : FuncPlacement) → IsReached schedule.standings k placement → IsComputed k placement.place
        → slice_get boxes.funcs k ≡ Some (Some box)
        → iterations_for schedule.funcs placement.place counters ≡ values → LiesIn values box a b → k < reader
        → Holds k box values (pixels pipeline.funcs inputs reader k) funcs
        → found_reads (sources.Func k) a b ≡ pixels pipeline.funcs inputs reader k a b
    unfolding placed
    found_in k a b box values placement there computed box_is iterations_are lies before holds =
        let c = corner_at schedule.funcs boxes.funcs schedule.standings corners k (Some box) placement are box_is there.standing in
        let i = word.subtract a (first_of box.x values) in
        let j = word.subtract b (first_of box.y values) in
        let o = ordered k placement there computed box box_is in
        let x_is = (c.is counters).0 ∙ ap (first_of box.x) iterations_are in
        let y_is = (c.is counters).1 ∙ ap (first_of box.y) iterations_are in
        let lies_at : found_reads (sources.Func k) a b ≡ now k i j = rw (c.there, x_is, y_is) refl in
        lies_at ∙ keeps k i j (λ e. omega (arith, e, before))
        ∙ holds i j (offset_within box.lasts values box.x a lies.first o.x.ordered) (offset_within box.lasts values box.y b lies.second o.y.ordered)
        ∙ ap (λ (n : ℕ). pixels pipeline.funcs inputs reader k n (word.add (first_of box.y values) j)) (offset_back box.lasts values box.x a lies.first)
        ∙ ap (λ (n : ℕ). pixels pipeline.funcs inputs reader k a n) (offset_back box.lasts values box.y b lies.second)

    -- the iterations of its consumer's loops that a Func at one of them is counted from
    iterations_are : (level : ComputeLevel) (loop : LoopPosition) → level ≡ places.At loop → loop.func ≡ consumer → iterations_for schedule.funcs level counters
        ≡ values_in consumer_plan loop.inside in_task
    iterations_are level loop e same =
        ap (λ (p : ComputeLevel). iterations_for schedule.funcs p counters) e
        ∙ ap (λ (p : Option FuncPlan). iterations_at loop p counters) (ap (λ (n : ℕ). slice_get schedule.funcs n) same ∙ consumer_at.plan_is)
        ∙ ap (λ (n : ℕ). values_in consumer_plan loop.inside (loops_of n counters)) same
        ∙ counters_are loop.inside

    -- ---- all points that are read

    record AreRead (list : List Point) : Type 0 where
      roots : (k : ℕ) (placement : FuncPlacement) → k < reader → IsReached schedule.standings k placement → placement.place ≡ places.Root
          → AreBoxed no_loops (sources.Func k) (slice_get boxes.funcs k) list
      produced : (k : ℕ) (w : IsReadWithin schedule reader k) (loop : LoopPosition) → w.own.place ≡ places.At loop
          → AreBoxed (values_in consumer_plan loop.inside in_task) (sources.Func k) (slice_get boxes.funcs k) list
      through : AreReadThrough pipeline schedule.standings reader reader list

    -- where a point of a Func lies that is read
    record LiesThere (k a b : ℕ) : Type 0 where
      roots : (placement : FuncPlacement) → k < reader → IsReached schedule.standings k placement → placement.place ≡ places.Root
          → IsBoxed no_loops (slice_get boxes.funcs k) a b
      produced : (w : IsReadWithin schedule reader k) (loop : LoopPosition) → w.own.place ≡ places.At loop
          → IsBoxed (values_in consumer_plan loop.inside in_task) (slice_get boxes.funcs k) a b

    of_list : (k a b : ℕ) (list : List Point) → AreRead (record { source = sources.Func k; x = a; y = b } ∷ list) → LiesThere k a b
    of_list k a b list r = record {
      roots = λ placement before there root. (r.roots k placement before there root).0 (same_self k);
      produced = λ w loop e. (r.produced k w loop e).0 (same_self k);
    }

    one_through : (k a b : ℕ) → LiesThere k a b → flagged (flags_of schedule.standings) k ≡ false → ReadsThrough pipeline schedule.standings reader k
        → found_reads (sources.Func k) a b ≡ pixels pipeline.funcs inputs reader k a b
    one_through k a b r plain through =
        let w = readers_stand_within pipeline schedule accepted reader at.standing at.there reader_computed k through in
        by_place w w.own.place refl (sym (flag_is schedule.standings k w.own w.there.standing) ∙ plain) (somewhere k w.before w.own w.there)
      where
        by_box : (w : IsReadWithin schedule reader k) → IsComputed k w.own.place → (values : List ℕ) → iterations_for schedule.funcs w.own.place counters ≡ values
            → ((box : SourceBox) → slice_get boxes.funcs k ≡ Some (Some box) → Holds k box values (pixels pipeline.funcs inputs reader k) funcs)
            → (answer : Option (Option SourceBox)) → slice_get boxes.funcs k ≡ answer → IsSome answer → IsBoxed values answer a b
            → found_reads (sources.Func k) a b ≡ pixels pipeline.funcs inputs reader k a b
        by_box w computed values iterations holds None e some lies = let wrong = some.is in absurd cc
        by_box w computed values iterations holds (Some None) e some lies = absurd lies
        by_box w computed values iterations holds (Some (Some box)) e some lies = found_in k a b box values w.own w.there computed e iterations lies w.before
            (holds box e)

        by_place : (w : IsReadWithin schedule reader k) (p : ComputeLevel) → w.own.place ≡ p → is_inlined w.own.place ≡ false → is_nowhere w.own.place ≡ false
            → found_reads (sources.Func k) a b ≡ pixels pipeline.funcs inputs reader k a b
        by_place w places.Root e plain some =
            by_box w (subst (λ (p : ComputeLevel). IsComputed k p) (sym e) tt) no_loops (ap (λ (p : ComputeLevel). iterations_for schedule.funcs p counters) e)
            (roots_hold k w.own w.before w.there e)
            (slice_get boxes.funcs k) refl (some_before boxes.funcs reader k (Some source_box) at.box_is w.before) (r.roots w.own w.before w.there e)
        by_place w (places.At loop) e plain some =
            by_box w (subst (λ (p : ComputeLevel). IsComputed k p) (sym e) (produced_before pipeline schedule accepted k w.own w.there loop e))
            (values_in consumer_plan loop.inside in_task)
            (iterations_are w.own.place loop e (of_consumer k w loop e)) (loops_hold k w loop e)
            (slice_get boxes.funcs k) refl (some_before boxes.funcs reader k (Some source_box) at.box_is w.before) (r.produced w loop e)
        by_place w places.Inlined e plain some = absurd (true≢false (sym (ap is_inlined e) ∙ plain))
        by_place w places.Nowhere e plain some = absurd (true≢false (sym (ap is_nowhere e) ∙ some))

    one_agrees : (s : Source) (a b : ℕ) (list : List Point) → AreRead (record { source = s; x = a; y = b } ∷ list)
        → IsReadThrough pipeline schedule.standings reader reader s → found_reads s a b ≡ wanted s a b
    unfolding placed
    one_agrees (sources.Input k) a b list r through = refl
    one_agrees (sources.Func k) a b list r (plain, (few, inl e)) = absurd (omega (arith, few, e))
    one_agrees (sources.Func k) a b list r (plain, (few, inr through)) = one_through k a b (of_list k a b list r) plain through

    all_agree : (list : List Point) → AreRead list → Agree wanted found_reads list
    all_agree [] r = tt
    all_agree (point ∷ list) r = (
      one_agrees point.source point.x point.y list r r.through.0,
      all_agree list (record {
        roots = λ k placement before there root. (r.roots k placement before there root).1;
        produced = λ k w loop e. (r.produced k w loop e).1;
        through = r.through.1;
      }),
    )

    module _ (values : List ℕ) (below : Below values source_box.lasts) (x y : ℕ) (lies : LiesIn values source_box x y)
        (may_be : (k : ℕ) (w : IsReadWithin schedule reader k) (loop : LoopPosition) → w.own.place ≡ places.At loop
        → MayBeArguments consumer_func consumer_plan consuming loop.inside in_task placed_at source_box x y) where
      are_read : AreRead (pure_points pipeline schedule wanted reader func x y)
      are_read = record {
        roots = λ k placement before there root.
            pure_reads_of_funcs_lie pipeline schedule boxes rules is reader func source_box at.func_is at.box_is k placement before there.standing there.reached
            (subst (λ (p : ComputeLevel). IsComputed k p) (sym root) tt)
            None (ap (λ (p : ComputeLevel). consumer_in schedule boxes.funcs p) root) source_box refl wanted words values below no_below x y lies;
        produced = λ k w loop e.
            let same = of_consumer k w loop e in
            pure_reads_in_loops_lie pipeline schedule boxes rules accepted is k w.own loop w.there.standing w.there.reached e consumer_func consumer_plan
            consuming
            (ap (λ (n : ℕ). slice_get pipeline.funcs n) same ∙ consumer_at.func_is) (ap (λ (n : ℕ). slice_get schedule.funcs n) same
            ∙ consumer_at.plan_is) (ap (λ (n : ℕ). slice_get boxes.funcs n) same ∙ consumer_at.box_is)
            reader func at.standing source_box w.before at.func_is at.there.standing at.there.reached at.box_is wanted words in_task x y
            (subst (λ (p : ComputeLevel). MayBeArguments consumer_func consumer_plan consuming loop.inside in_task p source_box x y) (sym at.placed_is) (may_be k w loop e));
        through = pure_points_are_read_through pipeline schedule rules reader func at.func_is wanted x y;
      }

      pub answered : Agree wanted found_reads (pure_points pipeline schedule wanted reader func x y)
      answered = all_agree (pure_points pipeline schedule wanted reader func x y) are_read

    -- ---- all points that an update reads of other Funcs

    record AreReadBeside (list : List Point) : Type 0 where
      roots : (k : ℕ) (placement : FuncPlacement) → k < reader → IsReached schedule.standings k placement → placement.place ≡ places.Root
          → AreBoxed no_loops (sources.Func k) (slice_get boxes.funcs k) list
      produced : (k : ℕ) (w : IsReadWithin schedule reader k) (loop : LoopPosition) → w.own.place ≡ places.At loop
          → AreBoxed (values_in consumer_plan loop.inside in_task) (sources.Func k) (slice_get boxes.funcs k) list
      through : AreReadThrough pipeline schedule.standings reader (suc reader) list

    one_beside : (s : Source) (a b : ℕ) (list : List Point) → AreReadBeside (record { source = s; x = a; y = b } ∷ list)
        → IsReadThrough pipeline schedule.standings reader (suc reader) s
        → same_source s (sources.Func reader) ≡ false → found_reads s a b ≡ wanted s a b
    unfolding placed
    one_beside (sources.Input k) a b list r through other = refl
    one_beside (sources.Func k) a b list r (plain, (few, inl e)) other = absurd (true≢false (sym (eq-eqb k reader e) ∙ other))
    one_beside (sources.Func k) a b list r (plain, (few, inr through)) other =
        one_through k a b
        (record {
          roots = λ placement before there root. (r.roots k placement before there root).0 (same_self k);
          produced = λ w loop e. (r.produced k w loop e).0 (same_self k);
        })
        plain through

    all_beside : (list : List Point) → AreReadBeside list
        → AllByRecursion (λ point. same_source point.source (sources.Func reader) ≡ false
        → found_reads point.source point.x point.y ≡ wanted point.source point.x point.y) list
    all_beside [] r = tt
    all_beside (point ∷ list) r = (
      one_beside point.source point.x point.y list r r.through.0,
      all_beside list (record {
        roots = λ k placement before there root. (r.roots k placement before there root).1;
        produced = λ k w loop e. (r.produced k w loop e).1;
        through = r.through.1;
      }),
    )

    module _ (values : List ℕ) (below : Below values source_box.lasts) (x y : ℕ) (lies : LiesIn values source_box x y)
        (may_be : (k : ℕ) (w : IsReadWithin schedule reader k) (loop : LoopPosition) → w.own.place ≡ places.At loop
        → MayBeArguments consumer_func consumer_plan consuming loop.inside in_task placed_at source_box x y)
        (number_at : ℕ) (update : Update) (update_is : slice_get func.updates number_at ≡ Some update) (number : ℕ) (few : number < pixel.points update)
        (reads : Reads) (read_words : AnswerWords pipeline.inputs reads) where
      near : IsNear x × IsNear y
      near = points_are_near source_box (boxes_are_produced pipeline schedule boxes is reader at.standing at.there.standing at.there.reached reader_computed source_box
          at.box_is).box values below x y lies

      unflagged : flagged (flags_of schedule.standings) reader ≡ false
      unflagged = flag_is schedule.standings reader at.standing at.there.standing ∙ (ap is_inlined at.placed_is ∙ not_inlined reader placed_at here)

      update_read : AreReadBeside (update_points pipeline schedule reads reader update number x y)
      update_read = record {
        roots = λ k placement before there root.
            update_reads_of_funcs_lie pipeline schedule boxes rules is reader func source_box at.func_is at.box_is number_at update update_is k placement before
            there.standing there.reached
            (subst (λ (p : ComputeLevel). IsComputed k p) (sym root) tt) None (ap (λ (p : ComputeLevel). consumer_in schedule boxes.funcs p) root) source_box refl reads read_words
            values below no_below x y lies near.0 near.1 number few;
        produced = λ k w loop e.
            let same = of_consumer k w loop e in
            update_reads_in_loops_lie pipeline schedule boxes rules accepted is k w.own loop w.there.standing w.there.reached e consumer_func consumer_plan
            consuming
            (ap (λ (n : ℕ). slice_get pipeline.funcs n) same ∙ consumer_at.func_is) (ap (λ (n : ℕ). slice_get schedule.funcs n) same
            ∙ consumer_at.plan_is) (ap (λ (n : ℕ). slice_get boxes.funcs n) same ∙ consumer_at.box_is)
            reader func at.standing source_box w.before at.func_is at.there.standing at.there.reached at.box_is number_at update update_is reads read_words in_task x y
            (subst (λ (p : ComputeLevel). MayBeArguments consumer_func consumer_plan consuming loop.inside in_task p source_box x y) (sym at.placed_is) (may_be k w loop e))
            near.0 near.1 number few;
        through = update_points_are_read_through pipeline schedule rules reader func at.func_is unflagged number_at update update_is reads number x y;
      }

      pub answered_beside : AllByRecursion (λ point. same_source point.source (sources.Func reader) ≡ false
          → found_reads point.source point.x point.y ≡ wanted point.source point.x point.y)
          (update_points pipeline schedule reads reader update number x y)
      answered_beside = all_beside (update_points pipeline schedule reads reader update number x y) update_read

  -- ---- the value

  is_reached_here : reached pipeline schedule reader ≡ true
  is_reached_here = rw at.there.standing at.there.reached

  calling : (other : ℕ) → calls other func.pure ≡ true → place_calls pipeline reader other ≡ true
  unfolding place_calls func_calls
  calling other e = ap (place_calls_of other) at.func_is ∙ or_left (calls other func.pure) (updates_call other func.updates) e

  pub value_is : (found_reads : Reads) (x y : ℕ) → Agree wanted found_reads
      (pure_points pipeline schedule wanted reader func x y)
      → inlined (valuing found_reads) (flagged (flags_of schedule.standings)) pipeline.funcs reader (variable (at_point x y)) func.pure ≡ value wanted (at_point x y)
      func.pure
  value_is found_reads x y agree =
      inlined_values_depend_on_reads wanted found_reads (flags pipeline schedule) pipeline.funcs reader (at_point x y) func.pure agree
      ∙ sym (sees_inlined_values wanted (flags pipeline schedule) pipeline.funcs reader (at_point x y) func.pure)
      ∙ ap (λ (s : Seen). s.value)
      (same_seen pipeline schedule rules accepted wanted reader (at_point x y) (is_argument (dimensions func)) func.pure (rules.funcs reader func
      at.func_is).pure
      (reaching pipeline schedule rules accepted wanted reader is_reached_here func.pure calling))
      ∙ sees_inlined_values wanted (put pipeline schedule) pipeline.funcs reader (at_point x y) func.pure
      ∙ inlining_keeps_values wanted (put pipeline schedule) pipeline.inputs pipeline.funcs inputs rules.funcs (put_simple pipeline schedule accepted) reader
      (λ s n a b computed_so read. refl)
      (is_argument (dimensions func)) (at_point x y) func.pure (rules.funcs reader func at.func_is).pure
