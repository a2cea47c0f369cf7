-- What definitions load of the buffers of other sources: points that are there.
--
-- Whatever reads are answered by, as long as these are words: where points are read depends on these answers.
use Rattle.std.proofs.Common.{◌≡◌, ℕ, suc, ◌^◌, ◌<◌, Bool, true, false, List, [], ◌∷◌, Option, Some, None, refl, sym, ap, subst, ◌∙◌, arith, inl, inr}
use Rattle.std.proofs.Common.{true≢false}
use Rattle.std.specs.Prelude.{slice_get, nat_lt, Ok}
use Rattle.std.specs.List.{AllByRecursion}
use Rattle.std.proofs.lemmas.Bool.{and_from, lt-ltb, eq-eqb, ne_eqb}
use Rattle.halide_pipeline.specs.declared.definitions.Func.{Func}
use Rattle.halide_pipeline.specs.declared.definitions.Update.{Update}
use Rattle.halide_pipeline.specs.declared.expressions.Source.{Source}
use Rattle.halide_pipeline.specs.declared.expressions.Source.TheVariants as sources
use Rattle.halide_pipeline.specs.Pipelines.{Pipeline}
use Rattle.halide_pipeline.specs.WellFormed.{IsWellFormed}
use Rattle.halide_pipeline.specs.Words as word
use Rattle.halide_pipeline.specs.Pixel.{Reads}
use Rattle.halide_pipeline.specs.Pixel as pixel
use Rattle.halide_pipeline.specs.Points.{Point, Hold}
use Rattle.schedule_lines.specs.declared.stages.LoopId.{LoopId}
use Rattle.schedule.specs.declared.plans.FuncPlan.{FuncPlan}
use Rattle.schedule.specs.declared.schedules.Schedule.{Schedule}
use Rattle.schedule.specs.declared.placements.LoopPosition.{LoopPosition}
use Rattle.schedule.specs.declared.placements.ComputeLevel.{ComputeLevel}
use Rattle.schedule.specs.declared.placements.ComputeLevel.TheVariants as places
use Rattle.schedule.specs.declared.placements.FuncPlacement.{FuncPlacement}
use Rattle.schedule.specs.Accepted.{IsAccepted, IsPlan, IsLegal}
use Rattle.schedule.specs.Legal.{is_inlined, is_nowhere}
use Rattle.schedule.specs.Uses.{IsReached}
use Rattle.schedule.proofs.Uses.{IsSome, some_before}
use Rattle.schedule_loops.proofs.AcceptedStages.{pair_at}
use Rattle.schedule_loops.specs.Visits as loops
use Rattle.bounds_inlining.specs.Inlining.{flagged}
use Rattle.bounds_ranges.specs.Laws.{Below, AnswerWords}
use Rattle.bounds_weights.specs.Weight.{flags_of}
use Rattle.bounds.specs.declared.boxes.SourceBox.{SourceBox}
use Rattle.bounds.specs.declared.verdict.Boxes.{Boxes}
use Rattle.bounds.specs.Boxes.{no_loops, same_source}
use Rattle.bounds.specs.Extents.{extent}
use Rattle.bounds.specs.Verdict.{inferred}
use Rattle.bounds_laws.specs.Callers.{ReadsThrough, IsReadThrough, AreReadThrough, IsReadWithin}
use Rattle.bounds_laws.specs.Closure.{is_within}
use Rattle.bounds_laws.specs.ConsumerLaws.{values_in, MayBeArguments}
use Rattle.bounds_laws.specs.Laws.{LiesIn, IsBoxed, AreBoxed, IsComputed, IsNear, consumer_in, pure_points, update_points}
use Rattle.bounds_laws.proofs.BoxesProduced.{boxes_are_produced, points_are_near}
use Rattle.bounds_laws.proofs.Callers.{pure_points_are_read_through, update_points_are_read_through}
use Rattle.bounds_laws.proofs.Closure.{input_held}
use Rattle.bounds_laws.proofs.Found.{no_below, pure_reads_of_inputs_lie}
use Rattle.bounds_laws.proofs.FoundFuncs.{pure_reads_of_funcs_lie}
use Rattle.bounds_laws.proofs.LoopReads.{pure_reads_in_loops_lie, update_reads_in_loops_lie}
use Rattle.bounds_laws.proofs.PutIn.{pair_there}
use Rattle.bounds_laws.proofs.StandingWithin.{flag_is, readers_stand_within}
use Rattle.bounds_laws.proofs.Updates.{update_reads_of_inputs_lie, update_reads_of_funcs_lie}
use Rattle.loop_ir.specs.Counters.{Values}
use Rattle.lowering_nests.specs.Nests.{loops_of}
use Rattle.lowering_expressions.specs.declared.calls.Corner.{Corner}
use Rattle.lowering_expressions.specs.Lowering.{placed, answered_at, from_corner, corner_of, place as place_in}
use Rattle.lowering.specs.Corners.{first_of, iterations_for, iterations_at, AreCorners}
use Rattle.lowering.specs.Planes.{box_points}
use Rattle.bounds.specs.Stages.{IsComputedAt, IsAtRoot}
use Rattle.lowering.proofs.Facts.{is_box, produced_before}
use Rattle.lowering.proofs.Offsets.{offset_within}
use Rattle.lowering.proofs.Values.{corner_at, same_self}

-- ---- words, counted from corners

subtract_small : (a b : ℕ) → word.subtract a b < 2 ^ 32
unfolding word.subtract
subtract_small a b = omega arith

-- Buffers that answer words answer words from wherever they are counted.
module _ (pipeline : Pipeline) (corners : List Corner) (counters : Values) (reads : Reads) (words : AnswerWords pipeline.inputs reads) where
  words_by : (found_corner : Option Corner) (s : Source) (x y : ℕ) → x < 2 ^ 32 → y < 2 ^ 32 → answered_at reads (from_corner counters found_corner x y s) < 2 ^ 32
  words_by None s x y lx ly = words.words s x y lx ly
  words_by (Some corner) s x y lx ly = words.words s _ _ (subtract_small x _) (subtract_small y _)

  placed_word : (s : Source) (x y : ℕ) → x < 2 ^ 32 → y < 2 ^ 32 → placed corners counters reads s x y < 2 ^ 32
  unfolding placed
  placed_word s x y lx ly = words_by (corner_of corners s) s x y lx ly

  input_stays : (k x y : ℕ) → placed corners counters reads (sources.Input k) x y ≡ reads (sources.Input k) x y
  unfolding placed
  input_stays k x y = refl

  pub placed_words : AnswerWords pipeline.inputs (placed corners counters reads)
  placed_words = record {
    words = placed_word;
    bytes = λ k input there is_bytes x y. subst (λ (n : ℕ). n < 256) (sym (input_stays k x y)) (words.bytes k input there is_bytes x y);
  }

module _ (pipeline : Pipeline) (schedule : Schedule) (boxes : Boxes) (rules : IsWellFormed pipeline) (accepted : IsAccepted pipeline schedule)
    (is : inferred pipeline schedule ≡ Ok boxes)
    (placed_at : ComputeLevel) (reader : ℕ) (func : Func) (plan : FuncPlan) (source_box : SourceBox) (here : IsComputed reader placed_at) (at : IsComputedAt pipeline schedule
    boxes placed_at reader func plan source_box)
    (consumer : ℕ) (consumer_func : Func) (consumer_plan : FuncPlan) (consuming : SourceBox) (consumer_at : IsAtRoot pipeline schedule boxes consumer
    consumer_func consumer_plan consuming) (in_task : loops.Values)
    (of_consumer : (k : ℕ) (w : IsReadWithin schedule reader k) (loop : LoopPosition) → w.own.place ≡ places.At loop → loop.func ≡ consumer)
    (counters : Values) (counters_are : (id : LoopId) → values_in consumer_plan id (loops_of consumer counters) ≡ values_in consumer_plan id in_task)
    (corners : List Corner) (are : AreCorners schedule.funcs boxes.funcs schedule.standings corners)
    (reads : Reads) (words : AnswerWords pipeline.inputs reads) (loaded : Point → Bool)
    (inputs_load : (k x y : ℕ) → is_within (slice_get pipeline.inputs k) x y ≡ true → loaded (record { source = sources.Input k; x = x; y = y }) ≡ true)
    (roots_load : (k : ℕ) (placement : FuncPlacement) → k < reader → IsReached schedule.standings k placement → placement.place ≡ places.Root
    → (x y : ℕ) → box_points boxes.funcs k x y ≡ true → loaded (record { source = sources.Func k; x = x; y = y }) ≡ true)
    (produced_load : (k : ℕ) (w : IsReadWithin schedule reader k) (loop : LoopPosition) → w.own.place ≡ places.At loop
    → (x y : ℕ) → box_points boxes.funcs k x y ≡ true → loaded (record { source = sources.Func k; x = x; y = y }) ≡ true)
    (values : List ℕ) (below : Below values source_box.lasts) (x y : ℕ) (lies : LiesIn values source_box x y)
    (may_be : (k : ℕ) (w : IsReadWithin schedule reader k) (loop : LoopPosition) → w.own.place ≡ places.At loop
    → MayBeArguments consumer_func consumer_plan consuming loop.inside in_task placed_at source_box x y) where
  abbrev found : Reads
  found = placed corners counters reads

  abbrev point_at : Source → ℕ → ℕ → Point
  point_at s a b = record { source = s; x = a; y = b }

  abbrev IsLoaded : Point → Type 0
  IsLoaded point = loaded (place_in corners counters point) ≡ true

  answers : AnswerWords pipeline.inputs found
  answers = placed_words pipeline corners counters reads words

  -- ---- which Funcs are read

  reader_computed : IsComputed reader at.standing.place
  reader_computed = subst (λ (p : ComputeLevel). IsComputed reader p) (sym at.placed_is) here

  somewhere : (k : ℕ) → k < reader → (placement : FuncPlacement) → IsReached schedule.standings k placement → is_nowhere placement.place ≡ false
  somewhere k before placement there =
      let f = some_before pipeline.funcs reader k func at.func_is before in
      let p = pair_there IsPlan pipeline.funcs schedule.funcs k f.value accepted.plans f.is in
      (pair_at IsLegal schedule.funcs schedule.standings k p.value placement accepted.legal p.is there.standing there.reached).somewhere

  -- ---- a point that is read

  loads_in : (k a b : ℕ) (box : SourceBox) (iterations : List ℕ) (placement : FuncPlacement) → IsReached schedule.standings k placement → IsComputed k placement.place
      → slice_get boxes.funcs k ≡ Some (Some box)
      → iterations_for schedule.funcs placement.place counters ≡ iterations → LiesIn iterations box a b → ((i j : ℕ) → box_points boxes.funcs k i j ≡ true
      → loaded (point_at (sources.Func k) i j) ≡ true)
      → IsLoaded (point_at (sources.Func k) a b)
  loads_in k a b box iterations placement there computed box_is iterations_are inside all_load =
      let c = corner_at schedule.funcs boxes.funcs schedule.standings corners k (Some box) placement are box_is there.standing in
      let i = word.subtract a (first_of box.x iterations) in
      let j = word.subtract b (first_of box.y iterations) in
      let o = (boxes_are_produced pipeline schedule boxes is k placement there.standing there.reached computed box box_is).box in
      let x_is = (c.is counters).0 ∙ ap (first_of box.x) iterations_are in
      let y_is = (c.is counters).1 ∙ ap (first_of box.y) iterations_are in
      let lies_at : place_in corners counters (point_at (sources.Func k) a b) ≡ point_at (sources.Func k) i j = rw (c.there, x_is, y_is) refl in
      let there_so : box_points boxes.funcs k i j ≡ true =
      rw box_is (and_from (nat_lt i (extent box.x)) (nat_lt j (extent box.y)) (lt-ltb i (extent box.x) (offset_within box.lasts iterations box.x a inside.first
      o.x.ordered)) (lt-ltb j (extent box.y) (offset_within box.lasts iterations box.y b inside.second o.y.ordered))) in
      ap loaded lies_at ∙ all_load i j there_so

  iterations_are : (p : ComputeLevel) (loop : LoopPosition) → p ≡ places.At loop → loop.func ≡ consumer
      → iterations_for schedule.funcs p counters ≡ values_in consumer_plan loop.inside in_task
  iterations_are p loop e same =
      ap (λ (q : ComputeLevel). iterations_for schedule.funcs q counters) e
      ∙ ap (λ (q : Option FuncPlan). iterations_at loop q counters) (ap (λ (n : ℕ). slice_get schedule.funcs n) same ∙ consumer_at.plan_is)
      ∙ ap (λ (n : ℕ). values_in consumer_plan loop.inside (loops_of n counters)) same
      ∙ counters_are loop.inside

  -- what is known of points that are read
  record AreRead (count : ℕ) (list : List Point) : Type 0 where
    inputs : (k : ℕ) → AreBoxed no_loops (sources.Input k) (slice_get boxes.inputs k) list
    roots : (k : ℕ) (placement : FuncPlacement) → k < reader → IsReached schedule.standings k placement → placement.place ≡ places.Root
        → AreBoxed no_loops (sources.Func k) (slice_get boxes.funcs k) list
    produced : (k : ℕ) (w : IsReadWithin schedule reader k) (loop : LoopPosition) → w.own.place ≡ places.At loop
        → AreBoxed (values_in consumer_plan loop.inside in_task) (sources.Func k) (slice_get boxes.funcs k) list
    through : AreReadThrough pipeline schedule.standings reader count list

  func_loads : (k a b count : ℕ) (list : List Point) → AreRead count (point_at (sources.Func k) a b ∷ list) → flagged (flags_of schedule.standings) k ≡ false
      → ReadsThrough pipeline schedule.standings reader k
      → IsLoaded (point_at (sources.Func k) a b)
  func_loads k a b count list r plain through =
      let w = readers_stand_within pipeline schedule accepted reader at.standing at.there reader_computed k through in
      by_place w w.own.place refl
    where
      by_box : (w : IsReadWithin schedule reader k) → IsComputed k w.own.place → (iterations : List ℕ) → iterations_for schedule.funcs w.own.place counters ≡ iterations
          → ((i j : ℕ) → box_points boxes.funcs k i j ≡ true → loaded (point_at (sources.Func k) i j) ≡ true)
          → (answer : Option (Option SourceBox)) → slice_get boxes.funcs k ≡ answer → IsSome answer → IsBoxed iterations answer a b
          → IsLoaded (point_at (sources.Func k) a b)
      by_box w computed iterations so all_load None e some inside = let wrong = some.is in absurd cc
      by_box w computed iterations so all_load (Some None) e some inside = absurd inside
      by_box w computed iterations so all_load (Some (Some box)) e some inside = loads_in k a b box iterations w.own w.there computed e so inside all_load

      by_place : (w : IsReadWithin schedule reader k) (p : ComputeLevel) → w.own.place ≡ p → IsLoaded (point_at (sources.Func k) a b)
      by_place w places.Root e =
          by_box w (subst (λ (p : ComputeLevel). IsComputed k p) (sym e) tt) no_loops (ap (λ (p : ComputeLevel). iterations_for schedule.funcs p counters) e)
          (roots_load k w.own w.before w.there e)
          (slice_get boxes.funcs k) refl (some_before boxes.funcs reader k (Some source_box) at.box_is w.before) ((r.roots k w.own w.before w.there e).0 (same_self k))
      by_place w (places.At loop) e =
          by_box w (subst (λ (p : ComputeLevel). IsComputed k p) (sym e) (produced_before pipeline schedule accepted k w.own w.there loop e)) (values_in consumer_plan
          loop.inside in_task) (iterations_are w.own.place loop e (of_consumer k w loop e)) (produced_load k w loop e)
          (slice_get boxes.funcs k) refl (some_before boxes.funcs reader k (Some source_box) at.box_is w.before) ((r.produced k w loop e).0 (same_self k))
      by_place w places.Inlined e = absurd (true≢false (sym (flag_is schedule.standings k w.own w.there.standing ∙ ap is_inlined e) ∙ plain))
      by_place w places.Nowhere e = absurd (true≢false (sym (ap is_nowhere e) ∙ somewhere k w.before w.own w.there))

  one_loads : (s : Source) (a b count : ℕ) (list : List Point) → AreRead count (point_at s a b ∷ list)
      → IsReadThrough pipeline schedule.standings reader count s → same_source s (sources.Func reader) ≡ false
      → IsLoaded (point_at s a b)
  one_loads (sources.Input k) a b count list r some differs =
      inputs_load k a b (input_held pipeline schedule boxes rules accepted is reader source_box at.box_is values below x y lies k a b some
      ((r.inputs k).0 (eq-eqb k k refl)))
  one_loads (sources.Func k) a b count list r (plain, (few, inl e)) differs = absurd (true≢false (sym (eq-eqb k reader e) ∙ differs))
  one_loads (sources.Func k) a b count list r (plain, (few, inr through)) differs = func_loads k a b count list r plain through

  all_load : (count : ℕ) (list : List Point) → AreRead count list → AllByRecursion (λ point. same_source point.source (sources.Func reader) ≡ false
      → IsLoaded point) list
  all_load count [] r = tt
  all_load count (point ∷ list) r = (
    one_loads point.source point.x point.y count list r r.through.0,
    all_load count list (record {
      inputs = λ k. (r.inputs k).1;
      roots = λ k placement before there root. (r.roots k placement before there root).1;
      produced = λ k w loop e. (r.produced k w loop e).1;
      through = r.through.1;
    }),
  )

  -- ---- pure definitions

  not_own : (s : Source) → IsReadThrough pipeline schedule.standings reader reader s → same_source s (sources.Func reader) ≡ false
  not_own (sources.Input k) through = refl
  not_own (sources.Func k) (plain, (few, how)) = ne_eqb k reader (λ e. omega (arith, few, e))

  all_other : (list : List Point) → AreReadThrough pipeline schedule.standings reader reader list
      → AllByRecursion (λ point. same_source point.source (sources.Func reader) ≡ false → IsLoaded point) list
      → AllByRecursion IsLoaded list
  all_other [] through load = tt
  all_other (point ∷ list) through load = (load.0 (not_own point.source through.0), all_other list through.1 load.1)

  pure_read : AreRead reader (pure_points pipeline schedule found reader func x y)
  pure_read = record {
    inputs = λ k. pure_reads_of_inputs_lie pipeline schedule boxes rules is reader func source_box at.func_is at.box_is found answers values below x y lies k;
    roots = λ k placement before there root.
        pure_reads_of_funcs_lie pipeline schedule boxes rules is reader func source_box at.func_is at.box_is k placement before there.standing there.reached
        (subst (λ (p : ComputeLevel). IsComputed k p) (sym root) tt)
        None (ap (λ (p : ComputeLevel). consumer_in schedule boxes.funcs p) root) source_box refl found answers values below no_below x y lies;
    produced = λ k w loop e.
        let same = of_consumer k w loop e in
        pure_reads_in_loops_lie pipeline schedule boxes rules accepted is k w.own loop w.there.standing w.there.reached e consumer_func consumer_plan consuming
        (ap (λ (n : ℕ). slice_get pipeline.funcs n) same ∙ consumer_at.func_is) (ap (λ (n : ℕ). slice_get schedule.funcs n) same
        ∙ consumer_at.plan_is) (ap (λ (n : ℕ). slice_get boxes.funcs n) same ∙ consumer_at.box_is)
        reader func at.standing source_box w.before at.func_is at.there.standing at.there.reached at.box_is found answers in_task x y
        (subst (λ (p : ComputeLevel). MayBeArguments consumer_func consumer_plan consuming loop.inside in_task p source_box x y) (sym at.placed_is) (may_be k w loop e));
    through = pure_points_are_read_through pipeline schedule rules reader func at.func_is found x y;
  }

  pub pure_loads : Hold (λ point. loaded (place_in corners counters point)) (pure_points pipeline schedule found reader func x y)
  pure_loads =
      all_other (pure_points pipeline schedule found reader func x y) (pure_points_are_read_through pipeline schedule rules reader func at.func_is found x y)
      (all_load reader (pure_points pipeline schedule found reader func x y) pure_read)

  -- ---- updates

  module _ (number_at : ℕ) (update : Update) (update_is : slice_get func.updates number_at ≡ Some update) (number : ℕ) (few : number < pixel.points update)
    where
      near : IsNear x × IsNear y
      near = points_are_near source_box (is_box pipeline schedule boxes reader func plan source_box accepted is placed_at here at) values below x y lies

      not_inlined : (p : ComputeLevel) → IsComputed reader p → is_inlined p ≡ false
      not_inlined places.Root c = refl
      not_inlined (places.At loop) c = refl
      not_inlined places.Inlined c = absurd c
      not_inlined places.Nowhere c = refl

      unflagged : flagged (flags_of schedule.standings) reader ≡ false
      unflagged = flag_is schedule.standings reader at.standing at.there.standing ∙ not_inlined at.standing.place reader_computed

      update_read : AreRead (suc reader) (update_points pipeline schedule found reader update number x y)
      update_read = record {
        inputs = λ k. update_reads_of_inputs_lie pipeline schedule boxes rules is reader func source_box at.func_is at.box_is number_at update update_is found answers
            values below x y lies near.0 near.1 number few k;
        roots = λ k placement before there root.
            update_reads_of_funcs_lie pipeline schedule boxes rules is reader func source_box at.func_is at.box_is number_at update update_is k placement before
            there.standing there.reached
            (subst (λ (p : ComputeLevel). IsComputed k p) (sym root) tt) None (ap (λ (p : ComputeLevel). consumer_in schedule boxes.funcs p) root) source_box refl found answers
            values
            below no_below x y lies near.0 near.1 number few;
        produced = λ k w loop e.
            let same = of_consumer k w loop e in
            update_reads_in_loops_lie pipeline schedule boxes rules accepted is k w.own loop w.there.standing w.there.reached e consumer_func consumer_plan
            consuming
            (ap (λ (n : ℕ). slice_get pipeline.funcs n) same ∙ consumer_at.func_is) (ap (λ (n : ℕ). slice_get schedule.funcs n) same
            ∙ consumer_at.plan_is) (ap (λ (n : ℕ). slice_get boxes.funcs n) same ∙ consumer_at.box_is)
            reader func at.standing source_box w.before at.func_is at.there.standing at.there.reached at.box_is number_at update update_is found answers in_task x y
            (subst (λ (p : ComputeLevel). MayBeArguments consumer_func consumer_plan consuming loop.inside in_task p source_box x y) (sym at.placed_is) (may_be k w loop e))
            near.0 near.1 number few;
        through = update_points_are_read_through pipeline schedule rules reader func at.func_is unflagged number_at update update_is found number x y;
      }

      pub update_loads : AllByRecursion (λ point. same_source point.source (sources.Func reader) ≡ false → loaded (place_in corners counters point) ≡ true)
          (update_points pipeline schedule found reader update number x y)
      update_loads = all_load (suc reader) (update_points pipeline schedule found reader update number x y) update_read
