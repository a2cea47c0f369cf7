-- Loops of a consumer with the nests of the Funcs that are computed at them.
--
-- In each iteration the Funcs that are computed at a loop, or at one outside of it, have their pixels in their buffers, each from the corner of its box
-- in these iterations on.
use Rattle.std.proofs.Common.{◌≡◌, ℕ, zero, suc, ◌+◌, ◌<◌, ◌≤◌, Bool, true, false, cond, List, [], ◌∷◌, ◌++◌, length, take, drop, Option, Some, None, refl, sym}
use Rattle.std.proofs.Common.{ap, subst, ◌∙◌, arith, inl, inr, true≢false, length-append, append_assoc}
use Rattle.std.specs.Prelude.{◌==◌, ◌&&◌, ◌||◌, slice_get, nat_lt, Contains, Ok}
use Rattle.std.specs.List.{AllByRecursion, list_any}
use Rattle.std.proofs.lemmas.Bool.{and_parts, or_parts, cases_eq, eqb-true, ltb-true}
use Rattle.std.proofs.lemmas.List.Folds.{list_any-append}
use Rattle.halide_pipeline.specs.declared.definitions.Func.{Func}
use Rattle.halide_pipeline.specs.declared.expressions.Variable.TheVariants as variables
use Rattle.halide_pipeline.specs.Pipelines.{Pipeline}
use Rattle.halide_pipeline.specs.WellFormed.{IsWellFormed}
use Rattle.halide_pipeline.specs.Words as word
use Rattle.halide_pipeline.specs.Pixel.{Plane, Planes, reads_of, with_plane, func_plane, pixels, stage}
use Rattle.halide_pipeline.specs.Points.{Agree}
use Rattle.halide_pipeline.proofs.Earlier.{pixels_before, pixels_fewer}
use Rattle.schedule_lines.specs.declared.stages.Loop.{Loop}
use Rattle.schedule_lines.specs.declared.stages.LoopId.{LoopId}
use Rattle.schedule_lines.specs.declared.stages.LoopId.TheVariants as ids
use Rattle.schedule.specs.declared.plans.FuncPlan.{FuncPlan}
use Rattle.schedule.specs.declared.schedules.Schedule.{Schedule}
use Rattle.schedule.specs.declared.placements.LoopPosition.{LoopPosition}
use Rattle.schedule.specs.declared.placements.ComputeLevel.{ComputeLevel}
use Rattle.schedule.specs.declared.placements.ComputeLevel.TheVariants as places
use Rattle.schedule.specs.declared.placements.FuncPlacement.{FuncPlacement}
use Rattle.schedule.specs.Accepted.{IsAccepted, IsPlan, IsConsumer, IsProduced as HasConsumer}
use Rattle.schedule.specs.Placements.{comes_first, pure_loops_of}
use Rattle.schedule.specs.Uses.{IsReached, IsRootReached, HasConsumerAtRoot}
use Rattle.schedule.proofs.Uses.{numbered_at, some_before}
use Rattle.schedule_loops.specs.declared.extents.Extents.{Extents}
use Rattle.schedule_loops.specs.Visits as loops
use Rattle.schedule_loops.specs.Reach.{wholes}
use Rattle.schedule_loops.specs.Runs.{AreIterations}
use Rattle.schedule_loops.specs.Stages.{IsStageOf, IsVisitOf, first_loops, has_variable, extent_in}
use Rattle.schedule_loops.specs.Visits.{upto, over_loops, visit_of}
use Rattle.schedule_loops.proofs.FirstLoops.{plain, sound_made}
use Rattle.schedule_loops.proofs.Nesting.{nest-append}
use Rattle.schedule_loops.proofs.Selecting.{Unique}
use Rattle.schedule_loops.proofs.IterationsFound.{of_all}
use Rattle.bounds_ranges.specs.Laws.{Below, AnswerWords}
use Rattle.bounds.specs.declared.boxes.SourceBox.{SourceBox}
use Rattle.bounds.specs.declared.verdict.Boxes.{Boxes}
use Rattle.bounds.specs.Boxes.{no_loops, lasts_of}
use Rattle.bounds.specs.Extents.{extent, extents_of}
use Rattle.bounds.specs.Verdict.{inferred}
use Rattle.bounds.specs.Views.{inner_count, consumer_loop, consumer_loop_in, lasts_in}
use Rattle.bounds_laws.specs.Callers.{IsReadWithin, StandsAt, HasLoop, IsWithin}
use Rattle.bounds_laws.specs.ConsumerLaws.{gone, IsFrom, IsTakenTo, IsReachedIn, AreIterationsFrom, iterations_from, values_in}
use Rattle.bounds_laws.specs.Laws.{LiesIn, pure_points}
use Rattle.bounds_laws.proofs.Found.{no_below}
use Rattle.bounds_laws.proofs.ConsumerArguments.{iterations_below}
use Rattle.bounds_laws.proofs.InViews.{consumer_is}
use Rattle.bounds_laws.proofs.PutIn.{pair_there}
use Rattle.bounds_laws.proofs.StandingWithin.{one_standing}
use Rattle.loop_ir.specs.declared.statements.Stmt.{Stmt}
use Rattle.loop_ir.specs.Counters.{Values, with}
use Rattle.loop_ir.specs.Running.{run, iterated}
use Rattle.lowering_nests.specs.Nests.{put_loops, all, AreSmall, Repeats}
use Rattle.lowering_expressions.specs.Lowering.{placed}
use Rattle.lowering.specs.Corners.{first_of, iterations_for, iterations_at}
use Rattle.lowering.specs.Consuming.{consuming, Holds, Keeps, Leaves, IsAnswered, AreUpdatesAnswered, DoesNests, IsNestAt, HasNests, None_left, One_more}
use Rattle.lowering.specs.Consuming.{HasLoops, No_loops, One_outside}
use Rattle.lowering.specs.Planes.{box_points}
use Rattle.lowering.specs.PurePhases.{IsStoreOf}
use Rattle.bounds.specs.Stages.{IsComputedAt, IsAtRoot}
use Rattle.lowering.proofs.Facts.{staged, lasts_are, produced_before, few, splits}
use Rattle.lowering_nests.proofs.Few.{iterations_few}
use Rattle.schedule_loops.proofs.Ids.{with_same}
use Rattle.lowering.proofs.Filling.{loops_consuming}
use Rattle.lowering.proofs.Lists.{all_upto}
use Rattle.lowering.proofs.LoopIterations.{count_at, counted_is, count_found, count_first, drop_front, iterations_drop, iterations_take, iterations_with, none_outside, iterations_stay}
use Rattle.lowering.proofs.LoopIterations.{consuming_with, small_with, nest_takes, all_contained}
use Rattle.lowering.proofs.Painting.{Writes, Paints, paints}
use Rattle.lowering.proofs.Offsets.{more_none, less_none}
use Rattle.lowering.proofs.SplitsApart.{loops_put, iterations_kept}
use Rattle.lowering.proofs.Values.{answered, answered_beside}
use Rattle.lowering.proofs.Writing as writing

or_first : (b c : Bool) → c ≡ false → (b || c) ≡ true → b ≡ true
or_first true c f e = refl
or_first false c f e = absurd (true≢false (sym e ∙ f))

some_length : {A : Type 0} (xs : List A) (k : ℕ) (x : A) → slice_get xs k ≡ Some x → k < length xs
some_length [] k x e = absurd cc
some_length (y ∷ ys) zero x e = omega arith
some_length (y ∷ ys) (suc k) x e = omega (arith, some_length ys k x e)

one_loop : (a b : LoopPosition) (p : ComputeLevel) → p ≡ places.At a → p ≡ places.At b → a ≡ b
one_loop a b p e f = cc

not_root : (p : ComputeLevel) (loop : LoopPosition) → p ≡ places.At loop → p ≡ places.Root → ⊥
not_root p loop e f = cc

module _ (pipeline : Pipeline) (schedule : Schedule) (boxes : Boxes) (rules : IsWellFormed pipeline) (accepted : IsAccepted pipeline schedule)
    (is : inferred pipeline schedule ≡ Ok boxes)
    (consumer : ℕ) (func : Func) (plan : FuncPlan) (source_box : SourceBox) (at : IsAtRoot pipeline schedule boxes consumer func plan source_box)
    (inputs : Planes) (begun : AnswerWords pipeline.inputs (reads_of inputs (pixels pipeline.funcs inputs 0))) where
  abbrev extents : Extents
  extents = extents_of source_box

  abbrev points : ℕ → ℕ → ℕ → Bool
  points = box_points boxes.funcs

  abbrev counts : loops.Values
  counts = loops.counts extents plan.pure.splits

  abbrev loops_in : List Loop
  loops_in = plan.pure.loops

  abbrev pixel : ℕ → Plane
  pixel k = pixels pipeline.funcs inputs consumer k

  stage_is : IsStageOf func None plan.pure
  stage_is = (staged pipeline schedule boxes consumer func plan source_box accepted is places.Root tt at).0

  unique : Unique loops_in
  unique = (sound_made (plain func None) stage_is.made).unique

  -- ---- the Funcs that are computed at its loops

  pub record IsProduced (k : ℕ) (loop : LoopPosition) : Type 0 where
    pub standing : FuncPlacement
    pub there : IsReached schedule.standings k standing
    pub placed_is : standing.place ≡ places.At loop
    pub same : loop.func ≡ consumer

  one_place : (k : ℕ) (a b : FuncPlacement) → IsReached schedule.standings k a → IsReached schedule.standings k b → a.place ≡ b.place
  one_place k a b there also = ap (λ (s : FuncPlacement). s.place) (one_standing schedule.standings k a b there.standing also.standing)

  produced_loop : (k : ℕ) (loop other : LoopPosition) → IsProduced k loop → IsProduced k other → loop ≡ other
  produced_loop k loop other h g = one_loop loop other h.standing.place h.placed_is (one_place k h.standing g.standing h.there g.there ∙ g.placed_is)

  pub root_not_produced : (k : ℕ) (placement : FuncPlacement) → IsReached schedule.standings k placement → placement.place ≡ places.Root → (loop : LoopPosition)
      → IsProduced k loop → ⊥
  root_not_produced k placement there root loop h = not_root placement.place loop (one_place k placement h.standing there h.there ∙ h.placed_is) root

  pub before_consumer : (k : ℕ) (loop : LoopPosition) → IsProduced k loop → k < consumer
  before_consumer k loop h = omega (arith, produced_before pipeline schedule accepted k h.standing h.there loop h.placed_is, h.same)

  consumer_of : (k : ℕ) (loop : LoopPosition) → IsProduced k loop → IsConsumer pipeline schedule.funcs k loop
  consumer_of k loop h =
      let here : 0 + k ≡ k = omega arith in
      subst (λ (n : ℕ). IsConsumer pipeline schedule.funcs n loop) here (numbered_at (HasConsumer pipeline schedule.funcs) 0 schedule.standings
      accepted.consumers k h.standing h.there.standing loop h.placed_is)

  same_plan : (a b : FuncPlan) → Some a ≡ Some b → a ≡ b
  same_plan a b e = cc

  pub few_inside : (k : ℕ) (loop : LoopPosition) → IsProduced k loop
      → inner_count loop.inside loops_in < length loops_in
  few_inside k loop h =
      let o = consumer_of k loop h in
      let p : o.plan ≡ plan = same_plan o.plan plan (sym o.plan_is ∙ ap (λ (n : ℕ). slice_get schedule.funcs n) h.same ∙ at.plan_is) in
      subst (λ (q : FuncPlan). inner_count loop.inside q.pure.loops < length q.pure.loops) p
      (subst (λ (id : LoopId). inner_count id o.plan.pure.loops < length o.plan.pure.loops) o.id_is (count_found o.name o.plan.pure.loops o.loop o.loop_is))

  -- ---- what is in the buffers in some iterations

  abbrev Shared : Planes → Type 0
  Shared funcs = (k : ℕ) (placement : FuncPlacement) → k < consumer → IsReached schedule.standings k placement → placement.place ≡ places.Root
      → (box : SourceBox) → slice_get boxes.funcs k ≡ Some (Some box) → Holds k box no_loops (pixel k) funcs

  -- of a Func at a loop
  abbrev HoldsAt : loops.Values → ℕ → LoopPosition → Planes → Type 0
  HoldsAt in_task k loop funcs = (box : SourceBox) → slice_get boxes.funcs k ≡ Some (Some box) → Holds k box (values_in plan loop.inside in_task) (pixel k) funcs

  -- The Funcs at loops with this many inside, or more, have their pixels.
  pub record State (inner : ℕ) (in_task : loops.Values) (funcs : Planes) : Type 0 where
    pub shared : Shared funcs
    pub produced : (k : ℕ) (loop : LoopPosition) → IsProduced k loop → inner ≤ inner_count loop.inside loops_in → HoldsAt in_task k loop funcs

  -- It isn't a Func at a loop with fewer inside.
  abbrev pub IsOuter : ℕ → ℕ → Type 0
  IsOuter inner k = (loop : LoopPosition) → IsProduced k loop → inner ≤ inner_count loop.inside loops_in

  -- All of these are kept.
  abbrev KeepsOuter : ℕ → Planes → Planes → Type 0
  KeepsOuter inner funcs after = (k x y : ℕ) → IsOuter inner k → after k x y ≡ funcs k x y

  -- ---- a Func that is computed at a loop

  module _ (inside : List Loop) (mid : Loop) (outside : List Loop) (loops_are : loops_in ≡ inside ++ mid ∷ outside) (in_task : loops.Values)
      (are : AreIterations counts (mid ∷ outside) in_task) where
    unique_here : Unique (inside ++ mid ∷ outside)
    unique_here = subst Unique loops_are unique

    pub mid_count : inner_count mid.id loops_in ≡ length inside
    mid_count = ap (inner_count mid.id) loops_are ∙ count_at inside mid outside unique_here

    -- a loop with as many inside is this one
    mid_is : (id : LoopId) → inner_count id loops_in ≡ length inside → mid.id ≡ id
    mid_is id e = counted_is inside mid outside id (sym (ap (inner_count id) loops_are) ∙ e)

    abbrev pub loop_here : LoopPosition
    loop_here = record { func = consumer; inside = mid.id }

    pub iterations_here : AreIterationsFrom plan source_box mid.id in_task
    iterations_here =
        subst (λ (n : ℕ). AreIterations counts (drop n loops_in) in_task) (sym mid_count)
        (subst (λ (l : List Loop). AreIterations counts (drop (length inside) l) in_task) (sym loops_are)
        (subst (λ (l : List Loop). AreIterations counts l in_task) (sym (drop_front inside (mid ∷ outside))) are))

    pub below_lasts : Below (values_in plan mid.id in_task) (lasts_in extents plan.pure.splits loops_in)
    below_lasts =
        subst (λ (n : ℕ). Below (iterations_from n in_task loops_in) (lasts_in extents plan.pure.splits loops_in)) (sym mid_count)
        (iterations_below extents plan.pure.splits in_task inside (mid ∷ outside) loops_in loops_are are)

    pub iterations_are : iterations_for schedule.funcs (places.At loop_here) (consuming consumer in_task) ≡ values_in plan mid.id in_task
    iterations_are = ap (λ (p : Option FuncPlan). iterations_at loop_here p (consuming consumer in_task)) at.plan_is
        ∙ ap (values_in plan mid.id) (loops_consuming consumer in_task)

    -- the Funcs at this loop that stand before one have their pixels
    abbrev HeldBefore : ℕ → Planes → Type 0
    HeldBefore from funcs = (k : ℕ) (loop : LoopPosition) → k < from → IsProduced k loop → loop.inside ≡ mid.id → HoldsAt in_task k loop funcs

    record Begins (from : ℕ) (funcs : Planes) : Type 0 where
      state : State (suc (length inside)) in_task funcs
      held : HeldBefore from funcs

    lasts_in_consumer : (id : LoopId) → (consumer_loop plan source_box id).lasts ≡ lasts_in extents plan.pure.splits
        loops_in
    unfolding consumer_loop_in
    lasts_in_consumer id = refl

    module _ (g : ℕ) (nested : Func) (nested_plan : FuncPlan) (box : SourceBox) (parts : IsComputedAt pipeline schedule boxes (places.At loop_here) g nested
        nested_plan box) where
      pub produced_here : IsProduced g loop_here
      produced_here = record { standing = parts.standing; there = parts.there; placed_is = parts.placed_is; same = refl }

      pub g_before : g < consumer
      g_before = before_consumer g loop_here produced_here

      pub below : Below (values_in plan mid.id in_task) box.lasts
      below =
          subst (λ (l : List ℕ). Below (values_in plan mid.id in_task) l)
          (sym (lasts_are pipeline schedule boxes g nested nested_plan box accepted is (places.At loop_here) g_before parts
          ∙ ap lasts_of (consumer_is schedule boxes.funcs (places.At loop_here) loop_here consumer plan source_box refl refl at.plan_is at.box_is)
          ∙ lasts_in_consumer mid.id))
          below_lasts

      pub stands_inside : (k : ℕ) (w : IsReadWithin schedule g k) (loop : LoopPosition) → w.own.place ≡ places.At loop → StandsAt schedule loop g
          → (loop.func ≡ consumer) × (length inside ≤ inner_count loop.inside loops_in)
      stands_inside k w loop placed (HasLoop e) =
          let r : IsRootReached schedule.standings loop.func = numbered_at (HasConsumerAtRoot schedule.standings) 0 schedule.standings
          accepted.consumers_at_root k w.own w.there.standing w.there.reached loop placed in
          absurd (root_not_produced g r.own (subst (λ (n : ℕ). IsReached schedule.standings n r.own) (sym e) r.there) r.root loop_here produced_here)
      stands_inside k w loop placed (IsWithin placement other there other_placed within) =
          let same : loop_here ≡ other = one_loop loop_here other parts.standing.place parts.placed_is (one_place g parts.standing placement parts.there there
          ∙ other_placed) in
          let p = and_parts (other.func == loop.func) (comes_first other.inside loop.inside (pure_loops_of (slice_get schedule.funcs other.func))) within in
          let f : other.func ≡ loop.func = eqb-true other.func loop.func p.0 in
          let is_consumer : consumer ≡ other.func = ap (λ (l : LoopPosition). l.func) same in
          let first : comes_first mid.id loop.inside loops_in ≡ true =
          ap (λ (l : LoopPosition). comes_first l.inside loop.inside loops_in) same
          ∙ sym (ap (λ (q : Option FuncPlan). comes_first other.inside loop.inside (pure_loops_of q)) (ap (λ (n : ℕ). slice_get schedule.funcs n)
          (sym is_consumer) ∙ at.plan_is)) ∙ p.1 in
          (sym (is_consumer ∙ f), omega (arith, count_first mid.id loop.inside loops_in first, mid_count))

      pub of_consumer : (k : ℕ) (w : IsReadWithin schedule g k) (loop : LoopPosition) → w.own.place ≡ places.At loop → loop.func ≡ consumer
      of_consumer k w loop placed = (stands_inside k w loop placed (w.within loop placed)).0

      produced_read : (k : ℕ) (w : IsReadWithin schedule g k) (loop : LoopPosition) → w.own.place ≡ places.At loop → IsProduced k loop
      produced_read k w loop placed = record { standing = w.own; there = w.there; placed_is = placed; same = of_consumer k w loop placed }

      module _ (funcs : Planes) (begins : Begins g funcs) where
        roots_hold : (k : ℕ) (placement : FuncPlacement) → k < g → IsReached schedule.standings k placement → placement.place ≡ places.Root
            → (other : SourceBox) → slice_get boxes.funcs k ≡ Some (Some other) → Holds k other no_loops (pixels pipeline.funcs inputs g k) funcs
        roots_hold k placement before there root other other_is x y lx ly =
            begins.state.shared k placement (omega (arith, before, g_before)) there root other other_is x y lx ly
            ∙ pixels_fewer pipeline.funcs inputs consumer g k (word.add (first_of other.x no_loops) x) (word.add (first_of other.y no_loops) y) before
            (omega (arith, g_before))

        holds_by : (k : ℕ) (w : IsReadWithin schedule g k) (loop : LoopPosition) (placed : w.own.place ≡ places.At loop) → HoldsAt in_task k loop funcs
        holds_by k w loop placed = elim (cases_eq (inner_count loop.inside loops_in) (length inside)) [
          | inl e ↦ begins.held k loop w.before (produced_read k w loop placed) (sym (mid_is loop.inside e))
          | inr d ↦ begins.state.produced k loop (produced_read k w loop placed) (omega (arith, (stands_inside k w loop placed (w.within loop placed)).1, d))
        ]

        loops_hold : (k : ℕ) (w : IsReadWithin schedule g k) (loop : LoopPosition) → w.own.place ≡ places.At loop
            → (other : SourceBox) → slice_get boxes.funcs k ≡ Some (Some other)
            → Holds k other (values_in plan loop.inside in_task) (pixels pipeline.funcs inputs g k) funcs
        loops_hold k w loop placed other other_is x y lx ly =
            holds_by k w loop placed other other_is x y lx ly
            ∙ pixels_fewer pipeline.funcs inputs consumer g k (word.add (first_of other.x (values_in plan loop.inside in_task)) x)
            (word.add (first_of other.y (values_in plan loop.inside in_task)) y) w.before (omega (arith, g_before))

        reads_answered : (values : List ℕ) → values ≡ values_in plan mid.id in_task → IsAnswered pipeline schedule boxes consumer g nested box values inputs
            in_task funcs
        reads_answered values e corners are_corners counters counters_are now keeps x y lies =
            let lies_here : LiesIn (values_in plan mid.id in_task) box x y = subst (λ (l : List ℕ). LiesIn l box x y) e lies in
            answered pipeline schedule boxes rules accepted is (places.At loop_here) g nested nested_plan box g_before parts inputs begun consumer func plan source_box
            at in_task funcs roots_hold of_consumer loops_hold
            counters (λ id. ap (values_in plan id) counters_are) corners are_corners now keeps (values_in plan mid.id in_task) below x y lies_here
            (λ k w loop placed. (iterations_here, lies_here))

        updates_answered : (values : List ℕ) → values ≡ values_in plan mid.id in_task → AreUpdatesAnswered pipeline schedule boxes consumer g nested box values
            inputs in_task funcs
        updates_answered values e corners are_corners counters counters_are now keeps number_at update update_is number x y few lies own_plane words =
            let lies_here : LiesIn (values_in plan mid.id in_task) box x y = subst (λ (l : List ℕ). LiesIn l box x y) e lies in
            answered_beside pipeline schedule boxes rules accepted is (places.At loop_here) g nested nested_plan box g_before parts inputs begun consumer func
            plan source_box at in_task funcs roots_hold of_consumer loops_hold
            counters (λ id. ap (values_in plan id) counters_are) corners are_corners now keeps (values_in plan mid.id in_task) below x y lies_here
            (λ k w loop placed. (iterations_here, lies_here)) number_at update update_is number few
            (reads_of inputs (with_plane g own_plane (pixels pipeline.funcs inputs g))) words

        -- what its nest leaves
        module _ (statement : Stmt) (does : DoesNests pipeline schedule boxes loop_here g nested box (length nested.updates) statement) where
          abbrev after : Planes
          after = run points inputs statement (consuming consumer in_task) funcs

          leaves : Leaves g box (values_in plan mid.id in_task) (stage g nested inputs (pixels pipeline.funcs inputs g) (length nested.updates)) funcs after
          leaves =
              subst (λ (l : List ℕ). Leaves g box l (stage g nested inputs (pixels pipeline.funcs inputs g) (length nested.updates)) funcs after) iterations_are
              (does inputs begun in_task
              (subst (λ (l : List ℕ). Below l box.lasts) (sym iterations_are) below) funcs
              (reads_answered (iterations_for schedule.funcs (places.At loop_here) (consuming consumer in_task)) iterations_are)
              (updates_answered (iterations_for schedule.funcs (places.At loop_here) (consuming consumer in_task)) iterations_are))

          same_box : (a b : SourceBox) → Some (Some a) ≡ Some (Some b) → a ≡ b
          same_box a b e = cc

          holds_after : HoldsAt in_task g loop_here after
          holds_after other other_is =
              subst (λ (b : SourceBox). Holds g b (values_in plan mid.id in_task) (pixel g) after) (same_box box other (sym parts.box_is ∙ other_is))
              (λ x y lx ly. leaves.holds x y lx ly
              ∙ sym (pixels_before pipeline.funcs inputs consumer g (word.add (first_of box.x (values_in plan mid.id in_task)) x)
              (word.add (first_of box.y (values_in plan mid.id in_task)) y) g_before
              ∙ ap (λ (f : Option Func). func_plane g f inputs (pixels pipeline.funcs inputs g) (word.add (first_of box.x (values_in plan mid.id in_task)) x)
              (word.add (first_of box.y (values_in plan mid.id in_task)) y)) parts.func_is))

          begins_after : Begins (suc g) after
          begins_after = record {
            state = record {
              shared = λ k placement before there root other other_is x y lx ly.
                  leaves.keeps k x y (λ e. root_not_produced k placement there root loop_here (subst (λ (n : ℕ). IsProduced n loop_here) (sym e) produced_here))
                  ∙ begins.state.shared k placement before there root other other_is x y lx ly;
              produced = λ k loop h further other other_is x y lx ly.
                  leaves.keeps k x y (λ e.
                  let one : loop ≡ loop_here = produced_loop g loop loop_here (subst (λ (n : ℕ). IsProduced n loop) e h) produced_here in
                  omega (arith, further, ap (λ (l : LoopPosition). inner_count l.inside loops_in) one, mid_count))
                  ∙ begins.state.produced k loop h further other other_is x y lx ly;
            };
            held = λ k loop before h here. elim (cases_eq k g) [
              | inl e ↦
                  let here_is : loop_here ≡ loop = produced_loop g loop_here loop produced_here (subst (λ (n : ℕ). IsProduced n loop) e h) in
                  subst (λ (n : ℕ). HoldsAt in_task n loop after) (sym e) (subst (λ (l : LoopPosition). HoldsAt in_task g l after) here_is holds_after)
              | inr d ↦ λ other other_is x y lx ly. leaves.keeps k x y d ∙ begins.held k loop (omega (arith, before, d)) h here other other_is x y lx ly
            ];
          }

          keeps_after : KeepsOuter (suc (length inside)) funcs after
          keeps_after k x y outer = leaves.keeps k x y (λ e. no_outer (outer loop_here (subst (λ (n : ℕ). IsProduced n loop_here) (sym e) produced_here)))
            where
              no_outer : suc (length inside) ≤ inner_count mid.id loops_in → ⊥
              no_outer few = omega (arith, few, mid_count)

    -- ---- all Funcs that are computed at the loop

    record Begun (inner body : Stmt) (funcs : Planes) : Type 0 where
      between : Planes
      runs : run points inputs body (consuming consumer in_task) funcs ≡ run points inputs inner (consuming consumer in_task) between
      state : State (length inside) in_task between
      keeps : KeepsOuter (suc (length inside)) funcs between

    begins_next : (from : ℕ) (funcs : Planes) → IsNestAt pipeline schedule boxes loop_here from None → Begins from funcs → Begins (suc from) funcs
    begins_next from funcs none begins = record {
      state = begins.state;
      held = λ k loop before h here other other_is. elim (cases_eq k from) [
        | inl e ↦
            let f = some_before pipeline.funcs consumer k func at.func_is (before_consumer k loop h) in
            let p = pair_there IsPlan pipeline.funcs schedule.funcs k f.value accepted.plans f.is in
            let same : loop ≡ loop_here = ap (λ (n : ℕ). record { func = n; inside = loop.inside }) h.same
            ∙ ap (λ (i : LoopId). record { func = consumer; inside = i }) here in
            absurd (none f.value p.value other (subst (λ (n : ℕ). IsComputedAt pipeline schedule boxes (places.At loop_here) n f.value p.value other) e
            (record {
              func_is = f.is;
              plan_is = p.is;
              box_is = other_is;
              standing = h.standing;
              there = h.there;
              placed_is = h.placed_is
                  ∙ ap (λ (l : LoopPosition). places.At l) same;
            })))
        | inr d ↦ begins.held k loop (omega (arith, before, d)) h here other other_is
      ];
    }

    nests : (from : ℕ) (inner body : Stmt) → HasNests pipeline schedule boxes loop_here from inner body → (funcs : Planes) → Begins from funcs
        → Begun inner body funcs
    nests from inner _ (None_left _ _ all_seen) funcs begins = record {
      between = funcs;
      runs = refl;
      state = record {
        shared = begins.state.shared;
        produced = λ k loop h further. elim (cases_eq (inner_count loop.inside loops_in) (length inside)) [
          | inl e ↦ begins.held k loop (omega (arith, some_length schedule.standings k h.standing h.there.standing, all_seen)) h (sym (mid_is loop.inside e))
          | inr d ↦ begins.state.produced k loop h (omega (arith, further, d))
        ];
      };
      keeps = λ k x y outer. refl;
    }
    nests from inner body (One_more _ None _ rest _ none more does) funcs begins =
        let b = nests (suc from) inner rest more funcs (begins_next from funcs none begins) in
        record { between = b.between; runs = does.runs points inputs (consuming consumer in_task) funcs ∙ b.runs; state = b.state; keeps = b.keeps }
    nests from inner body (One_more _ (Some first) _ rest _ nest_of more does) funcs begins =
        let after = run points inputs first (consuming consumer in_task) funcs in
        let b = nests (suc from) inner rest more after (begins_after from nest_of.func nest_of.plan nest_of.own nest_of.parts funcs begins first nest_of.does)
        in
        record {
          between = b.between;
          runs = does.runs points inputs (consuming consumer in_task) funcs ∙ b.runs;
          state = b.state;
          keeps = λ k x y outer. b.keeps k x y outer ∙ keeps_after from nest_of.func nest_of.plan nest_of.own nest_of.parts funcs begins first nest_of.does k x
              y outer;
        }

  -- ---- the store of the consumer

  module _ (store : Stmt) (store_of : IsStoreOf pipeline schedule boxes places.Root consumer func source_box store)
    where
      pub no_iterations_below : Below no_loops source_box.lasts
      no_iterations_below = subst (λ (l : List ℕ). Below no_loops l) (sym (lasts_are pipeline schedule boxes consumer func plan source_box accepted is places.Root tt at))
          no_below

      abbrev pub plane : Plane
      plane = writing.plane pipeline schedule boxes rules accepted is places.Root consumer func plan source_box tt at store store_of inputs no_loops no_iterations_below
          (consuming consumer (λ id. 0)) (λ inner. refl)

      abbrev pub x_of : loops.Values → ℕ
      x_of inner = inner (ids.Whole variables.FirstArgument)

      abbrev pub y_of : loops.Values → ℕ
      y_of inner = inner (ids.Whole variables.SecondArgument)

      abbrev pub hits : ℕ → ℕ → loops.Values → Bool
      hits x y inner = x_of inner == x && y_of inner == y

      abbrev pub IsVisited : loops.Values → Type 0
      IsVisited inner = IsVisitOf func None extents (visit_of extents inner)

      -- The points that are listed have the pixels of the pure definition, and all else is kept but the Funcs at loops inside.
      pub record Does (inner : ℕ) (list : List loops.Values) (funcs after : Planes) : Type 0 where
        pub there : (x y : ℕ) → list_any (hits x y) list ≡ true → after consumer x y ≡ plane x y
        pub keeps : (k x y : ℕ) → IsOuter inner k → (k ≡ consumer → list_any (hits x y) list ≡ false) → after k x y ≡ funcs k x y

      consumer_outer : (inner : ℕ) → IsOuter inner consumer
      consumer_outer inner loop h = absurd (omega (arith, before_consumer consumer loop h))

      -- ---- where no loop is inside

      module _ (in_task : loops.Values) (are : AreIterations counts loops_in in_task) (all_visited : AllByRecursion IsVisited (wholes extents plan.pure.splits []
          in_task)) where
        stands_root : (k : ℕ) (w : IsReadWithin schedule consumer k) (loop : LoopPosition) → w.own.place ≡ places.At loop → StandsAt schedule loop consumer
            → loop.func ≡ consumer
        stands_root k w loop placed (HasLoop e) = sym e
        stands_root k w loop placed (IsWithin placement other there other_placed within) =
            absurd (not_root placement.place other other_placed (one_place consumer placement at.standing there at.there ∙ at.placed_is))

        pub of_root : (k : ℕ) (w : IsReadWithin schedule consumer k) (loop : LoopPosition) → w.own.place ≡ places.At loop → loop.func ≡ consumer
        of_root k w loop placed = stands_root k w loop placed (w.within loop placed)

        taken_by : (has : Bool) (n far : ℕ) → far < cond has n 1 → cond has far 0 ≡ far
        taken_by true n far l = refl
        taken_by false n far l = omega (arith, l)

        module _ (inner : loops.Values) (listed : Contains (wholes extents plan.pure.splits [] in_task) inner) where
          pub v : IsVisited inner
          v = of_all IsVisited (wholes extents plan.pure.splits [] in_task) all_visited inner listed

          abbrev pub across : ℕ
          across = word.add (x_of inner) (first_of source_box.x no_loops)

          abbrev pub down : ℕ
          down = word.add (y_of inner) (first_of source_box.y no_loops)

          first_from : IsFrom no_loops source_box.x (x_of inner) across
          first_from = writing.first_from pipeline schedule boxes rules accepted is places.Root consumer func plan source_box tt at store store_of inputs no_loops
              no_iterations_below (consuming consumer in_task) (λ i. refl) inner v

          second_from : IsFrom no_loops source_box.y (y_of inner) down
          second_from = writing.second_from pipeline schedule boxes rules accepted is places.Root consumer func plan source_box tt at store store_of inputs no_loops
              no_iterations_below (consuming consumer in_task) (λ i. refl) inner v

          gone_x : gone func variables.FirstArgument inner ≡ x_of inner
          gone_x =
              let p = and_parts (nat_lt (x_of inner) (extent_in func None extents variables.FirstArgument)) (nat_lt (y_of inner) (extent_in func None extents
              variables.SecondArgument)) v.slice in
              taken_by (has_variable variables.FirstArgument (first_loops func None)) (extent source_box.x) (x_of inner)
              (ltb-true (x_of inner) (extent_in func None extents variables.FirstArgument) p.0)

          gone_y : gone func variables.SecondArgument inner ≡ y_of inner
          gone_y =
              let p = and_parts (nat_lt (x_of inner) (extent_in func None extents variables.FirstArgument)) (nat_lt (y_of inner) (extent_in func None extents
              variables.SecondArgument)) v.slice in
              taken_by (has_variable variables.SecondArgument (first_loops func None)) (extent source_box.y) (y_of inner)
              (ltb-true (y_of inner) (extent_in func None extents variables.SecondArgument) p.1)

          taken : IsTakenTo func source_box inner across down
          taken = record {
            first = record { word = first_from.word; is = omega (arith, first_from.is, more_none source_box.x.base, less_none source_box.x.base, gone_x) };
            second = record { word = second_from.word; is = omega (arith, second_from.is, more_none source_box.y.base, less_none source_box.y.base, gone_y) };
          }

          pub reached : (id : LoopId) → IsReachedIn func plan source_box id in_task across down
          reached id = record {
            iterations_are = iterations_drop counts (inner_count id loops_in) loops_in in_task are;
            whole = inner;
            visited = nest_takes inner counts (take (inner_count id loops_in) loops_in) (over_loops extents plan.pure.splits (λ whole. whole ∷ [])) in_task
                (iterations_take counts (inner_count id loops_in) loops_in in_task are) listed;
            taken = taken;
          }

        module _ (leaf : Stmt) (bound : Repeats consumer leaf store (wholes extents plan.pure.splits [])) (small : AreSmall in_task) (funcs : Planes)
            (state : State 0 in_task funcs) where
          abbrev Ready : Planes → Type 0
          Ready now = Keeps consumer funcs now

          stays : (now after : Planes) → Keeps consumer now after → Ready now → Ready after
          stays now later keeps ready other x y d = keeps other x y d ∙ ready other x y d

          abbrev step : loops.Values → Planes → Planes
          step inner = run points inputs store (put_loops consumer inner (consuming consumer in_task))

          module _ (inner : loops.Values) (listed : Contains (wholes extents plan.pure.splits [] in_task) inner) where
            agrees : (now : Planes) → Ready now
                → Agree (reads_of inputs (pixels pipeline.funcs inputs consumer)) (placed store_of.corners (put_loops consumer inner (consuming consumer in_task))
                (reads_of inputs now))
                (pure_points pipeline schedule (reads_of inputs (pixels pipeline.funcs inputs consumer)) consumer func (across inner listed) (down inner listed))
            agrees now ready =
                answered pipeline schedule boxes rules accepted is places.Root consumer func plan source_box tt at inputs begun consumer func plan source_box at in_task funcs
                state.shared of_root
                (λ k w loop placed. state.produced k loop (record { standing = w.own; there = w.there; placed_is = placed; same = of_root k w loop placed })
                (omega arith))
                (put_loops consumer inner (consuming consumer in_task)) (λ id. ap (values_in plan id) (loops_put consumer inner (consuming consumer in_task))
                ∙ iterations_kept func plan.pure stage_is extents in_task inner listed (inner_count id loops_in)) store_of.corners store_of.are_corners now ready
                no_loops no_iterations_below (across inner listed) (down inner listed)
                (writing.lies pipeline schedule boxes rules accepted is places.Root consumer func plan source_box tt at store store_of inputs no_loops no_iterations_below
                (consuming consumer in_task) (λ i. refl) inner (v inner listed))
                (λ k w loop placed. reached inner listed loop.inside)

            writes : Writes points consumer plane Ready stays x_of y_of step inner
            writes =
                writing.writes pipeline schedule boxes rules accepted is places.Root consumer func plan source_box tt at store store_of inputs no_loops no_iterations_below
                (consuming consumer in_task) (λ i. refl) inner (v inner listed) Ready stays agrees

          list : List loops.Values
          list = wholes extents plan.pure.splits [] in_task

          ran : run points inputs leaf (consuming consumer in_task) funcs ≡ all step (wholes extents plan.pure.splits [] in_task) funcs
          ran =
              bound.runs points inputs (consuming consumer in_task) funcs (subst AreSmall (sym (loops_consuming consumer in_task)) small)
              ∙ ap (λ (t : loops.Values). all step (wholes extents plan.pure.splits [] t) funcs) (loops_consuming consumer in_task)

          painted : Paints points consumer plane Ready stays x_of y_of step (wholes extents plan.pure.splits [] in_task) funcs
              (all step (wholes extents plan.pure.splits [] in_task) funcs)
          painted =
              paints points consumer plane Ready stays x_of y_of step (wholes extents plan.pure.splits [] in_task) funcs
              (all_contained (Writes points consumer plane Ready stays x_of y_of step) (wholes extents plan.pure.splits [] in_task) writes) (λ other x y d. refl)

          leaf_does : Does 0 (wholes extents plan.pure.splits [] in_task) funcs (run points inputs leaf (consuming consumer in_task) funcs)
          leaf_does = record {
            there = λ x y e. ap (λ (f : Planes). f consumer x y) ran ∙ painted.there x y e;
            keeps = λ k x y outer free. ap (λ (f : Planes). f k x y) ran ∙ painted.keeps k x y free;
          }

      -- ---- one list after the other

      does_more : (inner : ℕ) (first second : List loops.Values) (funcs between after : Planes) → Does inner first funcs between
          → ((x y : ℕ) → list_any (hits x y) second ≡ true → after consumer x y ≡ plane x y)
          → ((k x y : ℕ) → IsOuter inner k → (k ≡ consumer → list_any (hits x y) second ≡ false) → after k x y ≡ between k x y)
          → Does inner (first ++ second) funcs after
      does_more inner first second funcs between after one there keeps = record {
        there = λ x y e. by_second x y (list_any (hits x y) second) refl (sym (list_any-append (hits x y) first second) ∙ e);
        keeps = λ k x y outer free.
            let parts : k ≡ consumer → (list_any (hits x y) first ≡ false) × (list_any (hits x y) second ≡ false) =
            λ e. or_parts (list_any (hits x y) first) (list_any (hits x y) second) (sym (list_any-append (hits x y) first second) ∙ free e) in
            keeps k x y outer (λ e. (parts e).1) ∙ one.keeps k x y outer (λ e. (parts e).0);
      }
        where
          by_second : (x y : ℕ) (test : Bool) → list_any (hits x y) second ≡ test → (list_any (hits x y) first || list_any (hits x y) second) ≡ true
              → after consumer x y ≡ plane x y
          by_second x y true found e = there x y found
          by_second x y false found e = keeps consumer x y (consumer_outer inner) (λ s. found)
              ∙ one.there x y (or_first (list_any (hits x y) first) (list_any (hits x y) second) found e)

      -- ---- loops

      abbrev pub DoesLoops : List Loop → Stmt → Type 0
      DoesLoops inside statement = (outside : List Loop) → loops_in ≡ inside ++ outside → (in_task : loops.Values) → AreSmall in_task → AreIterations counts outside in_task
          → AllByRecursion IsVisited (wholes extents plan.pure.splits inside in_task) → (funcs : Planes) → State (length inside) in_task funcs
          → Does (length inside) (wholes extents plan.pure.splits inside in_task) funcs (run points inputs statement (consuming consumer in_task) funcs)

      more_outer : (inner k : ℕ) → IsOuter (suc inner) k → IsOuter inner k
      more_outer inner k outer loop h = let l : suc inner ≤ inner_count loop.inside loops_in = outer loop h in omega (arith, l)

      -- what a state says holds where buffers of roots and of Funcs at outer loops are kept
      state_kept : (inner : ℕ) (in_task : loops.Values) (list : List loops.Values) (funcs after : Planes) → Does inner list funcs after → State inner in_task funcs
          → State inner in_task after
      state_kept inner in_task list funcs after does state = record {
        shared = λ k placement before there root box box_is x y lx ly.
            does.keeps k x y (λ loop h. absurd (root_not_produced k placement there root loop h)) (λ e. absurd (omega (arith, e, before)))
            ∙ state.shared k placement before there root box box_is x y lx ly;
        produced = λ k loop h further box box_is x y lx ly.
            does.keeps k x y (λ other g. omega (arith, further, ap (λ (l : LoopPosition). inner_count l.inside loops_in) (produced_loop k loop other h g)))
            (λ e. absurd (omega (arith, e, before_consumer k loop h)))
            ∙ state.produced k loop h further box box_is x y lx ly;
      }

      module _ (inside : List Loop) (mid : Loop) (inner body : Stmt) (begun_by : HasNests pipeline schedule boxes (record { func = consumer; inside = mid.id }) 0
          inner body) (inner_does : DoesLoops inside inner)
          (outside : List Loop) (loops_are : loops_in ≡ inside ++ mid ∷ outside) where
        -- one iteration
        module _ (in_task : loops.Values) (small : AreSmall in_task) (are : AreIterations counts (mid ∷ outside) in_task) (all_visited : AllByRecursion IsVisited
            (wholes extents plan.pure.splits inside in_task))
            (funcs : Planes) (state : State (suc (length inside)) in_task funcs) where
          abbrev first : Begun inside mid outside loops_are in_task are inner body funcs
          first = nests inside mid outside loops_are in_task are 0 inner body begun_by funcs (record {
            state = state;
            held = λ k loop before h here. absurd
                (omega (arith, before));
          })

          abbrev done : Does (length inside) (wholes extents plan.pure.splits inside in_task) first.between (run points inputs inner (consuming consumer in_task)
              first.between)
          done = inner_does (mid ∷ outside) loops_are in_task small are all_visited first.between first.state

          pub iteration_there : (x y : ℕ) → list_any (hits x y) (wholes extents plan.pure.splits inside in_task) ≡ true
              → run points inputs body (consuming consumer in_task) funcs consumer x y ≡ plane x y
          iteration_there x y e = ap (λ (f : Planes). f consumer x y) first.runs ∙ done.there x y e

          pub iteration_keeps : (k x y : ℕ) → IsOuter (suc (length inside)) k → (k ≡ consumer → list_any (hits x y) (wholes extents plan.pure.splits inside in_task)
              ≡ false)
              → run points inputs body (consuming consumer in_task) funcs k x y ≡ funcs k x y
          iteration_keeps k x y outer free = ap (λ (f : Planes). f k x y) first.runs ∙ done.keeps k x y (more_outer (length inside) k outer) free
              ∙ first.keeps k x y outer

        -- all iterations
        module _ (in_task : loops.Values) (small : AreSmall in_task) (are : AreIterations counts outside in_task) where
          abbrev at_iteration : ℕ → loops.Values
          at_iteration n = loops.with mid.id n in_task

          abbrev listed : ℕ → List loops.Values
          listed n = wholes extents plan.pure.splits inside (at_iteration n)

          abbrev step_at : ℕ → Planes → Planes
          step_at n = run points inputs body (with (record { func = consumer; id = mid.id }) n (consuming consumer in_task))

          split_at : Unique (inside ++ mid ∷ outside)
          split_at = subst Unique loops_are unique

          stays_at : (n : ℕ) (funcs : Planes) → State (suc (length inside)) in_task funcs → State (suc (length inside)) (at_iteration n) funcs
          stays_at n funcs state = record {
            shared = state.shared;
            produced = λ k loop h further box box_is.
                subst (λ (l : List ℕ). Holds k box l (pixel k) funcs)
                (sym (subst (λ (ls : List Loop). iterations_from (inner_count loop.inside loops_in) (at_iteration n) ls ≡ iterations_from (inner_count loop.inside loops_in)
                in_task ls) (sym loops_are)
                (iterations_stay inside mid outside split_at in_task n (inner_count loop.inside loops_in) further)))
                (state.produced k loop h further box box_is);
          }

          pub mid_iterations : (n : ℕ) → n < counts mid.id → AreIterations counts (mid ∷ outside) (at_iteration n)
          mid_iterations n l = (
            subst (λ (m : ℕ). m < counts mid.id) (sym (with_same mid.id n in_task)) l,
            iterations_with counts outside in_task mid.id n
                (none_outside inside mid outside split_at) are,
          )

          pub small_at : (n : ℕ) → n < counts mid.id → AreSmall (at_iteration n)
          small_at n l = small_with mid.id n in_task (omega (
            arith,
            l,
            iterations_few extents plan.pure.splits (few pipeline schedule boxes consumer func plan source_box
                accepted is places.Root tt at) (splits pipeline schedule boxes consumer func plan source_box accepted is places.Root tt at) mid.id,
          )) small

          -- what is done in an iteration, by the body under the counters of that iteration
          same_step : (n : ℕ) (funcs : Planes) → step_at n funcs ≡ run points inputs body (consuming consumer (at_iteration n)) funcs
          same_step n funcs = ap (λ (v : Values). run points inputs body v funcs) (consuming_with consumer mid.id n in_task)

          done_iterations : (n : ℕ) → n ≤ counts mid.id → ((k : ℕ) → k < n → AllByRecursion IsVisited (listed k)) → (funcs : Planes)
              → State (suc (length inside)) in_task funcs
              → Does (suc (length inside)) (upto n listed) funcs (iterated n step_at funcs)
          unfolding iterated upto
          done_iterations zero l visited funcs state = record { there = λ x y e. absurd (true≢false (sym e)); keeps = λ k x y outer free. refl }
          done_iterations (suc n) l visited funcs state =
              let before = done_iterations n (omega (arith, l)) (λ k b. visited k (omega (arith, b))) funcs state in
              let there = iterated n step_at funcs in
              let state_there = stays_at n there (state_kept (suc (length inside)) in_task (upto n listed) funcs there before state) in
              let here : n < counts mid.id = omega (arith, l) in
              does_more (suc (length inside)) (upto n listed) (listed n) funcs there (step_at n there) before
              (λ x y e. ap (λ (f : Planes). f consumer x y) (same_step n there) ∙ iteration_there (at_iteration n) (small_at n here) (mid_iterations n here)
              (visited n (omega arith)) there state_there x y e)
              (λ k x y outer free. ap (λ (f : Planes). f k x y) (same_step n there) ∙ iteration_keeps (at_iteration n) (small_at n here) (mid_iterations n here)
              (visited n (omega arith)) there state_there k x y outer free)

      pub wholes_outside : (inside : List Loop) (mid : Loop) (in_task : loops.Values)
          → wholes extents plan.pure.splits (inside ++ mid ∷ []) in_task ≡ upto (counts mid.id) (λ iteration. wholes extents plan.pure.splits inside
          (loops.with mid.id iteration in_task))
      wholes_outside inside mid in_task = nest-append counts inside (mid ∷ []) (over_loops extents plan.pure.splits (λ whole. whole ∷ [])) in_task

      pub all_loops : (leaf : Stmt) (bound : Repeats consumer leaf store (wholes extents plan.pure.splits [])) (inside : List Loop) (statement : Stmt)
          → HasLoops pipeline schedule boxes consumer counts leaf inside statement → DoesLoops inside statement
      all_loops leaf bound _ _ No_loops outside loops_are in_task small are visited funcs state =
          leaf_does in_task (subst (λ (l : List Loop). AreIterations counts l in_task) (sym loops_are) are) visited leaf bound small funcs state
      all_loops leaf bound _ statement (One_outside inside mid inner body _ within nested does around run_around) outside loops_are in_task small are visited funcs
          state =
          let further : loops_in ≡ inside ++ mid ∷ outside = loops_are ∙ append_assoc inside (mid ∷ []) outside in
          let count : length (inside ++ mid ∷ []) ≡ suc (length inside) = omega (arith, length-append inside (mid ∷ [])) in
          let list_is = wholes_outside inside mid in_task in
          let seen : AllByRecursion IsVisited (upto (counts mid.id) (λ iteration. wholes extents plan.pure.splits inside (loops.with mid.id iteration in_task))) =
          subst (λ (l : List loops.Values). AllByRecursion IsVisited l) list_is visited in
          let result : Does (suc (length inside)) (upto (counts mid.id) (λ iteration. wholes extents plan.pure.splits inside (loops.with mid.id iteration in_task))) funcs
          (iterated (counts mid.id) (λ n. run points inputs body (with (record { func = consumer; id = mid.id }) n (consuming consumer in_task))) funcs) =
          done_iterations inside mid inner body nested (all_loops leaf bound inside inner within) outside further in_task small are (counts mid.id) (omega arith)
          (λ k l. all_upto IsVisited (λ iteration. wholes extents plan.pure.splits inside (loops.with mid.id iteration in_task)) (counts mid.id) seen k l) funcs
          (subst (λ (n : ℕ). State n in_task funcs) count state) in
          subst (λ (n : ℕ). Does n (wholes extents plan.pure.splits (inside ++ mid ∷ []) in_task) funcs (run points inputs statement (consuming consumer in_task) funcs))
          (sym count)
          (subst (λ (l : List loops.Values). Does (suc (length inside)) l funcs (run points inputs statement (consuming consumer in_task) funcs)) (sym list_is)
          (subst (Does (suc (length inside)) (upto (counts mid.id) (λ iteration. wholes extents plan.pure.splits inside (loops.with mid.id iteration in_task))) funcs)
          (sym (does.runs points inputs (consuming consumer in_task) funcs)) result))
