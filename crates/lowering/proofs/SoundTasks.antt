-- What each task of a pure definition touches.
use Rattle.std.proofs.Common.{◌≡◌, ℕ, zero, suc, ◌+◌, ◌<◌, Bool, true, false, cond, List, [], ◌∷◌, map, Option, Some, None, refl, sym, ap, subst, ◌∙◌, arith}
use Rattle.std.proofs.Common.{append-nil}
use Rattle.std.specs.Prelude.{◌==◌, ◌&&◌, ◌||◌, slice_get, Ok}
use Rattle.std.specs.List.{AllByRecursion, list_any}
use Rattle.std.proofs.lemmas.Bool.{and_from, eq-eqb, ne_eqb}
use Rattle.halide_pipeline.specs.declared.definitions.Func.{Func}
use Rattle.halide_pipeline.specs.declared.expressions.Source.TheVariants as sources
use Rattle.halide_pipeline.specs.declared.expressions.Variable.TheVariants as variables
use Rattle.halide_pipeline.specs.Pipelines.{Pipeline}
use Rattle.halide_pipeline.specs.WellFormed.{IsWellFormed}
use Rattle.halide_pipeline.specs.Pixel.{Reads}
use Rattle.halide_pipeline.specs.Points.{Point}
use Rattle.schedule_lines.specs.declared.stages.Loop.{Loop}
use Rattle.schedule_lines.specs.declared.stages.LoopId.TheVariants as ids
use Rattle.schedule_lines.specs.declared.stages.Stage.{Stage}
use Rattle.schedule.specs.declared.plans.FuncPlan.{FuncPlan}
use Rattle.schedule.specs.declared.schedules.Schedule.{Schedule}
use Rattle.schedule.specs.declared.placements.LoopPosition.{LoopPosition}
use Rattle.schedule.specs.declared.placements.ComputeLevel.TheVariants as places
use Rattle.schedule.specs.declared.placements.FuncPlacement.{FuncPlacement}
use Rattle.schedule.specs.Accepted.{IsAccepted}
use Rattle.schedule.specs.Legal.{is_root}
use Rattle.schedule.specs.Uses.{IsReached}
use Rattle.schedule_loops.specs.declared.extents.Extents.{Extents}
use Rattle.schedule_loops.specs.Visits.{counts, Visit, zeros, visit_of, is_slice, parallel, visits_in, iteration_count, count_of, owns}
use Rattle.schedule_loops.specs.Visits as loops
use Rattle.schedule_loops.specs.Reach.{wholes}
use Rattle.schedule_loops.specs.Runs.{AreIterations}
use Rattle.schedule_loops.specs.Stages.{IsStageOf, KeepsRules, IsVisitOf}
use Rattle.schedule_loops.proofs.Ids.{with_same}
use Rattle.schedule_loops.proofs.Parallel.{outermost}
use Rattle.bounds_ranges.specs.Laws.{AnswerWords}
use Rattle.bounds.specs.declared.boxes.SourceBox.{SourceBox}
use Rattle.bounds.specs.declared.verdict.Boxes.{Boxes}
use Rattle.bounds.specs.Verdict.{inferred}
use Rattle.bounds.specs.Extents.{extents_of}
use Rattle.bounds_laws.proofs.Callers.{or_left, or_right}
use Rattle.loop_ir.specs.declared.expressions.Counter.{Counter}
use Rattle.loop_ir.specs.declared.statements.Phase.{Phase}
use Rattle.loop_ir.specs.declared.statements.Stmt.{Stmt}
use Rattle.loop_ir.specs.Buffers.{Points}
use Rattle.loop_ir.specs.Running.{task_values}
use Rattle.loop_ir.specs.Soundness.{is_sound}
use Rattle.lowering_nests.specs.Nests.{AreSmall}
use Rattle.lowering.specs.ProducedFuncs.{produced_from, is_produced, is_at_loop_of}
use Rattle.lowering.specs.Consuming.{consuming, HasOutermost, IsBody}
use Rattle.lowering.specs.Planes.{box_points}
use Rattle.lowering.specs.PurePhases.{IsStoreOf, inside_of, counter_of}
use Rattle.bounds.specs.Stages.{IsAtRoot}
use Rattle.lowering.specs.Touching.{is_root_at, is_root_in, is_listed, may_write, may_load, TouchesItsOwn}
use Rattle.lowering.proofs.Facts.{staged, splits, few, produced_before}
use Rattle.lowering.proofs.Lists.{any_map, all_map}
use Rattle.lowering.proofs.SoundConsumers as consumers
use Rattle.lowering.proofs.Tasks.{in_task_of, inside_last, listed, before_by, small_by, all_visits}
use Rattle.lowering.proofs.UpdateRuns.{members, all_and, all_so}

-- ---- which Funcs may be touched

-- a Func at a loop of the consumer is among its private ones
pub listed_from : (consumer at : ℕ) (standings : List FuncPlacement) (k : ℕ) (placement : FuncPlacement) → slice_get standings k ≡ Some placement → is_produced consumer placement ≡ true
    → is_listed (produced_from consumer at standings) (at + k) ≡ true
listed_from consumer at [] k placement there produced = absurd cc
listed_from consumer at (first ∷ others) zero placement there produced =
    let same : first ≡ placement = cc in
    ap (λ (b : Bool). is_listed (cond b (at ∷ produced_from consumer (suc at) others) (produced_from consumer (suc at) others)) (at + 0))
    (ap (is_produced consumer) same ∙ produced)
    ∙ or_left (at == at + 0) (is_listed (produced_from consumer (suc at) others) (at + 0)) (eq-eqb at (at + 0) (omega arith))
listed_from consumer at (first ∷ others) (suc k) placement there produced =
    let next : suc at + k ≡ at + suc k = omega arith in
    by_test (is_produced consumer first) (subst (λ (n : ℕ). is_listed (produced_from consumer (suc at) others) n ≡ true) next (listed_from consumer (suc at)
    others k placement there produced))
  where
    by_test : (b : Bool) → is_listed (produced_from consumer (suc at) others) (at + suc k) ≡ true
        → is_listed (cond b (at ∷ produced_from consumer (suc at) others) (produced_from consumer (suc at) others)) (at + suc k) ≡ true
    by_test true e = or_right (at == at + suc k) (is_listed (produced_from consumer (suc at) others) (at + suc k)) e
    by_test false e = e

module _ (pipeline : Pipeline) (schedule : Schedule) (boxes : Boxes) (func_index : ℕ) (owned : ℕ → ℕ → Bool) (private : List ℕ) where
  pub own_writes : (x y : ℕ) → owned x y ≡ true → may_write boxes.funcs func_index owned private func_index x y ≡ true
  own_writes x y e = ap (λ (b : Bool). cond b (owned x y) (is_listed private func_index && box_points boxes.funcs func_index x y)) (eq-eqb func_index func_index refl) ∙ e

  pub own_loads : (x y : ℕ) → owned x y ≡ true → may_load pipeline schedule boxes func_index owned private (record { source = sources.Func func_index; x = x; y = y })
      ≡ true
  own_loads x y e = ap (λ (b : Bool). cond b (owned x y) ((is_root_at schedule.standings func_index || is_listed private func_index) && box_points boxes.funcs func_index x y))
      (eq-eqb func_index func_index refl) ∙ e

  pub roots_load : (k : ℕ) (placement : FuncPlacement) → k < func_index → IsReached schedule.standings k placement → placement.place ≡ places.Root
      → (x y : ℕ) → box_points boxes.funcs k x y ≡ true → may_load pipeline schedule boxes func_index owned private
      (record {
        source = sources.Func k;
        x = x;
        y =
            y;
      }) ≡ true
  roots_load k placement before there root x y e =
      ap (λ (b : Bool). cond b (owned x y) ((is_root_at schedule.standings k || is_listed private k) && box_points boxes.funcs k x y))
      (ne_eqb k func_index (λ (same : k ≡ func_index). omega (arith, before, same)))
      ∙ and_from (is_root_at schedule.standings k || is_listed private k) (box_points boxes.funcs k x y)
      (or_left (is_root_at schedule.standings k) (is_listed private k) (ap is_root_in there.standing
      ∙ and_from placement.is_reached (is_root placement.place) there.reached (ap is_root root))) e

  module _ (private_is : private ≡ produced_from func_index 0 schedule.standings) (accepted : IsAccepted pipeline schedule) (k : ℕ) (placement : FuncPlacement)
      (loop : LoopPosition)
      (there : IsReached schedule.standings k placement) (placed : placement.place ≡ places.At loop) (same : loop.func ≡ func_index) (x y : ℕ)
      (inside : box_points boxes.funcs k x y ≡ true) where
    is_private : is_listed private k ≡ true
    is_private =
        let here : 0 + k ≡ k = omega arith in
        ap (λ (l : List ℕ). is_listed l k) private_is
        ∙ subst (λ (n : ℕ). is_listed (produced_from func_index 0 schedule.standings) n ≡ true) here
        (listed_from func_index 0 schedule.standings k placement there.standing
        (and_from placement.is_reached (is_at_loop_of func_index placement.place) there.reached (ap (is_at_loop_of func_index) placed ∙ eq-eqb loop.func func_index same)))

    other : (k == func_index) ≡ false
    other = ne_eqb k func_index (λ (e : k ≡ func_index). omega (arith, e, same, produced_before pipeline schedule accepted k placement there loop placed))

    pub produced_writes : may_write boxes.funcs func_index owned private k x y ≡ true
    produced_writes = ap (λ (b : Bool). cond b (owned x y) (is_listed private k && box_points boxes.funcs k x y)) other
        ∙ and_from (is_listed private k) (box_points boxes.funcs k x y) is_private inside

    pub produced_loads : may_load pipeline schedule boxes func_index owned private (record { source = sources.Func k; x = x; y = y }) ≡ true
    produced_loads =
        ap (λ (b : Bool). cond b (owned x y) ((is_root_at schedule.standings k || is_listed private k) && box_points boxes.funcs k x y)) other
        ∙ and_from (is_root_at schedule.standings k || is_listed private k) (box_points boxes.funcs k x y) (or_right (is_root_at schedule.standings k)
        (is_listed private k) is_private) inside

-- ---- a task

module _ (pipeline : Pipeline) (schedule : Schedule) (boxes : Boxes) (rules : IsWellFormed pipeline) (accepted : IsAccepted pipeline schedule)
    (is : inferred pipeline schedule ≡ Ok boxes)
    (func_index : ℕ) (func : Func) (plan : FuncPlan) (source_box : SourceBox) (at : IsAtRoot pipeline schedule boxes func_index func plan source_box)
    (store : Stmt) (store_of : IsStoreOf pipeline schedule boxes places.Root func_index func source_box store)
    (phase : Phase) (tasks_are : phase.tasks ≡ iteration_count (extents_of source_box) plan.pure) (counter_is : phase.counter ≡ counter_of func_index (parallel plan.pure))
    (private_is : phase.private ≡ produced_from func_index 0 schedule.standings)
    (body : IsBody pipeline schedule boxes func_index plan.pure (extents_of source_box) store phase.body) where
  abbrev extents : Extents
  extents = extents_of source_box

  abbrev stage : Stage
  stage = plan.pure

  facts : IsStageOf func None stage × KeepsRules stage
  facts = staged pipeline schedule boxes func_index func plan source_box accepted is places.Root tt at

  module _ (number : ℕ) (below : number < phase.tasks) (reads : Reads) (words : AnswerWords pipeline.inputs reads) where
    abbrev owned : ℕ → ℕ → Bool
    owned = owns extents stage number

    abbrev written : Points
    written = may_write boxes.funcs func_index owned phase.private

    abbrev loaded : Point → Bool
    loaded = may_load pipeline schedule boxes func_index owned phase.private

    abbrev in_task : Option Loop → loops.Values
    in_task stage_loop = in_task_of func extents stage facts.0 facts.1 func_index stage_loop number

    abbrev list : List loops.Values
    list = wholes extents stage.splits (inside_of (parallel stage) stage.loops) (in_task (parallel stage))

    below_count : number < iteration_count extents stage
    below_count = subst (λ (n : ℕ). number < n) tasks_are below

    visits_are : visits_in extents stage number ≡ map (visit_of extents) list
    visits_are = listed func extents stage facts.0 facts.1 func_index (parallel stage) refl number below_count

    abbrev IsVisited : loops.Values → Type 0
    IsVisited inner = IsVisitOf func None extents (visit_of extents inner)

    visited : AllByRecursion IsVisited list
    visited =
        all_map (IsVisitOf func None extents) IsVisited (visit_of extents) (λ inner v. v) list
        (subst (λ (l : List Visit). AllByRecursion (IsVisitOf func None extents) l) visits_are (all_visits func extents stage facts.0 facts.1 func_index number
        below_count))

    abbrev x_of : loops.Values → ℕ
    x_of inner = inner (ids.Whole variables.FirstArgument)

    abbrev y_of : loops.Values → ℕ
    y_of inner = inner (ids.Whole variables.SecondArgument)

    abbrev IsWritten : loops.Values → Type 0
    IsWritten inner = written func_index (x_of inner) (y_of inner) ≡ true

    all_written : AllByRecursion IsWritten list
    all_written =
        all_so (λ inner. (test : loops.Values → Bool) → test inner ≡ true → list_any test list ≡ true) IsWritten
        (λ inner member.
        own_writes pipeline schedule boxes func_index owned phase.private (x_of inner) (y_of inner)
        (ap (list_any (is_slice (x_of inner) (y_of inner))) visits_are ∙ any_map (is_slice (x_of inner) (y_of inner)) (visit_of extents) list
        ∙ member (λ other. is_slice (x_of inner) (y_of inner) (visit_of extents other))
        (and_from (x_of inner == x_of inner) (y_of inner == y_of inner) (eq-eqb (x_of inner) (x_of inner) refl) (eq-eqb (y_of inner) (y_of inner) refl))))
        list (members list)

    abbrev Good : loops.Values → Type 0
    Good inner = IsVisited inner × IsWritten inner

    abbrev AreSound : List Loop → Stmt → Type 0
    AreSound =
        consumers.AreSound pipeline schedule boxes rules accepted is func_index func plan source_box at store store_of reads words written loaded
        (λ k x y e. e) (roots_load pipeline schedule boxes func_index owned phase.private)
        (λ k standing loop there placed same x y e. produced_writes pipeline schedule boxes func_index owned phase.private private_is accepted k standing loop there
        placed same x y e)
        (λ k standing loop there placed same x y e. produced_loads pipeline schedule boxes func_index owned phase.private private_is accepted k standing loop there
        placed same x y e)

    inner_sound : AreSound (inside_of (parallel stage) stage.loops) body.inner
    inner_sound =
        consumers.sound_loops pipeline schedule boxes rules accepted is func_index func plan source_box at store store_of reads words written loaded
        (λ k x y e. e) (roots_load pipeline schedule boxes func_index owned phase.private)
        (λ k standing loop there placed same x y e. produced_writes pipeline schedule boxes func_index owned phase.private private_is accepted k standing loop there
        placed same x y e)
        (λ k standing loop there placed same x y e. produced_loads pipeline schedule boxes func_index owned phase.private private_is accepted k standing loop there
        placed same x y e)
        body.leaf body.bound (inside_of (parallel stage) stage.loops) body.inner body.looped

    small : (stage_loop : Option Loop) → number < count_of (counts extents stage.splits) stage_loop
        → AreSmall (in_task stage_loop)
    small stage_loop l =
        small_by func extents stage facts.0 facts.1 func_index (few pipeline schedule boxes func_index func plan source_box accepted is places.Root tt at)
        (splits pipeline schedule boxes func_index func plan source_box accepted is places.Root tt at) stage_loop number
        l

    sound_by : (stage_loop : Option Loop) → parallel stage ≡ stage_loop → number < count_of (counts extents stage.splits) stage_loop → (inner statement : Stmt)
        → HasOutermost pipeline schedule boxes func_index stage_loop inner statement
        → AreSound (inside_of stage_loop stage.loops) inner → AllByRecursion Good (wholes extents stage.splits (inside_of stage_loop stage.loops) (in_task stage_loop))
        → is_sound reads written loaded statement (consuming func_index (in_task stage_loop)) ≡ true
    sound_by None e l inner statement same sound good =
        ap (λ (s : Stmt). is_sound reads written loaded s (consuming func_index zeros)) same ∙ sound [] (sym (append-nil stage.loops)) zeros (small None l) tt good
    sound_by (Some loop) e l inner statement nested sound good =
        let o = outermost stage loop facts.1 e in
        let inside = o.last.inside in
        let same : inside_of (Some loop) stage.loops ≡ inside = inside_last func extents stage facts.0 facts.1 func_index loop inside o.last.loops_are in
        let values = loops.with loop.id number zeros in
        let iterations : AreIterations (counts extents stage.splits) (loop ∷ []) values = (
          subst (λ (n : ℕ). n < counts extents stage.splits loop.id)
              (sym (with_same loop.id number zeros)) l,
          tt,
        ) in
        consumers.sound_nests pipeline schedule boxes rules accepted is func_index func plan source_box at store store_of reads words written loaded
        (λ k x y e. e) (roots_load pipeline schedule boxes func_index owned phase.private)
        (λ k standing loop there placed same x y e. produced_writes pipeline schedule boxes func_index owned phase.private private_is accepted k standing loop there
        placed same x y e)
        (λ k standing loop there placed same x y e. produced_loads pipeline schedule boxes func_index owned phase.private private_is accepted k standing loop there
        placed same x y e)
        inside loop [] o.last.loops_are values iterations 0 inner statement nested
        (subst (λ (ls : List Loop). AreSound ls inner) same sound (loop ∷ []) o.last.loops_are values (small (Some loop) l) iterations
        (subst (λ (ls : List Loop). AllByRecursion Good (wholes extents stage.splits ls values)) same good))

    task_sound : is_sound reads written loaded phase.body (task_values phase.counter number) ≡ true
    task_sound =
        ap (λ (c : Option Counter). is_sound reads written loaded phase.body (task_values c number)) counter_is
        ∙ ap (is_sound reads written loaded phase.body) (before_by func extents stage facts.0 facts.1 func_index (parallel stage) number)
        ∙ sound_by (parallel stage) refl below_count body.inner phase.body body.begun inner_sound (all_and IsVisited IsWritten list visited all_written)

  pub touches : TouchesItsOwn pipeline schedule boxes func_index (owns extents stage) phase
  touches number below reads words = task_sound number below reads words
