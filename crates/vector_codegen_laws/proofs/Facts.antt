-- What is known of the phase of a stage of a Func, whichever stage it is, and of points of buffers.
use Rattle.std.proofs.Common.{◌≡◌, ℕ, suc, ◌+◌, ◌<◌, ◌≤◌, Bool, true, false, cond, List, [], ◌∷◌, length, Option, Some, None, refl, sym, ap, ◌∙◌, arith, inl}
use Rattle.std.proofs.Common.{inr, true≢false}
use Rattle.std.specs.Prelude.{◌&&◌, ◌||◌, nat_lt, slice_get, Ok}
use Rattle.std.proofs.lemmas.Bool.{and_parts, and_from, cases_eq, ne_eqb, lt-ltb, ltb-true}
use Rattle.std.proofs.lemmas.Option.{slice_get_within}
use Rattle.halide_pipeline.specs.declared.definitions.Func.{Func}
use Rattle.halide_pipeline.specs.declared.definitions.Update.{Update}
use Rattle.halide_pipeline.specs.Pipelines.{Pipeline}
use Rattle.halide_pipeline.specs.Pixel.{Planes, reads_of, pixels}
use Rattle.schedule_lines.specs.declared.stages.Stage.{Stage}
use Rattle.schedule.specs.declared.plans.FuncPlan.{FuncPlan}
use Rattle.schedule.specs.declared.schedules.Schedule.{Schedule}
use Rattle.schedule.specs.declared.placements.LoopPosition.{LoopPosition}
use Rattle.schedule.specs.declared.placements.ComputeLevel.{ComputeLevel}
use Rattle.schedule.specs.declared.placements.ComputeLevel.TheVariants as standpoints
use Rattle.schedule.specs.declared.placements.FuncPlacement.{FuncPlacement}
use Rattle.schedule.specs.Accepted.{IsAccepted}
use Rattle.schedule.specs.Legal.{is_root}
use Rattle.schedule_loops.specs.Visits.{iteration_count, owns}
use Rattle.bounds_ranges.specs.Laws.{AnswerWords}
use Rattle.bounds.specs.declared.boxes.SourceBox.{SourceBox}
use Rattle.bounds.specs.declared.verdict.Boxes.{Boxes}
use Rattle.bounds.specs.Extents.{box_in, extent, extents_of, update_extents}
use Rattle.bounds.specs.Verdict.{inferred}
use Rattle.bounds_laws.specs.Laws.{IsComputed}
use Rattle.bounds_laws.proofs.BoxFacts.{HasBox, has_box}
use Rattle.loop_ir.specs.declared.statements.Phase.{Phase}
use Rattle.loop_ir.specs.Stores.{is_stored_by_task}
use Rattle.lowering.specs.ProducedFuncs.{produced_from, is_produced, is_at_loop_of}
use Rattle.lowering.specs.Lowered.{IsStagePhase, Pure, Updating}
use Rattle.lowering.specs.Phases.{Hold}
use Rattle.lowering.specs.Planes.{held, has_point, box_points}
use Rattle.bounds.specs.Stages.{IsAtRoot, names, StagePosition, iterations, iterations_in, iterations_of, update_iterations, writes, writes_in, writes_of}
use Rattle.bounds.specs.Stages.{update_writes}
use Rattle.lowering.specs.Stages.{is_at_loop, is_private_in, is_private, after_stages, DoesStage}
use Rattle.lowering.specs.LoopLanes.{LanesMayBeAtOnce}
use Rattle.lowering.specs.Runs.{StoresInRuns}
use Rattle.lowering.specs.Touching.{is_listed, is_root_at, is_root_in, TouchesItsOwn}
use Rattle.lowering.specs.Updates.{IsUpdateAt, owns_update}
use Rattle.vector_codegen_laws.specs.Points.{RootPoint, PrivatePoint}

-- ---- points of a buffer

-- the buffer has the point
record PointIn (entry : Option (Option SourceBox)) (x y : ℕ) : Type 0 where
  own : SourceBox
  is : entry ≡ Some (Some own)
  column : x < extent own.x
  row : y < extent own.y

point_in : (entry : Option (Option SourceBox)) (x y : ℕ) → has_point (box_in entry) x y ≡ true → PointIn entry x y
point_in None x y e = absurd (true≢false (sym e))
point_in (Some None) x y e = absurd (true≢false (sym e))
point_in (Some (Some own)) x y e =
    let k = and_parts (nat_lt x (extent own.x)) (nat_lt y (extent own.y)) e in
    record { own = own; is = refl; column = ltb-true x (extent own.x) k.0; row = ltb-true y (extent own.y) k.1 }

-- a Func is computed at a loop
pub record IsAtLoop (schedule : Schedule) (func : ℕ) : Type 0 where
  pub standing : FuncPlacement
  pub standing_is : slice_get schedule.standings func ≡ Some standing
  pub loop : LoopPosition
  pub at_loop : standing.place ≡ standpoints.At loop

root_of : (own : FuncPlacement) (place : ComputeLevel) → own.place ≡ place → is_root place ≡ true → own.place ≡ standpoints.Root
root_of own standpoints.Root e t = e
root_of own (standpoints.At at) e t = absurd (true≢false (sym t))
root_of own standpoints.Inlined e t = absurd (true≢false (sym t))
root_of own standpoints.Nowhere e t = absurd (true≢false (sym t))

module _ (pipeline : Pipeline) (schedule : Schedule) (boxes : Boxes) where
  pub root_point : (func x y : ℕ) (standing : FuncPlacement) → slice_get schedule.standings func ≡ Some standing → standing.place ≡ standpoints.Root
      → box_points boxes.funcs func x y ≡ true
      → RootPoint pipeline schedule boxes.funcs func x y
  root_point func x y standing e r t =
      let p = point_in (slice_get boxes.funcs func) x y t in
      record { standing = standing; standing_is = e; at_root = r; own = p.own; box_is = p.is; column = p.column; row = p.row }

  pub private_point : (func x y : ℕ) → IsAtLoop schedule func → box_points boxes.funcs func x y ≡ true → PrivatePoint pipeline schedule boxes.funcs func x y
  private_point func x y l t =
      let p = point_in (slice_get boxes.funcs func) x y t in
      record {
        standing = l.standing;
        standing_is = l.standing_is;
        loop = l.loop;
        at_loop = l.at_loop;
        own = p.own;
        box_is = p.is;
        column = p.column;
        row =
            p.row;
      }

  -- a point of a Func that is known to stand at root
  pub listed_root_point : (func x y : ℕ) → is_root_at schedule.standings func ≡ true → box_points boxes.funcs func x y ≡ true
      → RootPoint pipeline schedule boxes.funcs func x y
  listed_root_point func x y r t = by_standing (slice_get schedule.standings func) refl r
    where
      by_standing : (standing : Option FuncPlacement) → slice_get schedule.standings func ≡ standing → is_root_in standing ≡ true
          → RootPoint pipeline schedule boxes.funcs func x y
      by_standing None e s = absurd (true≢false (sym s))
      by_standing (Some own) e s = root_point func x y own e (root_of own own.place refl (and_parts own.is_reached (is_root own.place) s).1) t

  -- the buffer of a Func at root has its points
  pub point_there : (func x y : ℕ) → RootPoint pipeline schedule boxes.funcs func x y → box_points boxes.funcs func x y ≡ true
  point_there func x y p =
      ap (λ (e : Option (Option SourceBox)). has_point (box_in e) x y) p.box_is
      ∙ and_from (nat_lt x (extent p.own.x)) (nat_lt y (extent p.own.y)) (lt-ltb x (extent p.own.x) p.column) (lt-ltb y (extent p.own.y) p.row)

  -- a point of a buffer that isn't private is one of a Func at root
  module _ (accepted : IsAccepted pipeline schedule) (is : inferred pipeline schedule ≡ Ok boxes) where
    pub shared_point : (func x y : ℕ) → is_private schedule.standings func ≡ false → box_points boxes.funcs func x y ≡ true
        → RootPoint pipeline schedule boxes.funcs func x y
    shared_point func x y shared t =
        let p = point_in (slice_get boxes.funcs func) x y t in
        let b = has_box pipeline schedule boxes accepted is func p.own p.is in
        by_place p.own b b.standing.place refl b.computed
      where
        by_place : (own : SourceBox) → (b : HasBox pipeline schedule boxes func own) → (place : ComputeLevel) → b.standing.place ≡ place → IsComputed func place
            → RootPoint pipeline schedule boxes.funcs func x y
        by_place own b standpoints.Root w c = root_point func x y b.standing b.there.standing w t
        by_place own b (standpoints.At at) w c =
            absurd (true≢false (sym (ap is_private_in b.there.standing ∙ (ap (λ (r : Bool). r && is_at_loop b.standing.place) b.there.reached
            ∙ ap is_at_loop w)) ∙ shared))
        by_place own b standpoints.Inlined w c = absurd c
        by_place own b standpoints.Nowhere w c = absurd c

-- ---- Funcs at loops of a consumer

record Listed (consumer at k : ℕ) (standings : List FuncPlacement) : Type 0 where
  n : ℕ
  place_is : k ≡ at + n
  own : FuncPlacement
  there : slice_get standings n ≡ Some own
  produced : is_produced consumer own ≡ true

listed_later : (consumer at k : ℕ) (first : FuncPlacement) (others : List FuncPlacement) → Listed consumer (suc at) k others → Listed consumer at k (first ∷ others)
listed_later consumer at k first others l = let e = l.place_is in record {
  n = suc l.n;
  place_is = omega (arith, e);
  own = l.own;
  there = l.there;
  produced =
      l.produced;
}

listed_here : (consumer at k : ℕ) (first : FuncPlacement) (others : List FuncPlacement) → (is_listed (produced_from consumer (suc at) others) k ≡ true
    → Listed consumer (suc at) k others)
    → (b : Bool) → is_produced consumer first ≡ b → is_listed (cond b (at ∷ produced_from consumer (suc at) others) (produced_from consumer (suc at) others)) k
    ≡ true → Listed consumer at k (first ∷ others)
listed_here consumer at k first others next false f e = listed_later consumer at k first others (next e)
listed_here consumer at k first others next true f e = elim (cases_eq at k) [
  | inl q ↦ record { n = 0; place_is = omega (arith, q); own = first; there = refl; produced = f }
  | inr d ↦ listed_later consumer at k first others (next (sym (ap (λ (b : Bool). b || is_listed (produced_from consumer (suc at) others) k) (ne_eqb at k d))
      ∙ e))
]

listed_of : (consumer at : ℕ) (standings : List FuncPlacement) (k : ℕ) → is_listed (produced_from consumer at standings) k ≡ true → Listed consumer at k standings
listed_of consumer at [] k e = absurd (true≢false (sym e))
listed_of consumer at (first ∷ others) k e = listed_here consumer at k first others (λ f. listed_of consumer (suc at) others k f) (is_produced consumer first)
    refl e

record LoopOf (place : ComputeLevel) : Type 0 where
  loop : LoopPosition
  is : place ≡ standpoints.At loop

loop_of : (consumer : ℕ) (place : ComputeLevel) → is_at_loop_of consumer place ≡ true → LoopOf place
loop_of consumer (standpoints.At at) e = record { loop = at; is = refl }
loop_of consumer standpoints.Root e = absurd (true≢false (sym e))
loop_of consumer standpoints.Inlined e = absurd (true≢false (sym e))
loop_of consumer standpoints.Nowhere e = absurd (true≢false (sym e))

produced_at_loop : (schedule : Schedule) (consumer func : ℕ) → is_listed (produced_from consumer 0 schedule.standings) func ≡ true → IsAtLoop schedule func
produced_at_loop schedule consumer func e =
    let l = listed_of consumer 0 schedule.standings func e in
    let p = l.place_is in
    let here : l.n ≡ func = omega (arith, p) in
    let loop = loop_of consumer l.own.place (and_parts l.own.is_reached (is_at_loop_of consumer l.own.place) l.produced).1 in
    record { standing = l.own; standing_is = ap (slice_get schedule.standings) (sym here) ∙ l.there; loop = loop.loop; at_loop = loop.is }

-- ---- the phase of a stage

-- which stage of a Func a phase computes, and which points each task owns
pub record Work : Type 0 where
  pub place : ℕ
  pub func : Func
  pub plan : FuncPlan
  pub own : SourceBox
  pub number : ℕ
  pub owned : ℕ → ℕ → ℕ → Bool
  pub phase : Phase

-- its stage, by its place
abbrev pub stage_of : Work → StagePosition
stage_of work = record { func = work.place; number = work.number }

pub record IsKnown (pipeline : Pipeline) (schedule : Schedule) (boxes : Boxes) (work : Work) : Type 0 where
  pub at : IsAtRoot pipeline schedule boxes work.place work.func work.plan work.own
  pub stores_in_runs : work.number ≡ 0 → StoresInRuns work.place (extents_of work.own) work.plan.pure work.phase
  pub number_is : work.number ≤ length work.func.updates
  pub func_is : slice_get pipeline.funcs work.place ≡ Some work.func
  pub standing : FuncPlacement
  pub standing_is : slice_get schedule.standings work.place ≡ Some standing
  pub at_root : standing.place ≡ standpoints.Root
  -- its private buffers are those of Funcs at loops
  pub produced : (func : ℕ) → is_listed work.phase.private func ≡ true → IsAtLoop schedule func
  pub does : DoesStage pipeline schedule boxes work.place work.func work.number work.owned work.phase
  pub touches : TouchesItsOwn pipeline schedule boxes work.place work.owned work.phase
  pub loop_lanes : LanesMayBeAtOnce work.phase
  pub tasks_are : work.phase.tasks ≡ iterations pipeline schedule boxes (stage_of work)
  -- from what the stage begins with, a task stores at the points that its iteration writes, and owns them
  pub stores : (inputs : Planes) → AnswerWords pipeline.inputs (reads_of inputs (pixels pipeline.funcs inputs 0)) → (funcs : Planes) (task : ℕ)
      → task < work.phase.tasks
      → Hold (box_points boxes.funcs) (is_private schedule.standings) work.place (work.owned task) (held boxes.funcs (after_stages pipeline.funcs inputs
      work.place work.func work.number)) funcs
      → (x y : ℕ) → is_stored_by_task (box_points boxes.funcs) inputs work.phase task work.place x y funcs ≡ writes pipeline schedule boxes inputs
      (stage_of work) task x y
  pub owned_writes : (inputs : Planes) → AnswerWords pipeline.inputs (reads_of inputs (pixels pipeline.funcs inputs 0)) → (task : ℕ) → task < work.phase.tasks
      → (x y : ℕ) → writes pipeline schedule boxes inputs (stage_of work) task x y ≡ true → work.owned task x y ≡ true

pub record KnownPhase (pipeline : Pipeline) (schedule : Schedule) (boxes : Boxes) (place : ℕ) (func : Func) (plan : FuncPlan) (own : SourceBox) (number : ℕ)
    (phase : Phase) : Type 0 where
  pub owned : ℕ → ℕ → ℕ → Bool
  pub known : IsKnown pipeline schedule boxes (record {
    place = place;
    func = func;
    plan = plan;
    own = own;
    number = number;
    owned = owned;
    phase = phase;
  })

module _ (pipeline : Pipeline) (schedule : Schedule) (boxes : Boxes) (place : ℕ) (func : Func) (plan : FuncPlan) (own : SourceBox)
    (at : IsAtRoot pipeline schedule boxes place func plan own) where
  iterations_are : (number : ℕ) → iterations pipeline schedule boxes (record { func = place; number = number }) ≡ iterations_of pipeline schedule boxes func
      plan own number
  iterations_are number =
      ap (λ (f : Option Func). iterations_in pipeline schedule boxes f (slice_get schedule.funcs place) (slice_get boxes.funcs place) number) at.func_is
      ∙ (ap (λ (q : Option FuncPlan). iterations_in pipeline schedule boxes (Some func) q (slice_get boxes.funcs place) number) at.plan_is
      ∙ ap (λ (b : Option (Option SourceBox)). iterations_in pipeline schedule boxes (Some func) (Some plan) b number) at.box_is)

  writes_are : (inputs : Planes) (number task x y : ℕ)
      → writes pipeline schedule boxes inputs (record { func = place; number = number }) task x y ≡ writes_of pipeline schedule boxes inputs place func plan own
      number task x y
  writes_are inputs number task x y =
      ap (λ (f : Option Func). writes_in pipeline schedule boxes inputs place f (slice_get schedule.funcs place) (slice_get boxes.funcs place) number task x y)
      at.func_is
      ∙ (ap (λ (q : Option FuncPlan). writes_in pipeline schedule boxes inputs place (Some func) q (slice_get boxes.funcs place) number task x y) at.plan_is
      ∙ ap (λ (b : Option (Option SourceBox)). writes_in pipeline schedule boxes inputs place (Some func) (Some plan) b number task x y) at.box_is)

  module _ (number : ℕ) (update : Update) (stage : Stage) (it : IsUpdateAt schedule place func plan number update stage) where
    update_iterations_are : iterations pipeline schedule boxes (record { func = place; number = suc number }) ≡ iteration_count (update_extents own update)
        stage
    update_iterations_are =
        iterations_are (suc number)
        ∙ (ap (λ (u : Option Update). update_iterations pipeline schedule boxes own u (slice_get plan.updates number)) it.update_is
        ∙ ap (λ (s : Option Stage). update_iterations pipeline schedule boxes own (Some update) s) it.stage_is)

    update_writes_are : (inputs : Planes) (task x y : ℕ) → writes pipeline schedule boxes inputs (record { func = place; number = suc number }) task x y
        ≡ names pipeline inputs place own update stage task x y
    update_writes_are inputs task x y =
        writes_are inputs (suc number) task x y
        ∙ (ap (λ (u : Option Update). update_writes pipeline schedule boxes inputs place own u (slice_get plan.updates number) task x y) it.update_is
        ∙ ap (λ (s : Option Stage). update_writes pipeline schedule boxes inputs place own (Some update) s task x y) it.stage_is)

  pub known_phase : (number : ℕ) (phase : Phase) → IsStagePhase pipeline schedule boxes place func plan own number phase
      → KnownPhase pipeline schedule boxes place func plan own number phase
  known_phase _ _ (Pure phase tasks private_is bytes does touches few stores loop_lanes in_runs) = record {
    owned = owns (extents_of own) plan.pure;
    known = record {
      at = at;
      stores_in_runs = λ first. in_runs;
      number_is = omega arith;
      func_is = at.func_is;
      standing = at.standing;
      standing_is = at.there.standing;
      at_root = at.placed_is;
      produced = λ k e. produced_at_loop schedule place k (sym (ap (λ (l : List ℕ). is_listed l k) private_is) ∙ e);
      does = does;
      touches = touches;
      loop_lanes = loop_lanes;
      tasks_are = tasks ∙ sym (iterations_are 0);
      stores = λ inputs begun funcs task below holds x y. stores inputs funcs task below x y ∙ sym (writes_are inputs 0 task x y);
      owned_writes = λ inputs begun task below x y written. sym (writes_are inputs 0 task x y) ∙ written;
    };
  }
  known_phase _ _ (Updating number update stage phase it tasks private_is bytes does touches few stores loop_lanes) = record {
    owned = owns_update own update stage;
    known = record {
      at = at;
      stores_in_runs = λ first. absurd (omega (arith, first));
      number_is = let inside = slice_get_within func.updates number update it.update_is in omega (arith, inside);
      func_is = at.func_is;
      standing = at.standing;
      standing_is = at.there.standing;
      at_root = at.placed_is;
      produced = λ k e. absurd (true≢false (sym e ∙ ap (λ (l : List ℕ). is_listed l k) private_is));
      does = does;
      touches = touches;
      loop_lanes = loop_lanes;
      tasks_are = tasks ∙ sym (update_iterations_are number update stage it);
      stores = λ inputs begun funcs task below holds x y. stores.exactly inputs begun funcs task below holds x y
          ∙ sym (update_writes_are number update stage it inputs task x y);
      owned_writes = λ inputs begun task below x y written. stores.owned inputs begun task below x y (sym (update_writes_are number update stage it inputs task
          x y) ∙ written);
    };
  }
