-- Lanes of the vectorized loops of a consumer, and of the nests of the Funcs that are computed at its loops, may be done at once. No Func is
-- computed at a vectorized loop.
use Rattle.std.proofs.Common.{◌≡◌, ℕ, suc, ◌+◌, ◌^◌, ◌<◌, ◌≤◌, Bool, true, false, cond, List, [], ◌∷◌, ◌++◌, Option, Some, None, refl, sym, ap, subst, ◌∙◌}
use Rattle.std.proofs.Common.{arith, true≢false}
use Rattle.std.specs.Prelude.{slice_get}
use Rattle.std.specs.Str.{bytes_eq}
use Rattle.std.specs.List.{AllByRecursion}
use Rattle.std.proofs.lemmas.Bool.{and_from}
use Rattle.halide_pipeline.specs.declared.definitions.Func.{Func}
use Rattle.halide_pipeline.specs.Pipelines.{Pipeline}
use Rattle.halide_pipeline.specs.Pixel.{Reads}
use Rattle.schedule_lines.specs.declared.stages.Loop.{Loop}
use Rattle.schedule_lines.specs.declared.stages.LoopId.{LoopId}
use Rattle.schedule_lines.specs.declared.stages.Stage.{Stage}
use Rattle.schedule_lines.specs.Directives.{find}
use Rattle.schedule_lines.specs.Making.{total}
use Rattle.schedule.specs.declared.plans.FuncPlan.{FuncPlan}
use Rattle.schedule.specs.declared.schedules.Schedule.{Schedule}
use Rattle.schedule.specs.declared.placements.LoopPosition.{LoopPosition}
use Rattle.schedule.specs.declared.placements.ComputeLevel.TheVariants as places
use Rattle.schedule.specs.declared.placements.FuncPlacement.{FuncPlacement}
use Rattle.schedule.specs.Accepted.{IsAccepted, IsConsumer, IsProduced as HasConsumer}
use Rattle.schedule.specs.Uses.{IsReached}
use Rattle.schedule.proofs.Uses.{numbered_at}
use Rattle.schedule_loops.specs.declared.extents.Extents.{Extents}
use Rattle.schedule_loops.specs.Visits as loops
use Rattle.schedule_loops.specs.Visits.{counts, parallel}
use Rattle.schedule_loops.specs.Reach.{wholes}
use Rattle.schedule_loops.specs.Stages.{IsStageOf, KeepsRules}
use Rattle.schedule_loops.proofs.Nesting.{has_id, has_same}
use Rattle.bounds.specs.declared.verdict.Boxes.{Boxes}
use Rattle.loop_ir.specs.declared.statements.Stmt.{Stmt}
use Rattle.loop_ir.specs.Counters.{Values}
use Rattle.loop_ir.specs.LoopLanes.{may_be_at_once}
use Rattle.lowering_nests.specs.Nests.{Repeats}
use Rattle.lowering_nests.specs.LoopLanes.{AllAreSmall, IsLeaf, MayBeAtOnce, MayBeVectorized, MayBeUnder}
use Rattle.schedule_loops.specs.Runs.{is_vectorized_loop}
use Rattle.lowering_nests.proofs.LoopLanes.{may_be_vectorized}
use Rattle.lowering.specs.Consuming.{IsNestAt, IsNestOf, HasNests, None_left, One_more, HasLoops, No_loops, One_outside, HasOutermost}
use Rattle.lowering.specs.LoopLanes.{at_once_first}
use Rattle.lowering.proofs.VectorLoops.{others_are, unique_loops}

-- ---- loops found by a name

found_by : (P : Loop → Type 0) (first stage_loop : Loop) (b : Bool) (other : Option Loop) → P first → (other ≡ Some stage_loop → P stage_loop) → cond b (Some first) other ≡ Some stage_loop
    → P stage_loop
found_by P first stage_loop true other one others e = let same : first ≡ stage_loop = cc in subst P same one
found_by P first stage_loop false other one others e = others e

found_keeps : (P : Loop → Type 0) (name : List ℕ) (all : List Loop) (stage_loop : Loop) → AllByRecursion P all → find name all ≡ Some stage_loop → P stage_loop
found_keeps P name [] stage_loop each e = absurd cc
found_keeps P name (first ∷ others) stage_loop each e = found_by P first stage_loop (bytes_eq first.name name) (find name others) each.0 (λ f. found_keeps P name others stage_loop
    each.1 f) e

-- of loops with different ids, one that is this one
others_apart : (id : LoopId) (outside : List Loop) → total (has_id id) outside ≡ 0 → AllByRecursion (λ (stage_loop : Loop). stage_loop.id ≡ id → ⊥) outside
others_apart id [] none = tt
others_apart id (stage_loop ∷ outside) none = (
  λ e. let one : has_id id stage_loop ≡ 1 = subst (λ (i : LoopId). has_id i stage_loop ≡ 1) e (has_same stage_loop) in absurd (omega (arith, none, one)),
  others_apart id outside (omega (arith, none)),
)

module _ (pipeline : Pipeline) (schedule : Schedule) (boxes : Boxes) where
  -- ---- nests at the beginning of an iteration

  module _ (at : LoopPosition) where
    found_at_once : (func_index : ℕ) (found : Option Stmt) → IsNestAt pipeline schedule boxes at func_index found → (reads : Reads) (values : Values) → AllAreSmall values
        → at_once_first reads found values ≡ true
    found_at_once func_index None is reads values small = refl
    found_at_once func_index (Some statement) is reads values small = is.at_once reads values small

    pub nests_at_once : (from : ℕ) (inside statement : Stmt) → HasNests pipeline schedule boxes at from inside statement → (reads : Reads) (values : Values)
        → AllAreSmall values
        → may_be_at_once reads inside values ≡ true → may_be_at_once reads statement values ≡ true
    nests_at_once _ inside _ (None_left from _ past) reads values small e = e
    nests_at_once _ _ _ (One_more from found inside rest statement is others first) reads values small e =
        first.at_once reads values
        ∙ and_from (at_once_first reads found values) (may_be_at_once reads rest values) (found_at_once from found is reads values small)
        (nests_at_once (suc from) inside rest others reads values small e)

    -- where none is computed, nothing is before what is inside
    pub no_nests : ((func_index : ℕ) (statement : Stmt) → IsNestOf pipeline schedule boxes at func_index statement → ⊥) → (from : ℕ) (inside statement : Stmt)
        → HasNests pipeline schedule boxes at from inside statement → statement ≡ inside
    no_nests none _ inside _ (None_left from _ past) = refl
    no_nests none _ _ _ (One_more from None inside rest statement is others first) = first.alone_is refl ∙ no_nests none (suc from) inside rest others
    no_nests none _ _ _ (One_more from (Some stage_loop) inside rest statement is others first) = absurd
        (none from stage_loop is)

  -- ---- loops

  module _ (accepted : IsAccepted pipeline schedule) (consumer : ℕ) (func : Func) (plan : FuncPlan) (plan_is : slice_get schedule.funcs consumer ≡ Some plan)
      (extents : Extents)
      (is : IsStageOf func None plan.pure) (kept : KeepsRules plan.pure) (few : (id : LoopId) → counts extents plan.pure.splits id < 2 ^ 25)
      (leaf store : Stmt) (bound : Repeats consumer leaf store (wholes extents plan.pure.splits [])) (store_is : IsLeaf store) (leaf_is : IsLeaf leaf) where
    abbrev stage : Stage
    stage = plan.pure

    abbrev counted : loops.Values
    counted = counts extents plan.pure.splits

    consumer_of : (func_index : ℕ) (placement : FuncPlacement) (at : LoopPosition) → IsReached schedule.standings func_index placement → placement.place ≡ places.At at
        → IsConsumer pipeline schedule.funcs func_index at
    consumer_of func_index placement at there placed =
        let here : 0 + func_index ≡ func_index = omega arith in
        subst (λ (n : ℕ). IsConsumer pipeline schedule.funcs n at) here (numbered_at (HasConsumer pipeline schedule.funcs) 0 schedule.standings
        accepted.consumers func_index placement there.standing at placed)

    pub none_produced : (stage_loop : Loop) (outside : List Loop) → stage.loops ≡ stage_loop ∷ outside → is_vectorized_loop stage_loop ≡ true → (func_index : ℕ) (statement : Stmt)
        → IsNestOf pipeline schedule boxes (record { func = consumer; inside = stage_loop.id }) func_index statement → ⊥
    none_produced stage_loop outside loops_are e func_index statement nest =
        let it : IsConsumer pipeline schedule.funcs func_index (record { func = consumer; inside = stage_loop.id }) = consumer_of func_index nest.parts.standing
        (record { func = consumer; inside = stage_loop.id }) nest.parts.there nest.parts.placed_is in
        let same : it.plan ≡ plan = some_same (sym it.plan_is ∙ plan_is) in
        let found : find it.name (stage_loop ∷ outside) ≡ Some it.loop = ap (find it.name) (sym (ap (λ (p : FuncPlan). p.pure.loops) same ∙ loops_are)) ∙ it.loop_is in
        let u : total (has_id stage_loop.id) (stage_loop ∷ outside) ≤ 1 = subst (λ (ls : List Loop). total (has_id stage_loop.id) ls ≤ 1) loops_are (unique_loops func None extents
        stage is stage_loop.id) in
        let none : total (has_id stage_loop.id) outside ≡ 0 = omega (arith, u, has_same stage_loop) in
        true≢false (sym (found_keeps (λ (l : Loop). l.id ≡ stage_loop.id → is_vectorized_loop l ≡ true) it.name (stage_loop ∷ outside) it.loop (
          (λ i. e),
          vacuous outside
              (others_apart stage_loop.id outside none),
        ) found it.id_is) ∙ it.unvectorized)
      where
        some_same : {a b : FuncPlan} → Some a ≡ Some b → a ≡ b
        some_same e = cc

        vacuous : (ls : List Loop) → AllByRecursion (λ (l : Loop). l.id ≡ stage_loop.id → ⊥) ls → AllByRecursion (λ (l : Loop). l.id ≡ stage_loop.id
            → is_vectorized_loop l ≡ true) ls
        vacuous [] all = tt
        vacuous (one ∷ ls) all = ((λ i. absurd (all.0 i)), vacuous ls all.1)

    -- after the innermost, none is vectorized
    pub later_plain : (first : Loop) (before : List Loop) (stage_loop : Loop) (outside : List Loop) → stage.loops ≡ (first ∷ before) ++ stage_loop ∷ outside
        → is_vectorized_loop stage_loop ≡ true → ⊥
    later_plain first before stage_loop outside loops_are e = true≢false (sym e ∙ behind before (others_are func None extents stage is kept first (before ++ stage_loop
        ∷ outside) loops_are))
      where
        behind : (ls : List Loop) → AllByRecursion (λ other. is_vectorized_loop other ≡ false) (ls ++ stage_loop ∷ outside) → is_vectorized_loop stage_loop ≡ false
        behind [] all = all.0
        behind (one ∷ ls) all = behind ls all.1

    never_empty : (ls : List Loop) (stage_loop : Loop) → ls ++ stage_loop ∷ [] ≡ [] → ⊥
    never_empty [] stage_loop e = cc
    never_empty (one ∷ ls) stage_loop e = cc

    pub no_loops_is : (inside : List Loop) (inner : Stmt) → HasLoops pipeline schedule boxes consumer counted leaf inside inner → inside ≡ [] → inner ≡ leaf
    no_loops_is _ _ No_loops e = refl
    no_loops_is _ _ (One_outside inside stage_loop inner body statement has nests does around run_around) e = absurd (never_empty inside stage_loop e)

    -- the innermost loop is under what the store under it keeps
    module _ (under : (inside outside : List Loop) → stage.loops ≡ inside ++ outside → MayBeUnder consumer extents plan.pure.splits inside outside store) where
      first_vectorized : (stage_loop : Loop) (outside : List Loop) → stage.loops ≡ stage_loop ∷ outside → (body : Stmt)
          → HasNests pipeline schedule boxes (record { func = consumer; inside = stage_loop.id }) 0 leaf body
          → is_vectorized_loop stage_loop ≡ true → MayBeVectorized consumer counted stage_loop outside body
      first_vectorized stage_loop outside loops_are body nests e =
          let same = no_nests (record { func = consumer; inside = stage_loop.id }) (none_produced stage_loop outside loops_are e) 0 leaf body nests in
          subst (λ (b : Stmt). MayBeVectorized consumer counted stage_loop outside b) (sym same)
          (may_be_vectorized consumer extents plan.pure.splits leaf store bound store_is stage_loop outside (few stage_loop.id) (λ reads. leaf_is.once reads) leaf_is.steps_up
          ((under (stage_loop ∷ []) outside loops_are).0 e))

      fine : (inside : List Loop) (stage_loop : Loop) (outside : List Loop) (inner body : Stmt) → stage.loops ≡ inside ++ stage_loop ∷ outside
          → HasLoops pipeline schedule boxes consumer counted leaf inside inner
          → HasNests pipeline schedule boxes (record { func = consumer; inside = stage_loop.id }) 0 inner body → is_vectorized_loop stage_loop ≡ true
          → MayBeVectorized consumer counted stage_loop outside body
      fine [] stage_loop outside inner body loops_are has nests e =
          first_vectorized stage_loop outside loops_are body (subst (λ (i : Stmt). HasNests pipeline schedule boxes (record { func = consumer; inside = stage_loop.id }) 0 i
          body) (no_loops_is [] inner has refl) nests) e
      fine (first ∷ before) stage_loop outside inner body loops_are has nests e = absurd (later_plain first before stage_loop outside loops_are e)

      pub loops_at_once : (inside outside : List Loop) (statement : Stmt) → stage.loops ≡ inside ++ outside
          → HasLoops pipeline schedule boxes consumer counted leaf inside statement → MayBeAtOnce consumer counted outside statement
      loops_at_once _ outside _ loops_are No_loops reads values small are = leaf_is.at_once reads values
      loops_at_once _ outside _ loops_are (One_outside inside stage_loop inner body statement has nests does around run_around) reads values small are =
          let here : stage.loops ≡ inside ++ stage_loop ∷ outside = loops_are ∙ behind inside stage_loop outside in
          around outside
          (λ r v s a. nests_at_once (record { func = consumer; inside = stage_loop.id }) 0 inner body nests r v s (loops_at_once inside (stage_loop ∷ outside) inner here has
          r v s a))
          (fine inside stage_loop outside inner body here has nests) reads values small are
        where
          behind : (ls : List Loop) (stage_loop : Loop) (outside : List Loop) → (ls ++ stage_loop ∷ []) ++ outside ≡ ls ++ stage_loop ∷ outside
          behind [] stage_loop outside = refl
          behind (one ∷ ls) stage_loop outside = ap (λ (l : List Loop). one ∷ l) (behind ls stage_loop outside)

      -- a task begins with the nests of the Funcs that are computed at the parallel loop
      begun_at_once : (found : Option Loop) (outside : List Loop) (inner body : Stmt) → HasOutermost pipeline schedule boxes consumer found inner body
          → MayBeAtOnce consumer counted outside inner → MayBeAtOnce consumer counted outside body
      begun_at_once None outside inner body same at_once reads values small are = ap (λ (b : Stmt). may_be_at_once reads b values) same
          ∙ at_once reads values small are
      begun_at_once (Some stage_loop) outside inner body nests at_once reads values small are = nests_at_once (record { func = consumer; inside = stage_loop.id }) 0 inner
          body nests reads values small (at_once reads values small are)

      pub body_at_once : (inside outside : List Loop) (inner body : Stmt) → stage.loops ≡ inside ++ outside
          → HasLoops pipeline schedule boxes consumer counted leaf inside inner
          → HasOutermost pipeline schedule boxes consumer (parallel stage) inner body → MayBeAtOnce consumer counted outside body
      body_at_once inside outside inner body loops_are has begun = begun_at_once (parallel stage) outside inner body begun (loops_at_once inside outside inner
          loops_are has)
