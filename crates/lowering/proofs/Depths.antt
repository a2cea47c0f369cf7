-- How many counters stand around the stores of nests and consumers, and how many registers their expressions need.
use Rattle.std.proofs.Common.{◌≡◌, ℕ, suc, ◌+◌, ◌-◌, ◌≤◌, List, [], ◌∷◌, ◌++◌, length, Option, Some, None, ap, arith, length-append, length-take}
use Rattle.std.specs.Prelude.{max}
use Rattle.halide_pipeline.specs.declared.definitions.Func.{Func}
use Rattle.halide_pipeline.specs.Pipelines.{Pipeline}
use Rattle.schedule_lines.specs.declared.stages.Loop.{Loop}
use Rattle.schedule_lines.specs.declared.stages.Stage.{Stage}
use Rattle.schedule.specs.declared.plans.FuncPlan.{FuncPlan}
use Rattle.schedule.specs.declared.schedules.Schedule.{Schedule}
use Rattle.schedule.specs.declared.placements.LoopPosition.{LoopPosition}
use Rattle.schedule_loops.specs.declared.extents.Extents.{Extents}
use Rattle.schedule_loops.specs.Visits as loops
use Rattle.schedule_loops.specs.Visits.{parallel}
use Rattle.bounds.specs.declared.boxes.SourceBox.{SourceBox}
use Rattle.bounds.specs.declared.verdict.Boxes.{Boxes}
use Rattle.loop_ir.specs.declared.statements.Phase.{Phase}
use Rattle.loop_ir.specs.declared.statements.Stmt.{Stmt}
use Rattle.loop_ir.specs.Depths.{depth, count_of}
use Rattle.loop_ir.specs.Needs.{greatest_need}
use Rattle.lowering.specs.Consuming.{IsNestAt, HasNests, None_left, One_more, HasLoops, No_loops, One_outside, HasOutermost, IsBody, depth_first, need_first}
use Rattle.lowering.specs.Lowered as lowered
use Rattle.lowering.specs.PurePhases.{inside_of, counter_of}
use Rattle.lowering.specs.Registers.{TakesFew, TakeFew, most_need}

-- loops inside a parallel one, with its own counter, are no more than all
inside_few : (consumer : ℕ) (stage_loop : Option Loop) (all : List Loop) → length all ≤ 5 → count_of (counter_of consumer stage_loop) + length (inside_of stage_loop all) ≤ 5
inside_few consumer None all few = omega (arith, few)
inside_few consumer (Some stage_loop) all few = let e = length-take (length all - 1) all in omega (arith, few, e)

pub update_few : (consumer : ℕ) (stage_loop : Option Loop) (all : List Loop) (splits inner body : ℕ) → length all ≤ 5 → splits ≤ 4 → inner ≡ 0
    → body ≡ length (inside_of stage_loop all) + (splits + inner)
    → count_of (counter_of consumer stage_loop) + body ≤ 14
update_few consumer stage_loop all splits inner body few few_splits none is = let l = inside_few consumer stage_loop all few in omega (arith, l, few_splits, none, is)

module _ (pipeline : Pipeline) (schedule : Schedule) (boxes : Boxes) where
  found_few : (at : LoopPosition) (func_index : ℕ) (new_statement : Option Stmt) → IsNestAt pipeline schedule boxes at func_index new_statement → depth_first new_statement ≤ 9
  found_few at func_index None is = omega arith
  found_few at func_index (Some statement) is = is.few

  nests_few : (at : LoopPosition) (from : ℕ) (inside statement : Stmt) → HasNests pipeline schedule boxes at from inside statement → depth statement ≤ max 9 (depth inside)
  nests_few at _ inside _ (None_left from _ past) = omega arith
  nests_few at _ _ _ (One_more from new_statement inside rest statement is others first) =
      let e = first.depth_is in
      let f = found_few at from new_statement is in
      let r = nests_few at (suc from) inside rest others in
      omega (arith, e, f, r)

  loops_few : (consumer : ℕ) (counts : loops.Values) (leaf : Stmt) (own : List Loop) (statement : Stmt)
      → HasLoops pipeline schedule boxes consumer counts leaf own statement
      → depth statement ≤ length own + max 9 (depth leaf)
  loops_few consumer counts leaf _ _ No_loops = omega arith
  loops_few consumer counts leaf _ _ (One_outside inside own inner body statement has nests does around run_around) =
      let e = does.depth_is in
      let n = nests_few (record { func = consumer; inside = own.id }) 0 inner body nests in
      let i = loops_few consumer counts leaf inside inner has in
      let l = length-append inside (own ∷ []) in
      omega (arith, e, n, i, l)

  outermost_few : (consumer : ℕ) (own : Option Loop) (inner body : Stmt) → HasOutermost pipeline schedule boxes consumer own inner body
      → depth body ≤ max 9 (depth inner)
  outermost_few consumer None inner body same = omega (arith, ap depth same)
  outermost_few consumer (Some own) inner body nests = nests_few (record { func = consumer; inside = own.id }) 0 inner body nests

  pub body_few : (consumer : ℕ) (stage : Stage) (extents : Extents) (store body : Stmt) → IsBody pipeline schedule boxes consumer stage extents store body
      → depth store ≡ 0
      → length stage.loops ≤ 5 → length stage.splits ≤ 4 → count_of (counter_of consumer (parallel stage)) + depth body ≤ 14
  body_few consumer stage extents store body is none few few_splits =
      let e = is.depth_is in
      let i = loops_few consumer (loops.counts extents stage.splits) is.leaf (inside_of (parallel stage) stage.loops) is.inner is.looped in
      let o = outermost_few consumer (parallel stage) is.inner body is.begun in
      let l = inside_few consumer (parallel stage) stage.loops few in
      omega (arith, e, none, few_splits, i, o, l)

  -- ---- registers

  abbrev most : ℕ
  most = most_need pipeline schedule

  found_need : (at : LoopPosition) (func_index : ℕ) (new_statement : Option Stmt) → IsNestAt pipeline schedule boxes at func_index new_statement → need_first new_statement ≤ most
  found_need at func_index None is = omega arith
  found_need at func_index (Some statement) is = is.needs

  nests_need : (at : LoopPosition) (from : ℕ) (inside statement : Stmt)
      → HasNests pipeline schedule boxes at from inside statement
      → greatest_need statement ≤ max most (greatest_need inside)
  nests_need at _ inside _ (None_left from _ past) = omega arith
  nests_need at _ _ _ (One_more from new_statement inside rest statement is others first) =
      let e = first.need_is in
      let f = found_need at from new_statement is in
      let r = nests_need at (suc from) inside rest others in
      omega (arith, e, f, r)

  loops_need : (consumer : ℕ) (counts : loops.Values) (leaf : Stmt) (own : List Loop) (statement : Stmt)
      → HasLoops pipeline schedule boxes consumer counts leaf own statement
      → greatest_need statement ≤ max most (greatest_need leaf)
  loops_need consumer counts leaf _ _ No_loops = omega arith
  loops_need consumer counts leaf _ _ (One_outside inside own inner body statement has nests does around run_around) =
      let e = does.need_is in
      let n = nests_need (record { func = consumer; inside = own.id }) 0 inner body nests in
      let i = loops_need consumer counts leaf inside inner has in
      omega (arith, e, n, i)

  outermost_need : (consumer : ℕ) (own : Option Loop) (inner body : Stmt) → HasOutermost pipeline schedule boxes consumer own inner body
      → greatest_need body ≤ max most (greatest_need inner)
  outermost_need consumer None inner body same = let e : greatest_need body ≡ greatest_need inner = ap greatest_need same in omega (arith, e)
  outermost_need consumer (Some own) inner body nests = nests_need (record { func = consumer; inside = own.id }) 0 inner body nests

  pub body_need : (consumer : ℕ) (stage : Stage) (extents : Extents) (store body : Stmt) → IsBody pipeline schedule boxes consumer stage extents store body
      → greatest_need store ≤ most
      → greatest_need body ≤ most
  body_need consumer stage extents store body is few =
      let e = is.need_is in
      let i = loops_need consumer (loops.counts extents stage.splits) is.leaf (inside_of (parallel stage) stage.loops) is.inner is.looped in
      let o = outermost_need consumer (parallel stage) is.inner body is.begun in
      omega (arith, e, few, i, o)

  -- ---- phases

  abbrev Few : List Phase → Type 0
  Few phases = TakeFew pipeline schedule phases

  one_behind : (phases : List Phase) (phase : Phase) → Few phases → TakesFew pipeline schedule phase → Few (phases ++ phase ∷ [])
  one_behind [] phase few own = (own, tt)
  one_behind (first ∷ phases) phase few own = (few.0, one_behind phases phase few.1 own)

  stage_few : (func_index : ℕ) (func : Func) (plan : FuncPlan) (own : SourceBox) (number : ℕ) (phase : Phase)
      → lowered.IsStagePhase pipeline schedule boxes func_index func plan own number phase
      → TakesFew pipeline schedule phase
  stage_few func_index func plan own _ _ (lowered.Pure phase tasks private_is bytes does touches few stores loop_lanes in_runs) = few.0
  stage_few func_index func plan own _ _ (lowered.Updating at update stage phase it tasks private_is bytes does touches few stores loop_lanes) = few.0

  stages_few : (func_index : ℕ) (func : Func) (plan : FuncPlan) (own : SourceBox) (others phases : List Phase)
      (number : ℕ)
      → lowered.ArePhasesOf pipeline schedule boxes func_index func plan own others number phases → Few others
      → Few phases
  stages_few func_index func plan own others _ _ lowered.None_yet few = few
  stages_few func_index func plan own others _ _ (lowered.One_more number phases phase rest one) few =
      one_behind phases phase (stages_few func_index func plan own others phases number rest few) (stage_few func_index func plan own number phase one)

  pub phases_few : (count : ℕ) (phases : List Phase) → lowered.AreLowered pipeline schedule boxes count phases → Few phases
  phases_few _ _ lowered.No_func = tt
  phases_few _ _ (lowered.Passed func_index phases rest none) = phases_few func_index phases rest
  phases_few _ _ (lowered.Computed func_index before phases func plan own rest at stages) =
      stages_few func_index func plan own before phases (suc (length func.updates)) stages
      (phases_few func_index before rest)
