-- Shares of what is computed are no more than the schedule weighs.
use Rattle.std.proofs.Common.{◌≡◌, ℕ, zero, suc, ◌+◌, ◌*◌, ◌≤◌, Bool, true, false, List, [], ◌∷◌, length, Option, Some, None, refl, ap, ◌∙◌, arith}
use Rattle.std.specs.Prelude.{if◌then◌else◌, slice_get}
use Rattle.halide_pipeline.specs.declared.definitions.Func.{Func}
use Rattle.halide_pipeline.specs.declared.definitions.Update.{Update}
use Rattle.halide_pipeline.specs.Pipelines.{Pipeline}
use Rattle.schedule_lines.specs.declared.stages.Loop.{Loop}
use Rattle.schedule_lines.specs.declared.stages.LoopId.{LoopId}
use Rattle.schedule_lines.specs.declared.stages.Mark.TheVariants as marks
use Rattle.schedule_lines.specs.declared.stages.Split.{Split}
use Rattle.schedule_lines.specs.declared.stages.Stage.{Stage}
use Rattle.schedule_lines.specs.Directives.{is_marked, same_id}
use Rattle.schedule_lines.specs.Making.{IsStage, total}
use Rattle.schedule.specs.declared.plans.FuncPlan.{FuncPlan}
use Rattle.schedule.specs.declared.schedules.Schedule.{Schedule}
use Rattle.schedule.specs.declared.placements.ComputeLevel.{ComputeLevel}
use Rattle.schedule.specs.declared.placements.ComputeLevel.TheVariants as places
use Rattle.schedule.specs.declared.placements.FuncPlacement.{FuncPlacement}
use Rattle.schedule.specs.Accepted.{IsAccepted, IsPlan, IsUpdateStage, Pairwise}
use Rattle.schedule.specs.Plans.{pure_loops, update_loops, with_loop, with_second, with_reduction}
use Rattle.halide_pipeline.specs.WellFormed.{is_first_in_place, is_second_in_place}
use Rattle.halide_pipeline.specs.declared.definitions.Reduction.{Reduction}
use Rattle.halide_pipeline.specs.declared.expressions.Variable.{Variable}
use Rattle.halide_pipeline.specs.declared.expressions.Variable.TheVariants as variables
use Rattle.schedule.specs.Placements.{pure_loops_of}
use Rattle.schedule_loops.proofs.Making.{Stays, by_making, total_parts, bare_total}
use Rattle.bounds_weights.specs.Weight.{copies, all_copies, copies_from, consumer_copies, factor_of, flags_of, is_computed, nodes_in, update_nodes}
use Rattle.bounds_weights.specs.Weight.{stage_weight, updates_weight, func_weight, computed_weight, funcs_weight, weight}
use Rattle.bounds.specs.declared.verdict.Boxes.{Boxes}
use Rattle.loop_ir.specs.declared.statements.Phase.{Phase}
use Rattle.lowering.specs.Lowered.{AreLowered}
use Rattle.lowering.specs.Sizes.{update_share, shares, func_share, placed_share, summed, words_of}
use Rattle.lowering.proofs.Copies.{times-most}
use Rattle.lowering.proofs.Shares.{last-first, computed_share, phases-light, shares-computed}

-- ---- what a stage weighs

module _ (flags : List Bool) (all : List Func) where
  abbrev updated : List Update → List Stage → ℕ → ℕ
  updated updates stages at = update_share flags all (slice_get updates at) (slice_get stages at)

  shares-are : (func : Func) (plan : FuncPlan) (n : ℕ) → shares flags all func plan n ≡ stage_weight (nodes_in flags all func.pure) plan.pure + summed
      (updated func.updates plan.updates) 0 n
  shares-are func plan zero = omega arith
  shares-are func plan (suc n) =
      let r = shares-are func plan n in
      let l = last-first (updated func.updates plan.updates) n in
      omega (arith, r, l)

  shifted : (f g : ℕ → ℕ) → ((k : ℕ) → f (suc k) ≡ g k) → (at n : ℕ) → summed f (suc at) n ≡ summed g at n
  shifted f g same at zero = refl
  shifted f g same at (suc n) = let e = same at in let r = shifted f g same (suc at) n in omega (arith, e, r)

  no-updates : (stages : List Stage) (at n : ℕ) → summed (updated [] stages) at n ≡ 0
  no-updates stages at zero = refl
  no-updates stages zero (suc n) = omega (arith, no-updates stages 1 n)
  no-updates stages (suc at) (suc n) = omega (arith, no-updates stages (suc (suc at)) n)

  updates-most : (func : Func) (updates : List Update) (stages : List Stage) → Pairwise (IsUpdateStage func) updates stages → (n : ℕ)
      → summed (updated updates stages) 0 n ≤ updates_weight flags all updates stages
  updates-most func [] [] are n = let z = no-updates [] 0 n in omega (arith, z)
  updates-most func [] (stage ∷ stages) are n = absurd are
  updates-most func (update ∷ updates) [] are n = absurd are
  updates-most func (update ∷ updates) (stage ∷ stages) are zero = omega arith
  updates-most func (update ∷ updates) (stage ∷ stages) are (suc n) =
      let e = shifted (updated (update ∷ updates) (stage ∷ stages)) (updated updates stages) (λ k. refl) 0 n in
      let r = updates-most func updates stages are.1 n in
      omega (arith, e, r)

  func-most : (plans : List FuncPlan) (func : Func) (plan : FuncPlan) (placement : FuncPlacement) → IsPlan func plan
      → placed_share flags all plans func plan placement ≤ func_weight flags all plans func plan placement
  func-most plans func plan placement is =
      let s = shares-are func plan (length func.updates) in
      let u = updates-most func func.updates plan.updates is.updates (length func.updates) in
      times-most (func_share flags all func plan) (stage_weight (nodes_in flags all func.pure) plan.pure + updates_weight flags all func.updates plan.updates)
      (consumer_copies plans placement.place) (omega (arith, s, u))

-- ---- all that is computed

module _ (pipeline : Pipeline) (schedule : Schedule) (boxes : Boxes) (accepted : IsAccepted pipeline schedule) where
  abbrev flagged : List Bool
  flagged = flags_of schedule.standings

  abbrev share : Option Func → Option FuncPlan → Option FuncPlacement → ℕ
  share func plan placement = computed_share pipeline schedule boxes func plan placement

  abbrev listed : List Func → List FuncPlan → List FuncPlacement → ℕ → ℕ
  listed funcs plans standings at = share (slice_get funcs at) (slice_get plans at) (slice_get standings at)

  none-listed : (f : ℕ → ℕ) → ((k : ℕ) → f k ≡ 0) → (at n : ℕ) → summed f at n ≡ 0
  none-listed f none at zero = refl
  none-listed f none at (suc n) = let z = none at in let r = none-listed f none (suc at) n in omega (arith, z, r)

  no-func : (plan : Option FuncPlan) (placement : Option FuncPlacement) → share None plan placement ≡ 0
  no-func plan placement = refl

  no-standing : (func : Option Func) (plan : Option FuncPlan) → share func plan None ≡ 0
  no-standing None plan = refl
  no-standing (Some func) None = refl
  no-standing (Some func) (Some plan) = refl

  nothing : {A : Type 0} (k : ℕ) → slice_get {X = A} [] k ≡ None
  nothing zero = refl
  nothing (suc k) = refl

  computed-most : (func : Func) (plan : FuncPlan) (placement : FuncPlacement) → IsPlan func plan
      → share (Some func) (Some plan) (Some placement) ≤ computed_weight flagged pipeline.funcs schedule.funcs func plan
      placement
  computed-most func plan placement is = by-test (is_computed placement)
    where
      by-test : (t : Bool) → (if t then placed_share flagged pipeline.funcs schedule.funcs func plan placement else 0) ≤ (if t then func_weight flagged pipeline.funcs
          schedule.funcs func plan placement else 0)
      by-test true = func-most flagged pipeline.funcs schedule.funcs func plan placement is
      by-test false = omega arith

  lists-most : (funcs : List Func) (plans : List FuncPlan) (standings : List FuncPlacement) → Pairwise IsPlan funcs plans → (n : ℕ)
      → summed (listed funcs plans standings) 0 n ≤ funcs_weight flagged pipeline.funcs schedule.funcs funcs plans standings
  lists-most [] plans standings are n =
      let z = none-listed (listed [] plans standings) (λ k. ap (λ (f : Option Func). share f (slice_get plans k) (slice_get standings k)) (nothing k)) 0 n in
      omega (arith, z)
  lists-most (func ∷ funcs) [] standings are n = absurd are
  lists-most (func ∷ funcs) (plan ∷ plans) [] are n =
      let z = none-listed (listed (func ∷ funcs) (plan ∷ plans) [])
      (λ k. ap (λ (o : Option FuncPlacement). share (slice_get (func ∷ funcs) k) (slice_get (plan ∷ plans) k) o) (nothing k)
      ∙ no-standing (slice_get (func ∷ funcs) k) (slice_get (plan ∷ plans) k)) 0 n in
      omega (arith, z)
  lists-most (func ∷ funcs) (plan ∷ plans) (placement ∷ standings) are zero = omega arith
  lists-most (func ∷ funcs) (plan ∷ plans) (placement ∷ standings) are (suc n) =
      let l = computed-most func plan placement are.0 in
      let e = shifted flagged pipeline.funcs (listed (func ∷ funcs) (plan ∷ plans) (placement ∷ standings)) (listed funcs plans standings) (λ k. refl) 0 n in
      let r = lists-most funcs plans standings are.1 n in
      omega (arith, l, e, r)

  -- the phases of all Funcs, with what is around their tasks
  pub all-light : (count : ℕ) (phases : List Phase) → AreLowered pipeline schedule boxes count phases → words_of phases ≤ 64 * weight pipeline schedule
  unfolding weight
  all-light count phases are =
      let p = phases-light pipeline schedule boxes count phases are in
      let c = shares-computed pipeline schedule boxes count in
      let w = lists-most pipeline.funcs schedule.funcs schedule.standings accepted.plans (length schedule.standings) in
      omega (arith, p, c, w)
