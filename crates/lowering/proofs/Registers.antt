-- Expressions of phases need no more registers than the judgement of weights counts.
use Rattle.std.proofs.Common.{◌≡◌, ℕ, zero, suc, ◌+◌, ◌^◌, ◌<◌, ◌≤◌, Bool, true, false, List, [], ◌∷◌, length, Option, Some, None, refl, sym, ap, subst, ◌∙◌}
use Rattle.std.proofs.Common.{arith}
use Rattle.std.specs.Prelude.{◌==◌, ◌&&◌, nat_le, nat_lt, max, slice_get, if◌then◌else◌, not}
use Rattle.std.proofs.lemmas.Bool.{and_parts, leb-true, ltb-true, lt-ltb}
use Rattle.std.proofs.lemmas.Bool.Decides.{nat_tests}
use Rattle.halide_pipeline.specs.declared.definitions.Func.{Func}
use Rattle.halide_pipeline.specs.declared.definitions.Input.{Input}
use Rattle.halide_pipeline.specs.declared.definitions.Update.{Update}
use Rattle.halide_pipeline.specs.declared.expressions.Expr.{Expr}
use Rattle.halide_pipeline.specs.declared.expressions.Expr.TheOpen.{Expr-F}
use Rattle.halide_pipeline.specs.declared.expressions.Expr.TheOpen as layer
use Rattle.halide_pipeline.specs.declared.expressions.Source.{Source}
use Rattle.halide_pipeline.specs.declared.expressions.Source.TheVariants as sources
use Rattle.halide_pipeline.specs.declared.expressions.Variable.{Variable}
use Rattle.halide_pipeline.specs.WellFormed.{dimensions, IsWellFormed, keeps, keeps_index, is_read, is_func_of, is_divisor, is_argument, is_update_variable}
use Rattle.halide_pipeline.specs.WellFormed.{most_number}
use Rattle.halide_pipeline.specs.Pipelines.{Pipeline}
use Rattle.bounds_inlining.specs.Inlining.{Algebra, answer, answered, flagged, func_in, inside, inlined, made_in, through, through_at, needing}
use Rattle.bounds_inlining.specs.Laws.{RelatesLevels}
use Rattle.bounds_inlining.proofs.Kept.{folds_are_related}
use Rattle.bounds_inlining.proofs.KeptFolds.{KeptLevels, kept_folds_related}
use Rattle.bounds_inlining.proofs.Steps.{inside_is}
use Rattle.schedule.specs.declared.plans.FuncPlan.{FuncPlan}
use Rattle.schedule.specs.declared.schedules.Schedule.{Schedule}
use Rattle.schedule.specs.declared.placements.ComputeLevel.{ComputeLevel}
use Rattle.schedule.specs.declared.placements.ComputeLevel.TheVariants as places
use Rattle.schedule.specs.declared.placements.FuncPlacement.{FuncPlacement}
use Rattle.schedule.specs.Legal.{is_inlined}
use Rattle.schedule.specs.Uses.{IsReached}
use Rattle.schedule_lines.specs.declared.stages.Loop.{Loop}
use Rattle.schedule_lines.specs.declared.stages.Split.{Split}
use Rattle.schedule_lines.specs.declared.stages.Stage.{Stage}
use Rattle.schedule_loops.specs.declared.extents.Extents.{Extents}
use Rattle.schedule_loops.specs.Visits.{counts, AreSplits}
use Rattle.schedule_loops.specs.Visits as iterations
use Rattle.lowering_nests.specs.Nests.{AreFew}
use Rattle.lowering_nests.proofs.Few.{iterations_few}
use Rattle.bounds_weights.specs.Weight.{need_in, second_need, update_need, updates_needs, func_needs, computed_needs, funcs_needs, needs, no_needs, flags_of}
use Rattle.bounds_weights.specs.Weight.{is_computed}
use Rattle.bounds_laws.specs.Laws.{IsComputed}
use Rattle.loop_ir.specs.declared.expressions.Expr as loop
use Rattle.loop_ir.specs.declared.expressions.Expr.TheVariants as e
use Rattle.loop_ir.specs.declared.expressions.Linear.{Linear}
use Rattle.loop_ir.specs.declared.statements.Store.{Store}
use Rattle.loop_ir.specs.declared.statements.Stmt.TheVariants as s
use Rattle.loop_ir.specs.Needs.{divisor_need, greatest_need, need}
use Rattle.loop_ir.proofs.Needs.{greatest_store}
use Rattle.lowering_expressions.specs.Needing.{taking}
use Rattle.lowering_expressions.proofs.Taking.{linear_need}
use Rattle.lowering.specs.Registers.{taken, second_taken, update_taken, most_need}
use Rattle.lowering.specs.Updates.{IsUpdateAt}

-- ---- divisors of a pipeline aren't 0

divisor-two : (c : ℕ) → is_divisor c ≡ true → divisor_need c ≡ 2
divisor-two zero is = absurd (omega (arith, leb-true 1 0 (and_parts (nat_le 1 0) (nat_le 0 most_number) is).0))
divisor-two (suc c) is = let some : (suc c == 0) ≡ false = grind (arith, nat_tests) in ap (λ (t : Bool). if t then 2 ^ 32 else 2) some

abbrev AtMost : ℕ → ℕ → Type 0
AtMost m n = m ≤ n

levels : (is_inlined : ℕ → Bool) → RelatesLevels AtMost is_inlined taking needing
unfolding taking needing
levels is_inlined (layer.Number n) kept = omega arith
levels is_inlined (layer.Variable v) kept = omega arith
levels is_inlined (layer.Binary op a b) kept = let l = a.is in let k = b.is in omega (arith, l, k)
levels is_inlined (layer.Divide a c) kept = let l = a.is in let d = divisor-two c kept in omega (arith, l, d)
levels is_inlined (layer.Remainder a c) kept = let l = a.is in let d = divisor-two c kept in omega (arith, l, d)
levels is_inlined (layer.Select c a b) kept = let j = c.is in let l = a.is in let k = b.is in omega (arith, j, l, k)
levels is_inlined (layer.Call1 s a) kept = a.is
levels is_inlined (layer.Call2 s a b) kept = let l = a.is in let k = b.is in omega (arith, l, k)

-- ---- how many Funcs may be called makes no difference

module _ {A : Type 0} (algebra : Algebra A) (is_inlined : ℕ → Bool) (inputs : List Input) (funcs : List Func) (m n : ℕ) (fewer : m ≤ n) (has : Variable
    → Bool) (vars : Variable → A) where
  inside-same : (func_index : ℕ) → func_index < m → inside algebra is_inlined funcs m func_index ≡ inside algebra is_inlined funcs n func_index
  inside-same func_index below =
      let here : func_in funcs is_inlined m func_index ≡ func_in funcs is_inlined n func_index
      = ap (λ (t : Bool). if t && is_inlined func_index then slice_get funcs func_index else None)
      (lt-ltb func_index m below
      ∙ sym (lt-ltb func_index n (omega (arith, below, fewer)))) in
      inside_is algebra is_inlined funcs m func_index ∙ ap (made_in algebra
      (inside algebra is_inlined funcs func_index)) here
      ∙ sym (inside_is algebra is_inlined funcs n func_index)

  answer-same : (s : Source) (count : ℕ) → is_read inputs funcs m s count ≡ true → answer (inside algebra is_inlined funcs m) s
      ≡ answer (inside algebra is_inlined funcs n) s
  answer-same (sources.Input func_index) count read = refl
  answer-same (sources.Func func_index) count read = inside-same func_index (ltb-true func_index m (and_parts (nat_lt func_index m) (is_func_of (slice_get funcs func_index) count)
      read).0)

  abbrev Same : A → A → Type 0
  Same a b = a ≡ b

  same-levels : KeptLevels Same (is_read inputs funcs m) has (through_at algebra (inside algebra is_inlined funcs m) vars)
      (through_at algebra (inside algebra is_inlined funcs n) vars)
  same-levels (layer.Number n) kept = refl
  same-levels (layer.Variable v) kept = refl
  same-levels (layer.Binary op a b) kept = ap (λ (x : A). algebra.level (layer.Binary op x b.left)) a.is
      ∙ ap (λ (x : A). algebra.level (layer.Binary op a.right x)) b.is
  same-levels (layer.Divide a c) kept = ap (λ (x : A). algebra.level (layer.Divide x c)) a.is
  same-levels (layer.Remainder a c) kept = ap (λ (x : A). algebra.level (layer.Remainder x c)) a.is
  same-levels (layer.Select c a b) kept =
      ap (λ (x : A). algebra.level (layer.Select x a.left b.left)) c.is ∙ ap (λ (x : A). algebra.level (layer.Select c.right x b.left)) a.is
      ∙ ap (λ (x : A). algebra.level (layer.Select c.right a.right x)) b.is
  same-levels (layer.Call1 s a) kept =
      ap (λ (x : A). answered (algebra.level (layer.Call1 s x)) x None (answer (inside algebra is_inlined funcs m) s)) a.is
      ∙ ap (answered (algebra.level (layer.Call1 s a.right)) a.right None) (answer-same s 1 kept)
  same-levels (layer.Call2 s a b) kept =
      ap (λ (x : A). answered (algebra.level (layer.Call2 s x b.left)) x (Some b.left) (answer (inside algebra is_inlined funcs m) s)) a.is
      ∙ ap (λ (x : A). answered (algebra.level (layer.Call2 s a.right x)) a.right (Some x) (answer (inside algebra is_inlined funcs m) s)) b.is
      ∙ ap (answered (algebra.level (layer.Call2 s a.right b.right)) a.right (Some b.right)) (answer-same s 2 kept)

  pub count-same : (e : Expr) → keeps (is_read inputs funcs m) has e ≡ true → inlined algebra is_inlined funcs m vars e ≡ inlined algebra is_inlined funcs n
      vars e
  unfolding through
  count-same e kept = kept_folds_related Same (is_read inputs funcs m) has _ _ same-levels e kept

-- ---- definitions

pub at-most : (funcs : List Func) (func_index : ℕ) (func : Func) → slice_get funcs func_index ≡ Some func
    → func_index < length funcs
at-most [] func_index func is = absurd cc
at-most (first ∷ funcs) zero func is = omega arith
at-most (first ∷ funcs) (suc func_index) func is = let l = at-most funcs func_index func is in omega (arith, l)

module _ (pipeline : Pipeline) (rules : IsWellFormed pipeline) (flags : List Bool) where
  few : (count : ℕ) (has : Variable → Bool) (e : Expr) → count ≤ length pipeline.funcs → keeps (is_read pipeline.inputs pipeline.funcs count) has e ≡ true
      → taken flags pipeline.funcs count e ≤ need_in flags pipeline.funcs e
  unfolding taking needing
  few count has e within kept =
      subst (λ (n : ℕ). taken flags pipeline.funcs count e ≤ n) (count-same needing (flagged flags) pipeline.inputs pipeline.funcs count (length pipeline.funcs)
      within has (λ v. 1) e kept)
      (folds_are_related AtMost taking needing (flagged flags) pipeline.inputs pipeline.funcs rules.funcs (levels (flagged flags)) (λ x z r. r)
      (λ func v x y w z u rv rx ry. rv)
      count has (λ v. 1) (λ v. 1) (λ v h. omega arith) e kept)

  pub pure-taken : (func_index : ℕ) (func : Func) → slice_get pipeline.funcs func_index ≡ Some func
      → taken flags pipeline.funcs func_index func.pure ≤ need_in flags pipeline.funcs func.pure
  pure-taken func_index func is = let l = at-most pipeline.funcs func_index func is in few func_index (is_argument (dimensions func)) func.pure (omega (arith, l))
      (rules.funcs func_index func is).pure

  second-few : (func_index : ℕ) (has : Variable → Bool) (count : ℕ) (index : Option Expr)
      → func_index ≤ length pipeline.funcs
      → keeps_index (is_read pipeline.inputs pipeline.funcs func_index) has count index ≡ true
      → second_taken flags pipeline.funcs func_index index ≤ max 1 (second_need flags pipeline.funcs index)
  second-few func_index has count None within kept = omega arith
  second-few func_index has count (Some e) within kept = let l = few func_index has e within (and_parts _ _ kept).1 in omega (arith, l)

  pub update-taken : (func_index at : ℕ) (func : Func) (update : Update) → slice_get pipeline.funcs func_index ≡ Some func → slice_get func.updates at ≡ Some update
      → update_taken flags pipeline.funcs func_index update ≤ max 1 (update_need flags pipeline.funcs update)
  update-taken func_index at func update is there =
      let own = (rules.funcs func_index func is).updates at update there in
      let has = is_update_variable (dimensions func) update.second in
      let l = at-most pipeline.funcs func_index func is in
      let x = few func_index has update.left_x (omega (arith, l)) own.left_x in
      let y = second-few func_index has (dimensions func) update.left_y (omega (arith, l)) own.left_y in
      let right : taken flags pipeline.funcs (suc func_index) update.right ≤ need_in flags pipeline.funcs update.right = few (suc func_index) has update.right
      (omega (arith, l)) own.right in
      let more : func_index + 1 ≡ suc func_index = omega arith in
      let r = subst (λ (n : ℕ). taken flags pipeline.funcs n update.right ≤ need_in flags pipeline.funcs update.right) (sym more) right in
      omega (arith, x, y, r)

-- ---- stores

pub store-need : (store : Store) (x y value : ℕ) → need store.x ≤ x → need store.y ≤ y → need store.value ≤ value
    → greatest_need (s.Store store) ≤ max x (max y value)
store-need store x y value few_x few_y few_value = let e = greatest_store store in omega (arith, e, few_x, few_y, few_value)

-- at a point of sums
pub pure-store : (func_index : ℕ) (x y : Linear) (value : loop.Expr) (most : ℕ) → need value ≤ most
    → greatest_need (s.Store (record { func = func_index; x = e.Linear x; y = e.Linear y; value = value })) ≤ max 1 most
pure-store func_index x y value most few_value =
    let own : Store = record { func = func_index; x = e.Linear x; y = e.Linear y; value = value } in
    let i = linear_need x in let j = linear_need y in
    let l = store-need own 1 1 most (omega (arith, i)) (omega (arith, j)) few_value in
    omega (arith, l)

-- ---- tasks

few-iterations : (extents : Extents) (splits : List Split) (stage_loop : Option Loop) → AreFew extents
    → AreSplits splits
    → iterations.count_of (counts extents splits) stage_loop ≤ 2 ^ 31
few-iterations extents splits None few fit = omega arith
few-iterations extents splits (Some stage_loop) few fit = let l = iterations_few extents splits few fit stage_loop.id in omega (arith, l)

pub few_iterations : (extents : Extents) (stage : Stage) → AreFew extents → AreSplits stage.splits → iterations.iteration_count extents stage ≤ 2 ^ 31
few_iterations extents stage few fit = few-iterations extents stage.splits (iterations.parallel stage) few fit

-- ---- what is counted of all stages

module _ (flags : List Bool) (all : List Func) where
  counted : (funcs : List Func) (plans : List FuncPlan) (standings : List FuncPlacement) (func_index : ℕ) (func : Func) (plan : FuncPlan) (placement : FuncPlacement)
      → slice_get funcs func_index ≡ Some func → slice_get plans func_index ≡ Some plan → slice_get standings func_index ≡ Some placement → is_computed placement ≡ true
      → (func_needs flags all func plan).greatest ≤ (funcs_needs flags all funcs plans standings).greatest
  counted [] plans standings func_index func plan placement f p s is = absurd cc
  counted (first ∷ funcs) [] standings func_index func plan placement f p s is = absurd cc
  counted (first ∷ funcs) (one ∷ plans) [] func_index func plan placement f p s is = absurd cc
  counted (first ∷ funcs) (one ∷ plans) (other ∷ standings) zero func plan placement f p s is =
      let ef : first ≡ func = cc in
      let ep : one ≡ plan = cc in
      let es : other ≡ placement = cc in
      let whole : computed_needs flags all first one other ≡ func_needs flags all func plan
      = ap (λ (t : Bool). if t then func_needs flags all first one else no_needs) (ap is_computed es ∙ is) ∙ ap (λ (x : Func). func_needs flags all x one) ef
      ∙ ap (func_needs flags all func) ep in
      let g : (computed_needs flags all first one other).greatest ≡ (func_needs flags all func plan).greatest = ap (λ n. n.greatest) whole in
      omega (arith, g)
  counted (first ∷ funcs) (one ∷ plans) (other ∷ standings) (suc func_index) func plan placement f p s is =
      let l = counted funcs plans standings func_index func plan placement f p s is in omega (arith, l)

  update-counted : (updates : List Update) (stages : List Stage) (at : ℕ) (update : Update) (stage : Stage) → slice_get updates at ≡ Some update
      → slice_get stages at ≡ Some stage
      → update_need flags all update ≤ (updates_needs flags all updates stages).greatest
  update-counted [] stages at update stage u s = absurd cc
  update-counted (first ∷ updates) [] at update stage u s = absurd cc
  update-counted (first ∷ updates) (one ∷ stages) zero update stage u s =
      let e : first ≡ update = cc in
      let n : update_need flags all first ≡ update_need flags all update = ap (update_need flags all) e in
      omega (arith, n)
  update-counted (first ∷ updates) (one ∷ stages) (suc at) update stage u s = let l = update-counted updates stages at update stage u s in omega (arith, l)

not-inlined : (func_index : ℕ) (level : ComputeLevel) → IsComputed func_index level → is_inlined level ≡ false
not-inlined func_index places.Root here = refl
not-inlined func_index (places.At at) here = refl
not-inlined func_index places.Inlined here = absurd here
not-inlined func_index places.Nowhere here = absurd here

module _ (pipeline : Pipeline) (schedule : Schedule) (rules : IsWellFormed pipeline) (func_index : ℕ) (func : Func) (plan : FuncPlan) (placement : FuncPlacement)
    (func_is : slice_get pipeline.funcs func_index ≡ Some func)
    (plan_is : slice_get schedule.funcs func_index ≡ Some plan) (there : IsReached schedule.standings func_index placement) (here : IsComputed func_index placement.place) where
  is-computed : is_computed placement ≡ true
  is-computed = ap (λ (t : Bool). t && not (is_inlined placement.place)) there.reached ∙ ap (λ (t : Bool). true && not t) (not-inlined func_index placement.place here)

  all-counted : (func_needs (flags_of schedule.standings) pipeline.funcs func plan).greatest ≤ (needs pipeline schedule).greatest
  unfolding needs
  all-counted = counted (flags_of schedule.standings) pipeline.funcs pipeline.funcs schedule.funcs schedule.standings func_index func plan placement func_is plan_is
      there.standing is-computed

  -- the store of the pure definition, and that of an update
  pub pure-most : (n : ℕ) → n ≤ max 1 (taken (flags_of schedule.standings) pipeline.funcs func_index func.pure) → n ≤ most_need pipeline schedule
  pure-most n few =
      let t = pure-taken pipeline rules (flags_of schedule.standings) func_index func func_is in
      let l = all-counted in
      omega (arith, few, t, l)

  pub update-most : (at : ℕ) (update : Update) (stage : Stage) → IsUpdateAt schedule func_index func plan at update stage → (n : ℕ)
      → n ≤ update_taken (flags_of schedule.standings) pipeline.funcs func_index update
      → n ≤ most_need pipeline schedule
  update-most at update stage is n few =
      let t = update-taken pipeline rules (flags_of schedule.standings) func_index at func update func_is is.update_is
      in
      let u = update-counted (flags_of schedule.standings) pipeline.funcs func.updates plan.updates at update stage is.update_is is.stage_is in
      let l = all-counted in
      omega (arith, few, t, u, l)
