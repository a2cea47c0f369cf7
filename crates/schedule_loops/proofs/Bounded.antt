-- While loops outside have given iterations, a variable lies between their base and what the loops inside can add.
use Rattle.std.proofs.Common.{◌≡◌, ℕ, zero, suc, ◌+◌, ◌-◌, ◌*◌, ◌<◌, ◌≤◌, Bool, true, false, not, cond, List, [], ◌∷◌, ◌++◌, Option, refl, sym, ap, subst, ◌∙◌}
use Rattle.std.proofs.Common.{arith, ◌⊎◌, inl, inr}
use Rattle.std.specs.Prelude.{◌&&◌, ◌||◌, nat_lt, is_some}
use Rattle.std.specs.List.{AllByRecursion}
use Rattle.std.proofs.lemmas.Bool.{lt-ltb, ltb-true}
use Rattle.std.proofs.Math.Nat.{mul-le-mul_left}
use Rattle.halide_pipeline.specs.declared.definitions.Func.{Func}
use Rattle.halide_pipeline.specs.declared.definitions.Update.{Update}
use Rattle.halide_pipeline.specs.declared.expressions.Variable.{Variable}
use Rattle.halide_pipeline.specs.Expressions.{same_variable}
use Rattle.schedule_lines.specs.declared.stages.Loop.{Loop}
use Rattle.schedule_lines.specs.declared.stages.LoopId.{LoopId}
use Rattle.schedule_lines.specs.declared.stages.LoopId.TheVariants as ids
use Rattle.schedule_lines.specs.declared.stages.Split.{Split}
use Rattle.schedule_lines.specs.declared.stages.Stage.{Stage}
use Rattle.schedule_lines.specs.Making.{total, IsMade}
use Rattle.schedule_loops.specs.declared.extents.Extents.{Extents}
use Rattle.schedule_loops.specs.Visits.{Values, with, extent_of, whole_counts, counts, strides, is_uneven, upto, nest, split_bodies}
use Rattle.schedule_loops.specs.Reach.{base, reach, has_uneven, wholes, IsReached}
use Rattle.schedule_loops.specs.Runs.{AreIterations}
use Rattle.schedule_loops.specs.Stages.{has_variable, first_loops, IsStageOf}
use Rattle.schedule_loops.proofs.Ids.{cases_id, with_other, swapped_id}
use Rattle.schedule_loops.proofs.Nesting.{has_id, has_same, has_other, InRange, in_range_more}
use Rattle.schedule_loops.proofs.Selecting.{Unique}
use Rattle.schedule_loops.proofs.Making.{total-append}
use Rattle.schedule_loops.proofs.Order.{Quiet}
use Rattle.schedule_loops.proofs.FirstLoops.{plain, there}
use Rattle.schedule_loops.proofs.Slices.{quiet_from, all_pass}
use Rattle.schedule_loops.proofs.Linear.{exact, slack, Linear, linear_in, Listed, Nothing, One, IsSum}

-- ---- what holds of all that a nest lists

all_append : {A : Type 0} (P : A → Type 0) (xs ys : List A) → AllByRecursion P xs → AllByRecursion P ys → AllByRecursion P (xs ++ ys)
all_append P [] ys all more = more
all_append P (x ∷ xs) ys all more = (all.0, all_append P xs ys all.1 more)

pub all_upto : {A : Type 0} (P : A → Type 0) (n : ℕ) (f : ℕ → List A) → ((v : ℕ) → v < n → AllByRecursion P (f v)) → AllByRecursion P (upto n f)
unfolding upto
all_upto P zero f all = tt
all_upto P (suc n) f all = all_append P (upto n f) (f n) (all_upto P n f (λ v l. all v (omega arith))) (all n (omega arith))

-- values that differ from others for loops of the nest alone
abbrev pub Agrees : List Loop → Values → Values → Type 0
Agrees loops values iterations = (id : LoopId) → total (has_id id) loops ≡ 0 → values id ≡ iterations id

pub nest_all : {A : Type 0} (P : A → Type 0) (counts : Values) (loops : List Loop) (body : Values → List A) (iterations : Values)
    → ((values : Values) → InRange counts loops values → Agrees loops values iterations → AllByRecursion P (body values))
    → AllByRecursion P (nest counts loops body iterations)
nest_all P counts [] body iterations all = all iterations (λ id in_it. absurd (omega arith)) (λ id none. refl)
nest_all P counts (own ∷ outside) body iterations all =
    nest_all P counts outside (λ outer. upto (counts own.id) (λ iteration. body (with own.id iteration outer))) iterations
    (λ outer in_range agrees. all_upto P (counts own.id) (λ iteration. body (with own.id iteration outer)) (λ iteration l.
    all (with own.id iteration outer) (in_range_more counts own outside outer iteration in_range l)
    (λ id none. elim (cases_id own.id id) [
      | inl e ↦ let one : has_id id own ≡ 1 = ap (λ (i : LoopId). has_id i own) (sym e) ∙ has_same own in absurd (omega arith)
      | inr d ↦ with_other own.id iteration outer id (swapped_id own.id id d) ∙ agrees id (omega arith)
    ])))

-- ---- iterations of loops inside and outside

pub in_iterations : (counts : Values) (loops : List Loop) (iterations : Values) → AreIterations counts loops iterations → InRange counts loops iterations
in_iterations counts [] iterations are id l = absurd (omega arith)
in_iterations counts (own ∷ others) iterations are id l = elim (cases_id own.id id) [
  | inl e ↦ subst (λ (i : LoopId). iterations i < counts i) e are.0
  | inr d ↦ in_iterations counts others iterations are.1 id (omega (arith, has_other id own d))
]

-- 0, or some
zero_or : (n : ℕ) → (n ≡ 0) ⊎ (1 ≤ n)
zero_or zero = inl refl
zero_or (suc n) = inr (omega arith)

module _ (counts : Values) (inside outside : List Loop) (unique : Unique (inside ++ outside)) (iterations values : Values) where
  parts : (id : LoopId) → total (has_id id) inside + total (has_id id) outside ≤ 1
  parts id = omega (arith, unique id, total-append (has_id id) inside outside)

  both_in_range : InRange counts inside values → Agrees inside values iterations → InRange counts outside iterations → InRange counts (inside ++ outside) values
  both_in_range in_range agrees are id l = elim (zero_or (total (has_id id) inside)) [
    | inl none ↦ omega (arith, agrees id none, are id (omega (arith, total-append (has_id id) inside outside)))
    | inr some ↦ in_range id some
  ]

  outer_iterations : Agrees inside values iterations → (id : LoopId) → 1 ≤ total (has_id id) outside → values id ≡ iterations id
  outer_iterations agrees id l = agrees id (omega (arith, parts id))

-- ---- sums over the loops inside and outside

module _ (extents : Extents) (splits : List Split) (v : Variable) where
  abbrev cs : Values
  cs = counts extents splits

  abbrev st : Values
  st = strides splits

  abbrev un : LoopId → Bool
  un id = is_uneven splits id

  outer_one : (same odd : Bool) (s n m : ℕ) → (same && odd) ≡ false → n ≡ m → cond {A = ℕ} (same && not odd) (s * n) 0 ≡ cond same (s * m) 0
  outer_one true true s n m e f = cc
  outer_one true false s n m e f = ap (λ (k : ℕ). s * k) f
  outer_one false odd s n m e f = refl

  outer_none : (same odd : Bool) (s n : ℕ) → (same && odd) ≡ false → cond {A = ℕ} (same && odd) (s * n) 0 ≡ 0
  outer_none same odd s n e = ap (λ (b : Bool). cond {A = ℕ} b (s * n) 0) e

  or_left : (a b : Bool) → (a || b) ≡ false → a ≡ false
  or_left true b e = cc
  or_left false b e = refl

  or_right : (a b : Bool) → (a || b) ≡ false → b ≡ false
  or_right true b e = cc
  or_right false b e = e

  outer_exact : (values iterations : Values) (outside : List Loop) → has_uneven splits v outside ≡ false → ((id : LoopId) → 1 ≤ total (has_id id) outside
      → values id ≡ iterations id)
      → total (exact v st un values) outside ≡ base splits v iterations outside
  outer_exact values iterations [] none same = refl
  outer_exact values iterations (own ∷ others) none same =
      let n : (same_variable own.variable v && un own.id) ≡ false = or_left (same_variable own.variable v && un own.id) (has_uneven splits v others) none in
      let later = outer_exact values iterations others (or_right (same_variable own.variable v && un own.id) (has_uneven splits v others) none)
      (λ id l. same id (omega arith)) in
      omega (
        arith,
        outer_one (same_variable own.variable v) (un own.id) (st own.id) (values own.id) (iterations own.id) n
            (same own.id (omega (arith, has_same own))),
        later,
      )

  outer_slack : (outside : List Loop) → has_uneven splits v outside ≡ false → total (slack v st un cs) outside ≡ 0
  outer_slack [] none = refl
  outer_slack (own ∷ others) none =
      let n : (same_variable own.variable v && un own.id) ≡ false = or_left (same_variable own.variable v && un own.id) (has_uneven splits v others) none in
      omega (
        arith,
        outer_none (same_variable own.variable v) (un own.id) (st own.id) (cs own.id - 1) n,
        outer_slack others
            (or_right (same_variable own.variable v && un own.id) (has_uneven splits v others) none),
      )

  inner_one : (same odd : Bool) (s n c : ℕ) → n < c → cond {A = ℕ} (same && not odd) (s * n) 0 + cond {A = ℕ} (same && odd) (s * (c - 1)) 0 ≤ cond {A = ℕ} same
      (s * (c - 1)) 0
  inner_one true true s n c l = omega arith
  inner_one true false s n c l = let k : n ≤ c - 1 = omega arith in omega (arith, mul-le-mul_left s k)
  inner_one false odd s n c l = omega arith

  inner_sum : (values : Values) (inside : List Loop) → InRange cs inside values → total (exact v st un values) inside + total (slack v st un cs) inside ≤ reach
      extents splits v inside
  inner_sum values [] in_range = omega arith
  inner_sum values (own ∷ others) in_range =
      omega (
        arith,
        inner_one (same_variable own.variable v) (un own.id) (st own.id) (values own.id) (cs own.id)
            (in_range own.id (omega (arith, has_same own))),
        inner_sum values others (λ id l. in_range id (omega arith)),
      )

  reached_sum : (inside outside : List Loop) (iterations values whole : Values) → has_uneven splits v outside ≡ false → InRange cs inside values
      → ((id : LoopId) → 1 ≤ total (has_id id) outside → values id ≡ iterations id)
      → IsSum (whole_counts extents) v (total (exact v st un values) (inside ++ outside)) (total (slack v st un cs) (inside ++ outside)) whole
      → IsReached extents splits v inside outside iterations whole
  reached_sum inside outside iterations values whole none in_range same s =
      let e = total-append (exact v st un values) inside outside in
      let k = total-append (slack v st un cs) inside outside in
      let a = outer_exact values iterations outside none same in
      let b = outer_slack outside none in
      let c = inner_sum values inside in_range in
      record { low = omega (arith, s.sum, e, a); high = omega (arith, s.sum, s.few, e, k, a, b, c) }

  all_listed : (P : Values → Type 0) (exactly most : ℕ) (xs : List Values) → ((whole : Values) → IsSum (whole_counts extents) v exactly most whole → P whole)
      → Listed (whole_counts extents) v exactly most xs → AllByRecursion P xs
  all_listed P exactly most xs holds (Nothing e) = subst (AllByRecursion P) (sym e) tt
  all_listed P exactly most xs holds (One whole e s) = subst (AllByRecursion P) (sym e) (holds whole s, tt)

-- ---- the loops of a stage

module _ (func : Func) (update : Option Update) (extents : Extents) (stage : Stage) (inside outside : List Loop) (v : Variable) (iterations : Values)
    (is : IsStageOf func update stage) (loops_are : stage.loops ≡ inside ++ outside) (some : has_variable v (first_loops func update) ≡ true)
    (are : AreIterations (counts extents stage.splits) outside iterations) where
  abbrev start : List Loop
  start = first_loops func update

  made : IsMade (is_some update) start (inside ++ outside) stage.splits
  made = subst (λ (ls : List Loop). IsMade (is_some update) start ls stage.splits) loops_are is.made

  linear : Linear (whole_counts extents) v (inside ++ outside) stage.splits
  linear = linear_in (whole_counts extents) v (plain func update) some made

  all_in_range : (values : Values) → InRange (counts extents stage.splits) inside values → Agrees inside values iterations
      → InRange (counts extents stage.splits) (inside ++ outside) values
  all_in_range values in_range agrees = both_in_range (counts extents stage.splits) inside outside linear.sound.unique iterations values in_range agrees
      (in_iterations (counts extents stage.splits) outside iterations are)

  pub reached : has_uneven stage.splits v outside ≡ false → AllByRecursion (IsReached extents stage.splits v inside outside iterations) (wholes extents stage.splits
      inside iterations)
  reached none =
      nest_all (IsReached extents stage.splits v inside outside iterations) (counts extents stage.splits) inside (split_bodies (whole_counts extents) 0 stage.splits
      (λ whole. whole ∷ [])) iterations (λ values in_range agrees.
      all_listed extents stage.splits v (IsReached extents stage.splits v inside outside iterations)
      (total (exact v (strides stage.splits) (is_uneven stage.splits) values) (inside ++ outside))
      (total (slack v (strides stage.splits) (is_uneven stage.splits) (counts extents stage.splits)) (inside ++ outside))
      (split_bodies (whole_counts extents) 0 stage.splits (λ whole. whole ∷ []) values)
      (λ whole s. reached_sum extents stage.splits v inside outside iterations values whole none in_range (outer_iterations (counts extents stage.splits) inside outside
      linear.sound.unique iterations values agrees) s)
      (linear.sum values (all_in_range values in_range agrees)))

  abbrev is_below : Values → Bool
  is_below whole = nat_lt (whole (ids.Whole v)) (extent_of extents v)

  quiet : Quiet Values (whole_counts extents) (λ values. values) (λ whole. not (is_below whole)) (inside ++ outside) stage.splits
  quiet = quiet_from (whole_counts extents) (λ values. values) is_below start (plain func update)
      (λ values in_range. lt-ltb (values (ids.Whole v)) (extent_of extents v) (in_range (ids.Whole v) (there v start (plain func update) some))) made

  pub within : AllByRecursion (λ whole. whole (ids.Whole v) < extent_of extents v) (wholes extents stage.splits inside iterations)
  within =
      nest_all (λ whole. whole (ids.Whole v) < extent_of extents v) (counts extents stage.splits) inside (split_bodies (whole_counts extents) 0 stage.splits
      (λ whole. whole ∷ [])) iterations (λ values in_range agrees.
      all_pass (λ whole. whole (ids.Whole v) < extent_of extents v) is_below (λ whole e. ltb-true (whole (ids.Whole v)) (extent_of extents v) e)
      (split_bodies (whole_counts extents) 0 stage.splits (λ whole. whole ∷ []) values)
      (quiet.none values (all_in_range values in_range agrees)))
