-- Reached Funcs are read through reached ones alone: so of inlined Funcs those count that the output reaches.
use Rattle.std.proofs.Common.{◌≡◌, ℕ, zero, suc, ◌<◌, Bool, true, false, List, [], ◌∷◌, length, Option, None, Some, refl, sym, ap, ◌∙◌, arith}
use Rattle.std.specs.Prelude.{◌&&◌, ◌||◌, nat_lt, slice_get}
use Rattle.std.proofs.lemmas.Bool.{and_parts, and_from, ltb-true, eq-eqb}
use Rattle.halide_pipeline.specs.declared.definitions.Func.{Func}
use Rattle.halide_pipeline.specs.declared.expressions.Expr.{Expr}
use Rattle.halide_pipeline.specs.declared.expressions.Expr.TheOpen.{Expr-F}
use Rattle.halide_pipeline.specs.declared.expressions.Expr.TheOpen as layer
use Rattle.halide_pipeline.specs.declared.expressions.Source.{Source}
use Rattle.halide_pipeline.specs.declared.expressions.Source.TheVariants as sources
use Rattle.halide_pipeline.specs.declared.expressions.Variable.{Variable}
use Rattle.halide_pipeline.specs.WellFormed.{dimensions, keeps, keeps_at, is_read, is_func_of, is_argument, is_divisor, IsWellFormed}
use Rattle.halide_pipeline.specs.Pipelines.{Pipeline}
use Rattle.halide_pipeline.specs.declared.environments.Environment.{Environment}
use Rattle.halide_pipeline.specs.Pixel.{Reads}
use Rattle.halide_pipeline.specs.Points.{Seen}
use Rattle.schedule.specs.declared.schedules.Schedule.{Schedule}
use Rattle.schedule.specs.declared.placements.FuncPlacement.{FuncPlacement}
use Rattle.schedule.specs.Accepted.{IsAccepted, Pairwise, IsPlan, IsLegal}
use Rattle.schedule.specs.Placements.{is_func, calls, updates_call, func_calls, place_calls, place_calls_of}
use Rattle.schedule.specs.Legal.{is_inlined}
use Rattle.schedule.specs.Uses.{IsReached}
use Rattle.schedule.proofs.Uses.{IsSome}
use Rattle.schedule_loops.proofs.AcceptedStages.{pair_at}
use Rattle.bounds_inlining.specs.Inlining.{none, second_of, arguments, answer, answered, through, through_at, inside, made_in, inlined, flagged}
use Rattle.bounds_inlining.specs.Laws.{AreSimple, seen_variable}
use Rattle.bounds_inlining.specs.Values.{seeing}
use Rattle.bounds_inlining.proofs.Kept.{inside_computed}
use Rattle.bounds_inlining.proofs.KeptFolds.{KeptLevels, kept_folds_related}
use Rattle.bounds_inlining.proofs.Steps.{inside_before}
use Rattle.bounds_weights.specs.Weight.{flags_of}
use Rattle.bounds_laws.specs.Closure.{is_put_in}
use Rattle.bounds_laws.proofs.Callers.{callers_at, callers_are, or_left, or_right}
use Rattle.bounds_laws.proofs.StandingWithin.{flag_is, called_reached}

-- ---- lists in pairs

pub pair_there : {A B : Type 0} (P : A → B → Type 0) (xs : List A) (ys : List B) (k : ℕ) (x : A) → Pairwise P xs ys → slice_get xs k ≡ Some x
    → IsSome (slice_get ys k)
pair_there P [] ys k x all found = absurd cc
pair_there P (a ∷ xs) [] k x all found = absurd all
pair_there P (a ∷ xs) (b ∷ ys) zero x all found = record { value = b; is = refl }
pair_there P (a ∷ xs) (b ∷ ys) (suc k) x all found = pair_there P xs ys k x all.1 found

pub pair_length : {A B : Type 0} (P : A → B → Type 0) (xs : List A) (ys : List B) → Pairwise P xs ys → length xs ≡ length ys
pair_length P [] [] all = refl
pair_length P [] (b ∷ ys) all = absurd all
pair_length P (a ∷ xs) [] all = absurd all
pair_length P (a ∷ xs) (b ∷ ys) all = ap suc (pair_length P xs ys all.1)

-- ---- which Funcs are reached

abbrev pub is_reached : Option FuncPlacement → Bool
is_reached None = false
is_reached (Some own) = own.is_reached

module _ (pipeline : Pipeline) (schedule : Schedule) where
  abbrev pub reached : ℕ → Bool
  reached func_index = is_reached (slice_get schedule.standings func_index)

  abbrev pub put : ℕ → Bool
  put func_index = is_put_in (slice_get schedule.standings func_index)

  abbrev pub flags : ℕ → Bool
  flags = flagged (flags_of schedule.standings)

  agree_by : (func_index : ℕ) (placement : Option FuncPlacement) → slice_get schedule.standings func_index ≡ placement → is_reached placement ≡ true → flags func_index ≡ is_put_in placement
  agree_by func_index None is r = absurd cc
  agree_by func_index (Some placement) is r = flag_is schedule.standings func_index placement is ∙ sym (ap (λ (b : Bool). b && is_inlined placement.place) r)

  pub agree : (func_index : ℕ) → reached func_index ≡ true → flags func_index ≡ put func_index
  agree func_index r = agree_by func_index (slice_get schedule.standings func_index) refl r

  pub there_by : (func_index : ℕ) (placement : Option FuncPlacement) → slice_get schedule.standings func_index ≡ placement → is_reached placement ≡ true → IsSome placement × ((its : FuncPlacement)
      → placement ≡ Some its → IsReached schedule.standings func_index its)
  there_by func_index None is r = absurd cc
  there_by func_index (Some placement) is r = (
    record { value = placement; is = refl },
    λ its e. record { standing = is ∙ e; reached = let same : placement ≡ its = cc in ap (λ (s : FuncPlacement). s.is_reached) (sym same) ∙ r },
  )

  -- ---- an expression whose Funcs are reached

  abbrev there : Source → Bool
  there (sources.Input func_index) = true
  there (sources.Func func_index) = reached func_index

  abbrev reads_there : ℕ → Source → ℕ → Bool
  reads_there count s n = is_read pipeline.inputs pipeline.funcs count s n && there s

  abbrev Reaches : ℕ → (ℕ → Bool) → Type 0
  Reaches count f = (func : ℕ) → func < count → f func ≡ true → reached func ≡ true

  module _ (count : ℕ) (has : Variable → Bool) where
    abbrev Kept : (ℕ → Bool) → Bool → Type 0
    Kept f b = Reaches count f → b ≡ true

    source_there : (s : Source) (n : ℕ) → is_read pipeline.inputs pipeline.funcs count s n ≡ true → Reaches count (λ func. is_func func s)
        → reads_there count s n ≡ true
    source_there (sources.Input func_index) n read r = and_from (is_read pipeline.inputs pipeline.funcs count (sources.Input func_index) n) true read refl
    source_there (sources.Func func_index) n read r =
        and_from (is_read pipeline.inputs pipeline.funcs count (sources.Func func_index) n) (reached func_index) read
        (r func_index (ltb-true func_index count (and_parts (nat_lt func_index count) (is_func_of (slice_get pipeline.funcs func_index) n) read).0) (eq-eqb func_index func_index refl))

    kept_levels : KeptLevels Kept (is_read pipeline.inputs pipeline.funcs count) has callers_at (keeps_at (reads_there count) has)
    kept_levels (layer.Number n) kept = λ r. kept
    kept_levels (layer.Variable v) kept = λ r. kept
    kept_levels (layer.Binary op a b) kept = λ r.
        and_from a.right b.right (a.is (λ f l e. r f l (or_left (a.left f) (b.left f) e))) (b.is (λ f l e. r f l (or_right (a.left f) (b.left f) e)))
    kept_levels (layer.Divide a n) kept = λ r. and_from a.right (is_divisor n) (a.is r) kept
    kept_levels (layer.Remainder a n) kept = λ r. and_from a.right (is_divisor n) (a.is r) kept
    kept_levels (layer.Select c a b) kept = λ r.
        and_from c.right (a.right && b.right) (c.is (λ f l e. r f l (or_left (c.left f || a.left f) (b.left f) (or_left (c.left f) (a.left f) e))))
        (and_from a.right b.right (a.is (λ f l e. r f l (or_left (c.left f || a.left f) (b.left f) (or_right (c.left f) (a.left f) e))))
        (b.is (λ f l e. r f l (or_right (c.left f || a.left f) (b.left f) e))))
    kept_levels (layer.Call1 s a) kept = λ r.
        and_from a.right (reads_there count s 1) (a.is (λ f l e. r f l (or_right (is_func f s) (a.left f) e)))
        (source_there s 1 kept (λ f l e. r f l (or_left (is_func f s) (a.left f) e)))
    kept_levels (layer.Call2 s a b) kept = λ r.
        and_from (a.right && b.right) (reads_there count s 2)
        (and_from a.right b.right (a.is (λ f l e. r f l (or_left (is_func f s || a.left f) (b.left f) (or_right (is_func f s) (a.left f) e))))
        (b.is (λ f l e. r f l (or_right (is_func f s || a.left f) (b.left f) e))))
        (source_there s 2 kept (λ f l e. r f l (or_left (is_func f s || a.left f) (b.left f) (or_left (is_func f s) (a.left f) e))))

    keeps_there : (e : Expr) → keeps (is_read pipeline.inputs pipeline.funcs count) has e ≡ true → Reaches count (λ func. calls func e)
        → keeps (reads_there count) has e ≡ true
    unfolding keeps
    keeps_there e kept r =
        kept_folds_related Kept (is_read pipeline.inputs pipeline.funcs count) has callers_at (keeps_at (reads_there count) has) kept_levels e kept
        (λ f l is. r f l (sym (callers_are (is_read pipeline.inputs pipeline.funcs count) has f e kept) ∙ is))

  -- ---- what is seen through inlined Funcs is seen through those that are reached

  module _ (rules : IsWellFormed pipeline) (accepted : IsAccepted pipeline schedule) (reads : Reads) where
    abbrev Claim : ℕ → Type 0
    Claim count =
        (vars : Variable → Seen) (has : Variable → Bool) (e : Expr) → keeps (is_read pipeline.inputs pipeline.funcs count) has e ≡ true
        → Reaches count (λ func. calls func e)
        → through (seeing reads) (inside (seeing reads) flags pipeline.funcs count) vars e ≡ through (seeing reads) (inside (seeing reads) put pipeline.funcs
        count) vars e

    -- what a reached Func calls is reached
    pub reaching : (func_index : ℕ) → reached func_index ≡ true → (e : Expr) → ((func : ℕ) → calls func e ≡ true → place_calls pipeline func_index func ≡ true)
        → Reaches func_index (λ func. calls func e)
    reaching func_index r e called func below is =
        let t = there_by func_index (slice_get schedule.standings func_index) refl r in
        let c = called_reached pipeline schedule accepted func_index t.0.value (t.1 t.0.value t.0.is) func below (called func is) in
        ap is_reached c.there.standing ∙ c.there.reached

    made_same : (func_index : ℕ) → reached func_index ≡ true → Claim func_index → (found_func : Option Func) → slice_get pipeline.funcs func_index ≡ found_func
        → (a x : Seen) (y : Option Seen)
        → answered a x y (made_in (seeing reads) (inside (seeing reads) flags pipeline.funcs func_index) found_func)
        ≡ answered a x y (made_in (seeing reads) (inside (seeing reads) put pipeline.funcs func_index) found_func)
    unfolding seeing place_calls func_calls
    made_same func_index r claim None is a x y = refl
    made_same func_index r claim (Some func) is a x y =
        ap (λ (v : Seen). (seeing reads).call func v x y)
        (claim (arguments (none (seeing reads)) ((seeing reads).argument x) ((seeing reads).argument (second_of (none (seeing reads)) y)))
        (is_argument (dimensions func)) func.pure (rules.funcs func_index func is).pure
        (reaching func_index r func.pure (λ other e. ap (place_calls_of other) is ∙ or_left (calls other func.pure) (updates_call other func.updates) e)))

    module _ (count : ℕ) (claims : (func_index : ℕ) → func_index < count → Claim func_index) where
      answered_same : (s : Source) (n : ℕ) → reads_there count s n ≡ true → (a x : Seen) (y : Option Seen)
          → answered a x y (answer (inside (seeing reads) flags pipeline.funcs count) s)
          ≡ answered a x y (answer (inside (seeing reads) put pipeline.funcs count) s)
      answered_same (sources.Input func_index) n read a x y = refl
      answered_same (sources.Func func_index) n read a x y = by_flag (flags func_index) refl
        where
          parts : (is_read pipeline.inputs pipeline.funcs count (sources.Func func_index) n ≡ true) ×
              (reached func_index ≡ true)
          parts = and_parts (is_read pipeline.inputs pipeline.funcs count (sources.Func func_index) n)
              (reached func_index) read

          before : func_index < count
          before = ltb-true func_index count (and_parts (nat_lt func_index count) (is_func_of (slice_get pipeline.funcs func_index) n) parts.0).0

          by_flag : (flag : Bool) → flags func_index ≡ flag → answered a x y (inside (seeing reads) flags pipeline.funcs count func_index)
              ≡ answered a x y (inside (seeing reads) put pipeline.funcs count func_index)
          by_flag false f =
              let g = sym (agree func_index parts.1) ∙ f in
              ap (answered a x y) (inside_computed (seeing reads) flags pipeline.funcs count func_index f)
              ∙ sym (ap (answered a x y) (inside_computed (seeing reads) put pipeline.funcs count func_index g))
          by_flag true f =
              let g = sym (agree func_index parts.1) ∙ f in
              ap (answered a x y) (inside_before (seeing reads) flags pipeline.funcs count func_index before f)
              ∙ made_same func_index parts.1 (claims func_index before) (slice_get pipeline.funcs func_index) refl a x y
              ∙ sym (ap (answered a x y) (inside_before (seeing reads) put pipeline.funcs count func_index before g))

      abbrev Same : Seen → Seen → Type 0
      Same a b = a ≡ b

      module _ (vars : Variable → Seen) (has : Variable → Bool) where
        same_levels : KeptLevels Same (reads_there count) has (through_at (seeing reads) (inside (seeing reads) flags pipeline.funcs count) vars)
            (through_at (seeing reads) (inside (seeing reads) put pipeline.funcs count) vars)
        same_levels (layer.Number n) kept = refl
        same_levels (layer.Variable v) kept = refl
        same_levels (layer.Binary op a b) kept =
            ap (λ (x : Seen). (seeing reads).level (layer.Binary op x b.left)) a.is ∙ ap (λ (x : Seen). (seeing reads).level (layer.Binary op a.right x)) b.is
        same_levels (layer.Divide a n) kept = ap (λ (x : Seen). (seeing reads).level (layer.Divide x n)) a.is
        same_levels (layer.Remainder a n) kept = ap (λ (x : Seen). (seeing reads).level (layer.Remainder x n)) a.is
        same_levels (layer.Select c a b) kept =
            ap (λ (x : Seen). (seeing reads).level (layer.Select x a.left b.left)) c.is
            ∙ ap (λ (x : Seen). (seeing reads).level (layer.Select c.right x b.left)) a.is
            ∙ ap (λ (x : Seen). (seeing reads).level (layer.Select c.right a.right x)) b.is
        same_levels (layer.Call1 s a) kept =
            answered_same s 1 kept ((seeing reads).level (layer.Call1 s a.left)) a.left None
            ∙ ap (λ (x : Seen). answered ((seeing reads).level (layer.Call1 s x)) x None (answer (inside (seeing reads) put pipeline.funcs count) s)) a.is
        same_levels (layer.Call2 s a b) kept =
            answered_same s 2 kept ((seeing reads).level (layer.Call2 s a.left b.left)) a.left (Some b.left)
            ∙ ap (λ (x : Seen). answered ((seeing reads).level (layer.Call2 s x b.left)) x (Some b.left) (answer (inside (seeing reads) put pipeline.funcs
            count) s)) a.is
            ∙ ap (λ (x : Seen). answered ((seeing reads).level (layer.Call2 s a.right x)) a.right (Some x) (answer (inside (seeing reads) put pipeline.funcs
            count) s)) b.is

        claimed : (e : Expr) → keeps (is_read pipeline.inputs pipeline.funcs count) has e ≡ true → Reaches count (λ func. calls func e)
            → through (seeing reads) (inside (seeing reads) flags pipeline.funcs count) vars e
            ≡ through (seeing reads) (inside (seeing reads) put pipeline.funcs count) vars e
        unfolding through
        claimed e kept r =
            kept_folds_related Same (reads_there count) has (through_at (seeing reads) (inside (seeing reads) flags pipeline.funcs count) vars)
            (through_at (seeing reads) (inside (seeing reads) put pipeline.funcs count) vars) same_levels e
            (keeps_there count has e kept r)

    claims_below : (most func_index : ℕ) → func_index < most → Claim func_index
    claims_below zero func_index below = absurd (omega (arith, below))
    claims_below (suc most) func_index below = claimed func_index (λ other before. claims_below most other (omega (arith, before, below)))

    pub same_seen : (count : ℕ) (environment : Environment) (has : Variable → Bool) (e : Expr) → keeps (is_read pipeline.inputs pipeline.funcs count) has e
        ≡ true → Reaches count (λ func. calls func e)
        → inlined (seeing reads) flags pipeline.funcs count (seen_variable environment) e ≡ inlined (seeing reads) put pipeline.funcs count
        (seen_variable environment) e
    same_seen count environment has e kept r = claims_below (suc count) count (omega arith) (seen_variable environment) has e kept r

  -- ---- a reached Func that is inlined has no updates

  pub put_simple : IsAccepted pipeline schedule → AreSimple put pipeline.funcs
  put_simple accepted func_index func is flag = by_standing (slice_get schedule.standings func_index) refl flag
    where
      by_standing : (placement : Option FuncPlacement) → slice_get schedule.standings func_index ≡ placement → is_put_in placement ≡ true → length func.updates ≡ 0
      by_standing None found_func e = absurd cc
      by_standing (Some placement) found_func e =
          let k = and_parts placement.is_reached (is_inlined placement.place) e in
          let plan = pair_there IsPlan pipeline.funcs schedule.funcs func_index func accepted.plans is in
          let planned = pair_at IsPlan pipeline.funcs schedule.funcs func_index func plan.value accepted.plans is
          plan.is in
          let legal = pair_at IsLegal schedule.funcs schedule.standings func_index plan.value placement accepted.legal plan.is found_func in
          pair_length _ func.updates plan.value.updates planned.updates ∙ (legal k.0).no_updates k.1
