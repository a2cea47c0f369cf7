-- A table counts as the definition does.
use Rattle.std.proofs.Common.{◌≡◌, ℕ, zero, suc, ◌+◌, ◌<◌, Bool, true, false, List, [], ◌∷◌, ◌++◌, length, Option, None, Some, refl, sym, ap, subst, ◌∙◌, arith}
use Rattle.std.proofs.Common.{inl, inr}
use Rattle.std.specs.Prelude.{slice_get}
use Rattle.std.proofs.lemmas.Bool.{cases_lt, cases_eq, lt-ltb}
use Rattle.std.proofs.lemmas.Option.{slice_get_past}
use Rattle.halide_pipeline.specs.declared.definitions.Func.{Func}
use Rattle.halide_pipeline.specs.declared.expressions.Expr.{Expr}
use Rattle.halide_pipeline.specs.declared.expressions.Expr.TheOpen as layer
use Rattle.halide_pipeline.specs.declared.expressions.Variable.{Variable}
use Rattle.halide_pipeline.specs.declared.expressions.Variable.TheVariants as variables
use Rattle.halide_pipeline.specs.Expressions.{uses}
use Rattle.bounds_inlining.specs.declared.counts.CountCall.{CountCall}
use Rattle.bounds_inlining.specs.declared.counts.Sum.{Sum}
use Rattle.bounds_inlining.specs.Inlining.{arguments, through, inside, inlined, made_in, made_of, func_in, flagged, counting, dropped}
use Rattle.bounds_inlining.specs.inner.Summing.{Same, sum_at, count_call, call_of, call_at, counted, SameCall, Counts, made_at}
use Rattle.bounds_inlining.proofs.Through.{Answers, RelatesAllLevels, arguments_related, through_related}
use Rattle.bounds_inlining.proofs.Steps.{inside_is, inside_past}

levels : RelatesAllLevels Same counting counting
unfolding counting
levels (layer.Number n) _ = refl
levels (layer.Variable v) is = cc
levels (layer.Binary op a b) _ = omega (arith, a.is, b.is)
levels (layer.Divide a n) _ = omega (arith, a.is)
levels (layer.Remainder a n) _ = omega (arith, a.is)
levels (layer.Select c a b) _ = omega (arith, c.is, a.is, b.is)
levels (layer.Call1 s a) _ = omega (arith, a.is)
levels (layer.Call2 s a b) _ = omega (arith, a.is, b.is)

answers_of : (f g : Option (ℕ → Option ℕ → ℕ)) → SameCall f g → Answers Same f g
answers_of None None same = tt
answers_of None (Some g) same = absurd same
answers_of (Some f) None same = absurd same
answers_of (Some f) (Some g) same = same

pub counts_through : (flags : List Bool) (funcs : List Func) (table : List (Option CountCall)) → Counts flags funcs table → (va vb : Variable → ℕ)
    → ((v : Variable) → Same (va v) (vb v)) → (e : Expr)
    → Same (through counting (counted table) va e) (inlined counting (flagged flags) funcs (length table) vb e)
counts_through flags funcs table known va vb vars e =
    through_related Same counting counting levels (counted table) (inside counting (flagged flags) funcs (length table))
    (λ place. answers_of (counted table place) (inside counting (flagged flags) funcs (length table) place) (known place)) va vb vars e

dropped_same : (t : Bool) (x z : ℕ) → Same x z → Same (dropped t x) (dropped t z)
dropped_same true x z e = refl
dropped_same false x z e = e

-- a call is counted as its definition
module _ (flags : List Bool) (funcs : List Func) (table : List (Option CountCall)) (known : Counts flags funcs table) (func : Func) (call : CountCall)
    (sum : Sum)
    (sums : (x y : ℕ) → Same (sum_at sum x y) (through counting (counted table) (arguments 1 x y) func.pure))
    (one : (x : ℕ) → Same (count_call call x None) (sum_at sum x 1 + dropped (uses variables.FirstArgument func.pure) x))
    (two : (x y : ℕ) → Same (count_call call x (Some y)) (sum_at sum x y + dropped (uses variables.FirstArgument func.pure) x + dropped
    (uses variables.SecondArgument func.pure) y)) where
  body_same : (x y z u : ℕ) → Same x z → Same y u → Same (sum_at sum x y) (inlined counting (flagged flags) funcs (length table) (arguments 1 z u) func.pure)
  body_same x y z u e f =
      sums x y ∙ counts_through flags funcs table known (arguments 1 x y) (arguments 1 z u) (arguments_related Same 1 x y 1 z u refl e f) func.pure

  pub made_same : SameCall (Some (count_call call)) (Some (made_of counting (inside counting (flagged flags) funcs (length table)) func))
  unfolding counting
  made_same x None z None e f = let b = body_same x 1 z 1 e refl in let d = dropped_same (uses variables.FirstArgument func.pure) x z e in let o = one x in
      omega (arith, o, b, d)
  made_same x None z (Some u) e f = absurd f
  made_same x (Some y) z None e f = absurd f
  made_same x (Some y) z (Some u) e f =
      let b = body_same x y z u e f in
      let d = dropped_same (uses variables.FirstArgument func.pure) x z e in
      let g = dropped_same (uses variables.SecondArgument func.pure) y u f in
      let t = two x y in
      omega (arith, t, b, d, g)

-- ---- a table that grows

pub get_before : {A : Type 0} → (xs ys : List A) (n : ℕ) → n < length xs → slice_get (xs ++ ys) n ≡ slice_get xs n
get_before [] ys n less = absurd (omega (arith, less))
get_before (x ∷ xs) ys zero less = refl
get_before (x ∷ xs) ys (suc n) less = get_before xs ys n (omega (arith, less))

pub get_last : {A : Type 0} → (xs : List A) (y : A) (n : ℕ) → n ≡ length xs → slice_get (xs ++ y ∷ []) n ≡ Some y
get_last [] y zero e = refl
get_last [] y (suc n) e = absurd (omega (arith, e))
get_last (x ∷ xs) y zero e = absurd (omega (arith, e))
get_last (x ∷ xs) y (suc n) e = get_last xs y n (omega (arith, e))

pub more_length : {A : Type 0} → (xs : List A) (y : A) → length (xs ++ y ∷ []) ≡ length xs + 1
more_length [] y = refl
more_length (x ∷ xs) y = omega (arith, more_length xs y)

pub no_counts : (flags : List Bool) (funcs : List Func) → Counts flags funcs []
unfolding inside
no_counts flags funcs place = tt

same_counted : (f g h k : Option (ℕ → Option ℕ → ℕ)) → f ≡ h → g ≡ k → SameCall h k → SameCall f g
same_counted f g h k e i same = subst (λ (x : Option (ℕ → Option ℕ → ℕ)). SameCall x g) (sym e) (subst (λ (y : Option (ℕ → Option ℕ → ℕ)). SameCall h y) (sym i)
    same)

module _ (flags : List Bool) (funcs : List Func) (table : List (Option CountCall)) (call : Option CountCall) where
  abbrev is_inlined : ℕ → Bool
  is_inlined = flagged flags

  func_before : (func_index count : ℕ) → func_index < count → func_in funcs is_inlined (count + 1) func_index ≡ func_in funcs is_inlined count func_index
  func_before func_index count less = rw (lt-ltb func_index (count + 1) (omega (arith, less)))
      (rw (lt-ltb func_index count less) refl)

  inside_same : (func_index count : ℕ) → func_index < count → inside counting is_inlined funcs (count + 1) func_index ≡ inside counting is_inlined funcs count func_index
  inside_same func_index count less =
      inside_is counting is_inlined funcs (count + 1) func_index
      ∙ ap (λ (f : Option Func). made_in counting (inside counting is_inlined funcs func_index) f) (func_before func_index count less)
      ∙ sym (inside_is counting is_inlined funcs count func_index)

  at_count : (count : ℕ) → length table ≡ count → Counts flags funcs table → SameCall (call_of call) (made_at flags funcs count) → (func_index : ℕ)
      → SameCall (counted (table ++ call ∷ []) func_index) (inside counting is_inlined funcs (count + 1) func_index)
  at_count count size known next func_index = elim (cases_lt func_index count) [
    | inl less ↦
        let here : SameCall (counted table func_index) (inside counting is_inlined funcs count func_index) =
        subst (λ (n : ℕ). SameCall (counted table func_index) (inside counting is_inlined funcs n func_index)) size (known func_index) in
        same_counted (counted (table ++ call ∷ []) func_index) (inside counting is_inlined funcs (count + 1) func_index) (counted table func_index) (inside counting is_inlined
        funcs count func_index)
        (ap call_at (get_before table (call ∷ []) func_index (omega (arith, less, size)))) (inside_same func_index count less) here
    | inr more ↦ elim (cases_eq func_index count) [
      | inl same ↦
          same_counted (counted (table ++ call ∷ []) func_index) (inside counting is_inlined funcs (count + 1) func_index) (call_of call) (made_at flags funcs count)
          (ap call_at (get_last table call func_index (same ∙ sym size)))
          (ap (λ (at : ℕ). inside counting is_inlined funcs (count + 1) at) same ∙ inside_is counting is_inlined funcs (count + 1) count) next
      | inr other ↦
          same_counted (counted (table ++ call ∷ []) func_index) (inside counting is_inlined funcs (count + 1) func_index) None None
          (ap call_at (slice_get_past (table ++ call ∷ []) func_index (omega (arith, more_length table call, size, more, other))))
          (inside_past counting is_inlined funcs (count + 1) func_index (omega (arith, more, other))) tt
    ]
  ]

  pub counts_more : (count : ℕ) → length table ≡ count → Counts flags funcs table → SameCall (call_of call) (made_at flags funcs count)
      → Counts flags funcs (table ++ call ∷ [])
  counts_more count size known next func_index =
      let grown : length (table ++ call ∷ []) ≡ count + 1 = more_length table call ∙ ap (λ (n : ℕ). n + 1) size in
      subst (λ (n : ℕ). SameCall (counted (table ++ call ∷ []) func_index) (inside counting is_inlined funcs n func_index)) (sym grown) (at_count count size known next
      func_index)

pub grown_length : {A : Type 0} → (xs : List A) (y : A) (count : ℕ) → length xs ≡ count → length (xs ++ y ∷ []) ≡ count + 1
grown_length xs y count size = more_length xs y ∙ ap (λ (n : ℕ). n + 1) size
