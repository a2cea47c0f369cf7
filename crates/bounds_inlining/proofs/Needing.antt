-- A table needs what the definition needs.
use Rattle.std.proofs.Common.{◌≡◌, ℕ, ◌+◌, ◌<◌, Bool, List, [], ◌∷◌, ◌++◌, length, Option, None, Some, refl, sym, ap, subst, ◌∙◌, arith, inl, inr}
use Rattle.std.proofs.lemmas.Bool.{cases_lt, cases_eq, lt-ltb}
use Rattle.std.proofs.lemmas.Option.{slice_get_past}
use Rattle.halide_pipeline.specs.declared.definitions.Func.{Func}
use Rattle.halide_pipeline.specs.declared.expressions.Expr.{Expr}
use Rattle.halide_pipeline.specs.declared.expressions.Expr.TheOpen as layer
use Rattle.halide_pipeline.specs.declared.expressions.Variable.{Variable}
use Rattle.bounds_inlining.specs.declared.needs.Need.{Need}
use Rattle.bounds_inlining.specs.Inlining.{second_of, arguments, through, inside, inlined, made_in, made_of, func_in, flagged, needing}
use Rattle.bounds_inlining.specs.inner.Summing.{Same, need_at, need_call, need_of, need_in, needed, SameCall, Needs, need_made}
use Rattle.bounds_inlining.proofs.Through.{Answers, RelatesAllLevels, arguments_related, seconds_related, through_related}
use Rattle.bounds_inlining.proofs.Steps.{inside_is, inside_past}
use Rattle.bounds_inlining.proofs.Counting.{get_before, get_last, more_length}

levels : RelatesAllLevels Same needing needing
unfolding needing
levels (layer.Number n) _ = refl
levels (layer.Variable v) is = cc
levels (layer.Binary op a b) _ = omega (arith, a.is, b.is)
levels (layer.Divide a n) _ = omega (arith, a.is)
levels (layer.Remainder a n) _ = omega (arith, a.is)
levels (layer.Select c a b) _ = omega (arith, c.is, a.is, b.is)
levels (layer.Call1 s a) _ = omega (arith, a.is)
levels (layer.Call2 s a b) _ = omega (arith, a.is, b.is)

answers_of : (f g : Option (ℕ → Option ℕ → ℕ)) → SameCall f g → Answers Same f g
answers_of None None same = tt
answers_of None (Some g) same = absurd same
answers_of (Some f) None same = absurd same
answers_of (Some f) (Some g) same = same

pub needs_through : (flags : List Bool) (funcs : List Func) (table : List (Option Need)) → Needs flags funcs table → (va vb : Variable → ℕ)
    → ((v : Variable) → Same (va v) (vb v)) → (e : Expr)
    → Same (through needing (needed table) va e) (inlined needing (flagged flags) funcs (length table) vb e)
needs_through flags funcs table known va vb vars e =
    through_related Same needing needing levels (needed table) (inside needing (flagged flags) funcs (length table))
    (λ place. answers_of (needed table place) (inside needing (flagged flags) funcs (length table) place) (known place)) va vb vars e

-- a call needs what its definition does
pub needs_made : (flags : List Bool) (funcs : List Func) (table : List (Option Need)) → Needs flags funcs table → (func : Func) (need : Need)
    → ((x y : ℕ) → Same (need_at need x y) (through needing (needed table) (arguments 1 x y) func.pure))
    → SameCall (Some (need_call need)) (Some (made_of needing (inside needing (flagged flags) funcs (length table)) func))
unfolding needing
needs_made flags funcs table known func need sums = λ x y z u e f.
    sums x (second_of 1 y)
    ∙ needs_through flags funcs table known (arguments 1 x (second_of 1 y)) (arguments 1 z (second_of 1 u)) (arguments_related Same 1 x (second_of 1 y) 1 z
    (second_of 1 u) refl e (seconds_related Same 1 y 1 u refl f)) func.pure

-- ---- a table that grows

pub no_needs : (flags : List Bool) (funcs : List Func) → Needs flags funcs []
unfolding inside
no_needs flags funcs place = tt

same_needed : (f g h k : Option (ℕ → Option ℕ → ℕ)) → f ≡ h → g ≡ k → SameCall h k → SameCall f g
same_needed f g h k e i same = subst (λ (x : Option (ℕ → Option ℕ → ℕ)). SameCall x g) (sym e) (subst (λ (y : Option (ℕ → Option ℕ → ℕ)). SameCall h y) (sym i)
    same)

module _ (flags : List Bool) (funcs : List Func) (table : List (Option Need)) (call : Option Need) where
  abbrev is_inlined : ℕ → Bool
  is_inlined = flagged flags

  func_before : (func_index count : ℕ) → func_index < count → func_in funcs is_inlined (count + 1) func_index ≡ func_in funcs is_inlined count func_index
  func_before func_index count less = rw (lt-ltb func_index (count + 1) (omega (arith, less)))
      (rw (lt-ltb func_index count less) refl)

  inside_same : (func_index count : ℕ) → func_index < count → inside needing is_inlined funcs (count + 1) func_index ≡ inside needing is_inlined funcs count func_index
  inside_same func_index count less =
      inside_is needing is_inlined funcs (count + 1) func_index
      ∙ ap (λ (f : Option Func). made_in needing (inside needing is_inlined funcs func_index) f) (func_before func_index count less)
      ∙ sym (inside_is needing is_inlined funcs count func_index)

  at_count : (count : ℕ) → length table ≡ count → Needs flags funcs table → SameCall (need_of call) (need_made flags funcs count) → (func_index : ℕ)
      → SameCall (needed (table ++ call ∷ []) func_index) (inside needing is_inlined funcs (count + 1) func_index)
  at_count count size known next func_index = elim (cases_lt func_index count) [
    | inl less ↦
        let here : SameCall (needed table func_index) (inside needing is_inlined funcs count func_index) =
        subst (λ (n : ℕ). SameCall (needed table func_index) (inside needing is_inlined funcs n func_index)) size
        (known func_index) in
        same_needed (needed (table ++ call ∷ []) func_index) (inside needing is_inlined funcs (count + 1) func_index) (needed table func_index) (inside needing is_inlined
        funcs count func_index)
        (ap need_in (get_before table (call ∷ []) func_index (omega (arith, less, size)))) (inside_same func_index count less) here
    | inr more ↦ elim (cases_eq func_index count) [
      | inl same ↦
          same_needed (needed (table ++ call ∷ []) func_index) (inside needing is_inlined funcs (count + 1) func_index) (need_of call) (need_made flags funcs count)
          (ap need_in (get_last table call func_index (same ∙ sym size)))
          (ap (λ (at : ℕ). inside needing is_inlined funcs (count + 1) at) same ∙ inside_is needing is_inlined funcs (count + 1) count) next
      | inr other ↦
          same_needed (needed (table ++ call ∷ []) func_index) (inside needing is_inlined funcs (count + 1) func_index)
          None None
          (ap need_in (slice_get_past (table ++ call ∷ []) func_index (omega (arith, more_length table call, size, more, other))))
          (inside_past needing is_inlined funcs (count + 1) func_index (omega (arith, more, other))) tt
    ]
  ]

  pub needs_more : (count : ℕ) → length table ≡ count → Needs flags funcs table → SameCall (need_of call) (need_made flags funcs count)
      → Needs flags funcs (table ++ call ∷ [])
  needs_more count size known next func_index =
      let grown : length (table ++ call ∷ []) ≡ count + 1 = more_length table call ∙ ap (λ (n : ℕ). n + 1) size in
      subst (λ (n : ℕ). SameCall (needed (table ++ call ∷ []) func_index) (inside needing is_inlined funcs n func_index)) (sym grown) (at_count count size known next
      func_index)
