-- Loops are told apart by what they are.
use Rattle.std.proofs.Common.{◌≡◌, ◌≢◌, ℕ, suc, ◌<◌, Bool, true, false, refl, sym, ap, ◌∙◌, arith, ◌⊎◌, inl, inr}
use Rattle.std.specs.Prelude.{nat_lt}
use Rattle.std.proofs.lemmas.Bool.{eq-eqb, eqb-true, lt-ltb, le-ltb, ltb-true}
use Rattle.halide_pipeline.specs.declared.expressions.Variable.{Variable}
use Rattle.halide_pipeline.specs.declared.expressions.Variable.TheVariants as variables
use Rattle.halide_pipeline.specs.Expressions.{same_variable}
use Rattle.schedule_lines.specs.declared.stages.LoopId.{LoopId}
use Rattle.schedule_lines.specs.declared.stages.LoopId.TheVariants as ids
use Rattle.schedule_lines.specs.Directives.{same_id}
use Rattle.schedule_loops.specs.Visits.{Values, with}

pub same_variable-true : (a b : Variable) → same_variable a b ≡ true → a ≡ b
same_variable-true variables.FirstArgument variables.FirstArgument e = refl
same_variable-true variables.SecondArgument variables.SecondArgument e = refl
same_variable-true variables.FirstReduction variables.FirstReduction e = refl
same_variable-true variables.SecondReduction variables.SecondReduction e = refl
same_variable-true _ _ e = cc

pub same_variable-self : (a : Variable) → same_variable a a ≡ true
same_variable-self variables.FirstArgument = refl
same_variable-self variables.SecondArgument = refl
same_variable-self variables.FirstReduction = refl
same_variable-self variables.SecondReduction = refl

pub same_id-true : (a b : LoopId) → same_id a b ≡ true → a ≡ b
same_id-true (ids.Whole a) (ids.Whole b) e = ap (λ (v : Variable). ids.Whole v) (same_variable-true a b e)
same_id-true (ids.Outer a) (ids.Outer b) e = ap (λ (n : ℕ). ids.Outer n) (eqb-true a b e)
same_id-true (ids.Inner a) (ids.Inner b) e = ap (λ (n : ℕ). ids.Inner n) (eqb-true a b e)
same_id-true _ _ e = cc

pub same_id-self : (a : LoopId) → same_id a a ≡ true
same_id-self (ids.Whole a) = same_variable-self a
same_id-self (ids.Outer a) = eq-eqb a a refl
same_id-self (ids.Inner a) = eq-eqb a a refl

cases_at : (a b : LoopId) (test : Bool) → same_id a b ≡ test → (a ≡ b) ⊎ (same_id a b ≡ false)
cases_at a b true e = inl (same_id-true a b e)
cases_at a b false e = inr e

pub cases_id : (a b : LoopId) → (a ≡ b) ⊎ (same_id a b ≡ false)
cases_id a b = cases_at a b (same_id a b) refl

pub other_id : (a b : LoopId) → a ≢ b → same_id a b ≡ false
other_id a b d = elim (cases_id a b) [ inl e ↦ absurd (d e) | inr f ↦ f ]

pub ids_differ : (a b : LoopId) → same_id a b ≡ false → a ≢ b
ids_differ a b f e =
    let s : same_id a b ≡ true = ap (same_id a) (sym e) ∙ same_id-self a in cc

pub swapped_id : (a b : LoopId) → same_id a b ≡ false → same_id b a ≡ false
swapped_id a b f = other_id b a (λ e. ids_differ a b f (sym e))

-- the same for numbers and flags
pub same_of : {A : Type 0} (id : LoopId) (n : A) (values : LoopId → A) → with id n values id ≡ n
same_of id n values = rw (same_id-self id) refl

pub other_of : {A : Type 0} (id : LoopId) (n : A) (values : LoopId → A) (other : LoopId) → same_id other id ≡ false → with id n values other ≡ values other
other_of id n values other d = rw d refl

pub with_same : (id : LoopId) (n : ℕ) (values : Values) → with id n values id ≡ n
with_same id n values = rw (same_id-self id) refl

pub with_other : (id : LoopId) (n : ℕ) (values : Values) (other : LoopId) → same_id other id ≡ false → with id n values other ≡ values other
with_other id n values other d = rw d refl

-- A whole variable, or a loop of one of the first this many splits.
abbrev pub is_old : ℕ → LoopId → Bool
is_old place (ids.Whole v) = true
is_old place (ids.Outer at) = nat_lt at place
is_old place (ids.Inner at) = nat_lt at place

pub old_apart : (place : ℕ) (a b : LoopId) → is_old place a ≡ true → is_old place b ≡ false → same_id a b ≡ false
old_apart place a b old new = other_id a b (λ e. let s : is_old place b ≡ true = ap (is_old place) (sym e) ∙ old in cc)

pub outer_new : (place : ℕ) → is_old place (ids.Outer place) ≡ false
outer_new place = le-ltb place place (omega arith)

pub inner_new : (place : ℕ) → is_old place (ids.Inner place) ≡ false
inner_new place = le-ltb place place (omega arith)

pub older : (place : ℕ) (id : LoopId) → is_old place id ≡ true → is_old (suc place) id ≡ true
older place (ids.Whole v) old = refl
older place (ids.Outer at) old = let l : at < place = ltb-true at place old in lt-ltb at (suc place) (omega arith)
older place (ids.Inner at) old = let l : at < place = ltb-true at place old in lt-ltb at (suc place) (omega arith)
