-- An expression's value is what is seen of it, and depends on the points seen alone.
use Rattle.std.proofs.Common.{◌≡◌, ℕ, List, [], ◌∷◌, ◌++◌, refl, ap, ◌∙◌}
use Rattle.std.specs.Prelude.{cond, ◌==◌}
use Rattle.std.specs.List.{AllByRecursion}
use Rattle.halide_pipeline.specs.declared.expressions.Expr.TheOpen.{Expr-F}
use Rattle.halide_pipeline.specs.declared.expressions.Expr.TheOpen as layer
use Rattle.halide_pipeline.specs.Words as word
use Rattle.halide_pipeline.specs.declared.environments.Environment.{Environment}
use Rattle.halide_pipeline.specs.Pixel.{Reads, value, value_at}
use Rattle.halide_pipeline.specs.Points.{Seen, seen, seen_at, AgreeAt, Agree, SeesValues, ValuesDependOnReads}
use Rattle.halide_pipeline.specs.Levels.{Both, left_of, right_of}
use Rattle.halide_pipeline.proofs.Folds.{folds_related}

-- all of two lists
pub all_parts : {A : Type 0} (P : A → Type 0) (xs ys : List A) → AllByRecursion P (xs ++ ys) → AllByRecursion P xs × AllByRecursion P ys
all_parts P [] ys all = (tt, all)
all_parts P (x ∷ xs) ys all = let parts = all_parts P xs ys all.1 in ((all.0, parts.0), parts.1)

pub all_both : {A : Type 0} (P : A → Type 0) (xs ys : List A) → AllByRecursion P xs → AllByRecursion P ys → AllByRecursion P (xs ++ ys)
all_both P [] ys some others = others
all_both P (x ∷ xs) ys some others = (some.0, all_both P xs ys some.1 others)

module _ (reads : Reads) (environment : Environment) where
  abbrev pub SameValue : Seen → ℕ → Type 0
  SameValue s v = s.value ≡ v

  pub same_at : (y : Expr-F (Both SameValue)) → SameValue (seen_at reads environment (left_of SameValue y)) (value_at reads environment (right_of SameValue y))
  same_at (layer.Number n) = refl
  same_at (layer.Variable v) = refl
  same_at (layer.Binary op a b) = ap (λ (x : ℕ). word.applied op x b.left.value) a.is ∙ ap (λ (x : ℕ). word.applied op a.right x) b.is
  same_at (layer.Divide a n) = ap (λ (x : ℕ). word.divide x n) a.is
  same_at (layer.Remainder a n) = ap (λ (x : ℕ). word.remainder x n) a.is
  same_at (layer.Select c a b) =
      ap (λ (x : ℕ). cond (x == 0) b.left.value a.left.value) c.is ∙ ap (λ (x : ℕ). cond (c.right == 0) b.left.value x) a.is
      ∙ ap (λ (x : ℕ). cond (c.right == 0) x a.right) b.is
  same_at (layer.Call1 s a) = ap (λ (x : ℕ). reads s x 0) a.is
  same_at (layer.Call2 s a b) = ap (λ (x : ℕ). reads s x b.left.value) a.is ∙ ap (λ (x : ℕ). reads s a.right x) b.is

  module _ (other : Reads) where
    abbrev pub Matches : Seen → ℕ → Type 0
    Matches s v = Agree reads other s.points → v ≡ s.value

    pub matches_at : (y : Expr-F (Both Matches)) → Matches (seen_at reads environment (left_of Matches y)) (value_at other environment (right_of Matches y))
    matches_at (layer.Number n) agree = refl
    matches_at (layer.Variable v) agree = refl
    matches_at (layer.Binary op a b) agree =
        let k = all_parts (AgreeAt reads other) a.left.points b.left.points agree in
        ap (λ (x : ℕ). word.applied op x b.right) (a.is k.0) ∙ ap (λ (x : ℕ). word.applied op a.left.value x) (b.is k.1)
    matches_at (layer.Divide a n) agree = ap (λ (x : ℕ). word.divide x n) (a.is agree)
    matches_at (layer.Remainder a n) agree = ap (λ (x : ℕ). word.remainder x n) (a.is agree)
    matches_at (layer.Select c a b) agree =
        let k = all_parts (AgreeAt reads other) c.left.points (a.left.points ++ b.left.points) agree in
        let m = all_parts (AgreeAt reads other) a.left.points b.left.points k.1 in
        ap (λ (x : ℕ). cond (x == 0) b.right a.right) (c.is k.0) ∙ ap (λ (x : ℕ). cond (c.left.value == 0) b.right x) (a.is m.0)
        ∙ ap (λ (x : ℕ). cond (c.left.value == 0) x a.left.value) (b.is m.1)
    matches_at (layer.Call1 s a) agree =
        let k = all_parts (AgreeAt reads other) a.left.points (record { source = s; x = a.left.value; y = 0 } ∷ []) agree in
        ap (λ (x : ℕ). other s x 0) (a.is k.0) ∙ k.1.0
    matches_at (layer.Call2 s a b) agree =
        let k = all_parts (AgreeAt reads other) (a.left.points ++ b.left.points) (record { source = s; x = a.left.value; y = b.left.value } ∷ []) agree in
        let m = all_parts (AgreeAt reads other) a.left.points b.left.points k.0 in
        ap (λ (x : ℕ). other s x b.right) (a.is m.0) ∙ ap (λ (x : ℕ). other s a.left.value x) (b.is m.1) ∙ k.1.0

pub values_are_seen : SeesValues
unfolding seen value
values_are_seen reads environment e = folds_related (SameValue reads environment) (seen_at reads environment) (value_at reads environment)
    (same_at reads environment) e

pub values_depend_on_reads : ValuesDependOnReads
unfolding seen value
values_depend_on_reads reads other environment e agree =
    folds_related (Matches reads environment other) (seen_at reads environment) (value_at other environment) (matches_at reads environment other) e agree
    ∙ values_are_seen reads environment e
