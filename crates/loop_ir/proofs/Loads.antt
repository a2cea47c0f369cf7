-- An expression's value is what is seen of it, and depends on what is loaded alone.
use Rattle.std.proofs.Common.{◌≡◌, ℕ, [], ◌∷◌, ◌++◌, refl, ap, ◌∙◌}
use Rattle.std.specs.Prelude.{cond, ◌==◌}
use Rattle.halide_pipeline.specs.Words as word
use Rattle.halide_pipeline.specs.Pixel.{Reads}
use Rattle.halide_pipeline.specs.Points.{Seen, AgreeAt, Agree}
use Rattle.halide_pipeline.proofs.Seeing.{all_parts}
use Rattle.loop_ir.specs.declared.expressions.Expr.TheOpen.{Expr-F}
use Rattle.loop_ir.specs.declared.expressions.Expr.TheOpen as layer
use Rattle.loop_ir.specs.Counters.{Values}
use Rattle.loop_ir.specs.Expressions.{value, value_at, seen, seen_at, SeesValues, ValuesDependOnLoads}
use Rattle.loop_ir.proofs.Folds.{Both, left_of, right_of, folds_related}

module _ (reads : Reads) (values : Values) where
  abbrev SameValue : Seen → ℕ → Type 0
  SameValue s v = s.value ≡ v

  same_at : (y : Expr-F (Both SameValue)) → SameValue (seen_at reads values (left_of SameValue y)) (value_at reads values (right_of SameValue y))
  same_at (layer.Number n) = refl
  same_at (layer.Linear own) = refl
  same_at (layer.Binary op a b) = ap (λ (x : ℕ). word.applied op x b.left.value) a.is ∙ ap (λ (x : ℕ). word.applied op a.right x) b.is
  same_at (layer.Divide a n) = ap (λ (x : ℕ). word.divide x n) a.is
  same_at (layer.Remainder a n) = ap (λ (x : ℕ). word.remainder x n) a.is
  same_at (layer.Select c a b) =
      ap (λ (x : ℕ). cond (x == 0) b.left.value a.left.value) c.is ∙ ap (λ (x : ℕ). cond (c.right == 0) b.left.value x) a.is
      ∙ ap (λ (x : ℕ). cond (c.right == 0) x a.right) b.is
  same_at (layer.Load s a b) = ap (λ (x : ℕ). reads s x b.left.value) a.is ∙ ap (λ (x : ℕ). reads s a.right x) b.is

  module _ (other : Reads) where
    abbrev Matches : Seen → ℕ → Type 0
    Matches s v = Agree reads other s.points → v ≡ s.value

    matches_at : (y : Expr-F (Both Matches)) → Matches (seen_at reads values (left_of Matches y)) (value_at other values (right_of Matches y))
    matches_at (layer.Number n) agree = refl
    matches_at (layer.Linear own) agree = refl
    matches_at (layer.Binary op a b) agree =
        let k = all_parts (AgreeAt reads other) a.left.points b.left.points agree in
        ap (λ (x : ℕ). word.applied op x b.right) (a.is k.0) ∙ ap (λ (x : ℕ). word.applied op a.left.value x) (b.is k.1)
    matches_at (layer.Divide a n) agree = ap (λ (x : ℕ). word.divide x n) (a.is agree)
    matches_at (layer.Remainder a n) agree = ap (λ (x : ℕ). word.remainder x n) (a.is agree)
    matches_at (layer.Select c a b) agree =
        let k = all_parts (AgreeAt reads other) c.left.points (a.left.points ++ b.left.points) agree in
        let m = all_parts (AgreeAt reads other) a.left.points b.left.points k.1 in
        ap (λ (x : ℕ). cond (x == 0) b.right a.right) (c.is k.0) ∙ ap (λ (x : ℕ). cond (c.left.value == 0) b.right x) (a.is m.0)
        ∙ ap (λ (x : ℕ). cond (c.left.value == 0) x a.left.value) (b.is m.1)
    matches_at (layer.Load s a b) agree =
        let k = all_parts (AgreeAt reads other) (a.left.points ++ b.left.points) (record { source = s; x = a.left.value; y = b.left.value } ∷ []) agree in
        let m = all_parts (AgreeAt reads other) a.left.points b.left.points k.0 in
        ap (λ (x : ℕ). other s x b.right) (a.is m.0) ∙ ap (λ (x : ℕ). other s a.left.value x) (b.is m.1) ∙ k.1.0

pub values_are_seen : SeesValues
unfolding seen value
values_are_seen reads values e = folds_related (SameValue reads values) (seen_at reads values) (value_at reads values) (same_at reads values) e

pub values_depend_on_loads : ValuesDependOnLoads
unfolding seen value
values_depend_on_loads reads other values e agree =
    folds_related (Matches reads values other) (seen_at reads values) (value_at other values) (matches_at reads values other) e agree
    ∙ values_are_seen reads values e
