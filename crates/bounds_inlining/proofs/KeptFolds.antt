-- Two functions of expressions are related at each expression of a pipeline if they are at each level of one.
use Rattle.std.proofs.Common.{◌≡◌, Bool, true, sym, refl, subst, ◌∙◌}
use Rattle.std.specs.Prelude.{ℕ, ◌&&◌}
use Rattle.std.proofs.lemmas.Bool.{and_parts}
use Rattle.halide_pipeline.specs.declared.expressions.Expr.{Expr, fold-Expr, ind-Expr, fold-roll-Expr, roll-Expr, map-Expr}
use Rattle.halide_pipeline.specs.declared.expressions.Expr.TheOpen.{Expr-F}
use Rattle.halide_pipeline.specs.declared.expressions.Expr.TheOpen as layer
use Rattle.halide_pipeline.specs.declared.expressions.Source.{Source}
use Rattle.halide_pipeline.specs.declared.expressions.Variable.{Variable}
use Rattle.halide_pipeline.specs.WellFormed.{keeps, keeps_at, is_divisor}
use Rattle.halide_pipeline.specs.Levels.{Both, left_of, right_of}

module _ {A B : Type 0} (R : A → B → Type 0) (reads : Source → ℕ → Bool) (has : Variable → Bool) where
  -- the level itself keeps the rules
  abbrev pub IsKept : Expr-F (Both R) → Type 0
  IsKept y = keeps_at reads has (map-Expr (Both R) Bool (λ p. true) y) ≡ true

  abbrev pub KeptLevels : (Expr-F A → A) → (Expr-F B → B) → Type 0
  KeptLevels f g = (y : Expr-F (Both R)) → IsKept y → R (f (left_of R y)) (g (right_of R y))

  module _ (f : Expr-F A → A) (g : Expr-F B → B) (levels : KeptLevels f g) where
    abbrev of_f : Expr → A
    of_f e = fold-Expr A f e

    abbrev of_g : Expr → B
    of_g e = fold-Expr B g e

    abbrev Holds : Expr → Type 0
    Holds e = keeps reads has e ≡ true → R (of_f e) (of_g e)

    abbrev both : (e : Expr) → R (of_f e) (of_g e) → Both R
    both e is = record { left = of_f e; right = of_g e; is = is }

    -- one level
    level : (y : Expr-F Expr) (pairs : Expr-F (Both R)) → of_f (roll-Expr y) ≡ f (left_of R pairs) → of_g (roll-Expr y) ≡ g (right_of R pairs) → IsKept pairs
        → R (of_f (roll-Expr y)) (of_g (roll-Expr y))
    level y pairs ea eb is = subst (λ (x : A). R x (of_g (roll-Expr y))) (sym ea) (subst (λ (x : B). R (f (left_of R pairs)) x) (sym eb) (levels pairs is))

    by_layer : (X : Type 0) (expr : X → Expr) → ((part : X) → Holds (expr part)) → (y : Expr-F X) → Holds (roll-Expr (map-Expr X Expr expr y))
    unfolding keeps
    by_layer X expr holds (layer.Number n) is =
        let l = layer.Number n in
        level l (layer.Number n) (fold-roll-Expr A f l) (fold-roll-Expr B g l) (sym (fold-roll-Expr Bool (keeps_at reads has) l) ∙ is)
    by_layer X expr holds (layer.Variable v) is =
        let l = layer.Variable v in
        level l (layer.Variable v) (fold-roll-Expr A f l) (fold-roll-Expr B g l) (sym (fold-roll-Expr Bool (keeps_at reads has) l) ∙ is)
    by_layer X expr holds (layer.Binary op a b) is =
        let l = layer.Binary op (expr a) (expr b) in
        let k = and_parts (keeps reads has (expr a)) (keeps reads has (expr b)) (sym (fold-roll-Expr Bool (keeps_at reads has) l) ∙ is) in
        level l (layer.Binary op (both (expr a) (holds a k.0)) (both (expr b) (holds b k.1))) (fold-roll-Expr A f l) (fold-roll-Expr B g l) refl
    by_layer X expr holds (layer.Divide a n) is =
        let l = layer.Divide (expr a) n in
        let k = and_parts (keeps reads has (expr a)) (is_divisor n) (sym (fold-roll-Expr Bool (keeps_at reads has) l) ∙ is) in
        level l (layer.Divide (both (expr a) (holds a k.0)) n) (fold-roll-Expr A f l) (fold-roll-Expr B g l) k.1
    by_layer X expr holds (layer.Remainder a n) is =
        let l = layer.Remainder (expr a) n in
        let k = and_parts (keeps reads has (expr a)) (is_divisor n) (sym (fold-roll-Expr Bool (keeps_at reads has) l) ∙ is) in
        level l (layer.Remainder (both (expr a) (holds a k.0)) n) (fold-roll-Expr A f l) (fold-roll-Expr B g l) k.1
    by_layer X expr holds (layer.Select t a b) is =
        let l = layer.Select (expr t) (expr a) (expr b) in
        let k = and_parts (keeps reads has (expr t)) (keeps reads has (expr a) && keeps reads has (expr b)) (sym (fold-roll-Expr Bool (keeps_at reads has) l)
        ∙ is) in
        let m = and_parts (keeps reads has (expr a)) (keeps reads has (expr b)) k.1 in
        level l (layer.Select (both (expr t) (holds t k.0)) (both (expr a) (holds a m.0)) (both (expr b) (holds b m.1))) (fold-roll-Expr A f l)
        (fold-roll-Expr B g l) refl
    by_layer X expr holds (layer.Call1 s a) is =
        let l = layer.Call1 s (expr a) in
        let k = and_parts (keeps reads has (expr a)) (reads s 1) (sym (fold-roll-Expr Bool (keeps_at reads has) l) ∙ is) in
        level l (layer.Call1 s (both (expr a) (holds a k.0))) (fold-roll-Expr A f l) (fold-roll-Expr B g l) k.1
    by_layer X expr holds (layer.Call2 s a b) is =
        let l = layer.Call2 s (expr a) (expr b) in
        let k = and_parts (keeps reads has (expr a) && keeps reads has (expr b)) (reads s 2) (sym (fold-roll-Expr Bool (keeps_at reads has) l) ∙ is) in
        let m = and_parts (keeps reads has (expr a)) (keeps reads has (expr b)) k.0 in
        level l (layer.Call2 s (both (expr a) (holds a m.0)) (both (expr b) (holds b m.1))) (fold-roll-Expr A f l) (fold-roll-Expr B g l) k.1

    pub kept_folds_related : (e : Expr) → Holds e
    kept_folds_related = ind-Expr Holds (λ x y is. subst (λ (l : Expr-F Expr). Holds (roll-Expr l)) is (by_layer _ (λ e. e.0) (λ e. e.1) y))
