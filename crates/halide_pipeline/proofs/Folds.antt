-- Two functions of expressions are related at each expression if they are at each level.
use Rattle.std.proofs.Common.{◌≡◌, sym, subst}
use Rattle.halide_pipeline.specs.declared.expressions.Expr.{Expr, fold-Expr, ind-Expr, fold-roll-Expr, roll-Expr, map-Expr}
use Rattle.halide_pipeline.specs.declared.expressions.Expr.TheOpen.{Expr-F}
use Rattle.halide_pipeline.specs.declared.expressions.Expr.TheOpen as layer
use Rattle.halide_pipeline.specs.Levels.{Both, left_of, right_of}

module _ {A B : Type 0} (R : A → B → Type 0) where
  module _ (f : Expr-F A → A) (g : Expr-F B → B) where
    abbrev of_f : Expr → A
    of_f e = fold-Expr A f e

    abbrev of_g : Expr → B
    of_g e = fold-Expr B g e

    -- one level
    rolled : (y : Expr-F Expr) (a : A) (b : B) → of_f (roll-Expr y) ≡ a → of_g (roll-Expr y) ≡ b → R a b → R (of_f (roll-Expr y)) (of_g (roll-Expr y))
    rolled y a b ea eb r = subst (λ (x : A). R x (of_g (roll-Expr y))) (sym ea) (subst (λ (x : B). R a x) (sym eb) r)

    level : (y : Expr-F Expr) (pairs : Expr-F (Both R)) → of_f (roll-Expr y) ≡ f (left_of R pairs) → of_g (roll-Expr y) ≡ g (right_of R pairs)
        → R (f (left_of R pairs)) (g (right_of R pairs)) → R (of_f (roll-Expr y)) (of_g (roll-Expr y))
    level y pairs ea eb r = rolled y (f (left_of R pairs)) (g (right_of R pairs)) ea eb r

    abbrev both : (e : Expr) → R (of_f e) (of_g e) → Both R
    both e is = record { left = of_f e; right = of_g e; is = is }

    module _ (levels : (y : Expr-F (Both R)) → R (f (left_of R y)) (g (right_of R y))) where
      abbrev Holds : Expr → Type 0
      Holds e = R (of_f e) (of_g e)

      by_layer : (X : Type 0) (expr : X → Expr) → ((part : X) → Holds (expr part)) → (y : Expr-F X) → Holds (roll-Expr (map-Expr X Expr expr y))
      by_layer X expr holds (layer.Number n) =
          let l = layer.Number n in
          level l (layer.Number n) (fold-roll-Expr A f l) (fold-roll-Expr B g l) (levels (layer.Number n))
      by_layer X expr holds (layer.Variable v) =
          let l = layer.Variable v in
          level l (layer.Variable v) (fold-roll-Expr A f l) (fold-roll-Expr B g l) (levels (layer.Variable v))
      by_layer X expr holds (layer.Binary op a b) =
          let l = layer.Binary op (expr a) (expr b) in
          let p = layer.Binary op (both (expr a) (holds a)) (both (expr b) (holds b)) in
          level l p (fold-roll-Expr A f l) (fold-roll-Expr B g l) (levels p)
      by_layer X expr holds (layer.Divide a n) =
          let l = layer.Divide (expr a) n in
          let p = layer.Divide (both (expr a) (holds a)) n in
          level l p (fold-roll-Expr A f l) (fold-roll-Expr B g l) (levels p)
      by_layer X expr holds (layer.Remainder a n) =
          let l = layer.Remainder (expr a) n in
          let p = layer.Remainder (both (expr a) (holds a)) n in
          level l p (fold-roll-Expr A f l) (fold-roll-Expr B g l) (levels p)
      by_layer X expr holds (layer.Select t a b) =
          let l = layer.Select (expr t) (expr a) (expr b) in
          let p = layer.Select (both (expr t) (holds t)) (both (expr a) (holds a)) (both (expr b) (holds b)) in
          level l p (fold-roll-Expr A f l) (fold-roll-Expr B g l) (levels p)
      by_layer X expr holds (layer.Call1 s a) =
          let l = layer.Call1 s (expr a) in
          let p = layer.Call1 s (both (expr a) (holds a)) in
          level l p (fold-roll-Expr A f l) (fold-roll-Expr B g l) (levels p)
      by_layer X expr holds (layer.Call2 s a b) =
          let l = layer.Call2 s (expr a) (expr b) in
          let p = layer.Call2 s (both (expr a) (holds a)) (both (expr b) (holds b)) in
          level l p (fold-roll-Expr A f l) (fold-roll-Expr B g l) (levels p)

      pub folds_related : (e : Expr) → R (of_f e) (of_g e)
      folds_related = ind-Expr Holds (λ x y is. subst (λ (l : Expr-F Expr). Holds (roll-Expr l)) is (by_layer _ (λ e. e.0) (λ e. e.1) y))
