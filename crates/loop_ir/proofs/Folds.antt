-- What folds of expressions make of each kind, and when two of them are related.
use Rattle.std.proofs.Common.{◌≡◌, ℕ, ap, sym, subst, ◌∙◌}
use Rattle.halide_pipeline.specs.declared.expressions.Operation.{Operation}
use Rattle.halide_pipeline.specs.declared.expressions.Source.{Source}
use Rattle.loop_ir.specs.declared.expressions.Expr.{Expr, fold-Expr, ind-Expr, fold-roll-Expr, roll-Expr, map-Expr}
use Rattle.loop_ir.specs.declared.expressions.Expr.TheOpen.{Expr-F}
use Rattle.loop_ir.specs.declared.expressions.Expr.TheOpen as layer
use Rattle.loop_ir.specs.declared.expressions.Expr.TheVariants.{rolls-Number, rolls-Linear, rolls-Binary, rolls-Divide, rolls-Remainder, rolls-Select}
use Rattle.loop_ir.specs.declared.expressions.Expr.TheVariants.{rolls-Load}
use Rattle.loop_ir.specs.declared.expressions.Expr.TheVariants as e
use Rattle.loop_ir.specs.declared.expressions.Linear.{Linear}

module _ (A : Type 0) (step : Expr-F A → A) where
  abbrev of : Expr → A
  of e = fold-Expr A step e

  pub at_number : (n : ℕ) → fold-Expr A step (e.Number n) ≡ step (layer.Number n)
  at_number n = ap of (sym (rolls-Number n)) ∙ fold-roll-Expr A step (layer.Number n)

  pub at_linear : (sum : Linear) → fold-Expr A step (e.Linear sum) ≡ step (layer.Linear sum)
  at_linear sum = ap of (sym (rolls-Linear sum)) ∙ fold-roll-Expr A step (layer.Linear sum)

  pub at_binary : (op : Operation) (a b : Expr) → fold-Expr A step (e.Binary op a b) ≡ step (layer.Binary op (fold-Expr A step a) (fold-Expr A step b))
  at_binary op a b = ap of (sym (rolls-Binary op a b)) ∙ fold-roll-Expr A step (layer.Binary op a b)

  pub at_divide : (a : Expr) (n : ℕ) → fold-Expr A step (e.Divide a n) ≡ step (layer.Divide (fold-Expr A step a) n)
  at_divide a n = ap of (sym (rolls-Divide a n)) ∙ fold-roll-Expr A step (layer.Divide a n)

  pub at_remainder : (a : Expr) (n : ℕ) → fold-Expr A step (e.Remainder a n) ≡ step (layer.Remainder (fold-Expr A step a) n)
  at_remainder a n = ap of (sym (rolls-Remainder a n)) ∙ fold-roll-Expr A step (layer.Remainder a n)

  pub at_select : (c a b : Expr) → fold-Expr A step (e.Select c a b) ≡ step (layer.Select (fold-Expr A step c) (fold-Expr A step a) (fold-Expr A step b))
  at_select c a b = ap of (sym (rolls-Select c a b)) ∙ fold-roll-Expr A step (layer.Select c a b)

  pub at_load : (s : Source) (x y : Expr) → fold-Expr A step (e.Load s x y) ≡ step (layer.Load s (fold-Expr A step x) (fold-Expr A step y))
  at_load s x y = ap of (sym (rolls-Load s x y)) ∙ fold-roll-Expr A step (layer.Load s x y)

-- ---- two folds

pub record Both {A B : Type 0} (R : A → B → Type 0) : Type 0 where
  pub left : A
  pub right : B
  pub is : R left right

abbrev pub left_of : {A B : Type 0} → (R : A → B → Type 0) → Expr-F (Both R) → Expr-F A
left_of {A} R level = map-Expr (Both R) A (λ part. part.left) level

abbrev pub right_of : {A B : Type 0} → (R : A → B → Type 0) → Expr-F (Both R) → Expr-F B
right_of {A} {B} R level = map-Expr (Both R) B (λ part. part.right) level

module _ {A B : Type 0} (R : A → B → Type 0) where
  module _ (f : Expr-F A → A) (g : Expr-F B → B) where
    abbrev of_f : Expr → A
    of_f e = fold-Expr A f e

    abbrev of_g : Expr → B
    of_g e = fold-Expr B g e

    -- one level
    level : (y : Expr-F Expr) (pairs : Expr-F (Both R)) → of_f (roll-Expr y) ≡ f (left_of R pairs) → of_g (roll-Expr y) ≡ g (right_of R pairs)
        → R (f (left_of R pairs)) (g (right_of R pairs)) → R (of_f (roll-Expr y)) (of_g (roll-Expr y))
    level y pairs ea eb r = subst (λ (x : A). R x (of_g (roll-Expr y))) (sym ea) (subst (λ (x : B). R (f (left_of R pairs)) x) (sym eb) r)

    abbrev both : (e : Expr) → R (of_f e) (of_g e) → Both R
    both e is = record { left = of_f e; right = of_g e; is = is }

    module _ (levels : (y : Expr-F (Both R)) → R (f (left_of R y)) (g (right_of R y))) where
      abbrev Holds : Expr → Type 0
      Holds e = R (of_f e) (of_g e)

      by_layer : (X : Type 0) (expr : X → Expr) → ((part : X) → Holds (expr part)) → (y : Expr-F X) → Holds (roll-Expr (map-Expr X Expr expr y))
      by_layer X expr holds (layer.Number n) =
          let l = layer.Number n in
          level l (layer.Number n) (fold-roll-Expr A f l) (fold-roll-Expr B g l) (levels (layer.Number n))
      by_layer X expr holds (layer.Linear own) =
          let l = layer.Linear own in
          level l (layer.Linear own) (fold-roll-Expr A f l) (fold-roll-Expr B g l) (levels (layer.Linear own))
      by_layer X expr holds (layer.Binary op a b) =
          let l = layer.Binary op (expr a) (expr b) in
          let p = layer.Binary op (both (expr a) (holds a)) (both (expr b) (holds b)) in
          level l p (fold-roll-Expr A f l) (fold-roll-Expr B g l) (levels p)
      by_layer X expr holds (layer.Divide a n) =
          let l = layer.Divide (expr a) n in
          let p = layer.Divide (both (expr a) (holds a)) n in
          level l p (fold-roll-Expr A f l) (fold-roll-Expr B g l) (levels p)
      by_layer X expr holds (layer.Remainder a n) =
          let l = layer.Remainder (expr a) n in
          let p = layer.Remainder (both (expr a) (holds a)) n in
          level l p (fold-roll-Expr A f l) (fold-roll-Expr B g l) (levels p)
      by_layer X expr holds (layer.Select t a b) =
          let l = layer.Select (expr t) (expr a) (expr b) in
          let p = layer.Select (both (expr t) (holds t)) (both (expr a) (holds a)) (both (expr b) (holds b)) in
          level l p (fold-roll-Expr A f l) (fold-roll-Expr B g l) (levels p)
      by_layer X expr holds (layer.Load s a b) =
          let l = layer.Load s (expr a) (expr b) in
          let p = layer.Load s (both (expr a) (holds a)) (both (expr b) (holds b)) in
          level l p (fold-roll-Expr A f l) (fold-roll-Expr B g l) (levels p)

      pub folds_related : (e : Expr) → R (of_f e) (of_g e)
      folds_related = ind-Expr Holds (λ x y is. subst (λ (l : Expr-F Expr). Holds (roll-Expr l)) is (by_layer _ (λ e. e.0) (λ e. e.1) y))
