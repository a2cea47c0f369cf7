-- One level of an expression, with two things made of each part that are related.
-- This project's own.
use Rattle.halide_pipeline.specs.declared.expressions.Expr.{map-Expr}
use Rattle.halide_pipeline.specs.declared.expressions.Expr.TheOpen.{Expr-F}

pub record Both {A B : Type 0} (R : A → B → Type 0) : Type 0 where
  pub left : A
  pub right : B
  pub is : R left right

abbrev pub left_of : {A B : Type 0} → (R : A → B → Type 0) → Expr-F (Both R) → Expr-F A
left_of {A} R level = map-Expr (Both R) A (λ part. part.left) level

abbrev pub right_of : {A B : Type 0} → (R : A → B → Type 0) → Expr-F (Both R) → Expr-F B
right_of {A} {B} R level = map-Expr (Both R) B (λ part. part.right) level
