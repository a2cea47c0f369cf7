-- A function of expressions by one step at each level (`fold-Expr`), at each variant.
use Rattle.std.proofs.Common.{◌≡◌, ℕ, ap, sym, ◌∙◌}
use Rattle.halide_pipeline.specs.declared.expressions.Expr.{Expr, fold-Expr, fold-roll-Expr}
use Rattle.halide_pipeline.specs.declared.expressions.Expr.TheOpen.{Expr-F}
use Rattle.halide_pipeline.specs.declared.expressions.Expr.TheOpen as layer
use Rattle.halide_pipeline.specs.declared.expressions.Expr.TheVariants.{rolls-Number, rolls-Variable, rolls-Binary, rolls-Divide, rolls-Remainder, rolls-Select}
use Rattle.halide_pipeline.specs.declared.expressions.Expr.TheVariants.{rolls-Call1, rolls-Call2}
use Rattle.halide_pipeline.specs.declared.expressions.Expr.TheVariants as e
use Rattle.halide_pipeline.specs.declared.expressions.Operation.{Operation}
use Rattle.halide_pipeline.specs.declared.expressions.Source.{Source}
use Rattle.halide_pipeline.specs.declared.expressions.Variable.{Variable}

module _ (A : Type 0) (step : Expr-F A → A) where
  abbrev of : Expr → A
  of e = fold-Expr A step e

  pub at_number : (n : ℕ) → of (e.Number n) ≡ step (layer.Number n)
  at_number n = ap of (sym (rolls-Number n)) ∙ fold-roll-Expr A step (layer.Number n)

  pub at_variable : (v : Variable) → of (e.Variable v) ≡ step (layer.Variable v)
  at_variable v = ap of (sym (rolls-Variable v)) ∙ fold-roll-Expr A step (layer.Variable v)

  pub at_binary : (op : Operation) (a b : Expr) → of (e.Binary op a b) ≡ step (layer.Binary op (of a) (of b))
  at_binary op a b = ap of (sym (rolls-Binary op a b)) ∙ fold-roll-Expr A step (layer.Binary op a b)

  pub at_divide : (a : Expr) (c : ℕ) → of (e.Divide a c) ≡ step (layer.Divide (of a) c)
  at_divide a c = ap of (sym (rolls-Divide a c)) ∙ fold-roll-Expr A step (layer.Divide a c)

  pub at_remainder : (a : Expr) (c : ℕ) → of (e.Remainder a c) ≡ step (layer.Remainder (of a) c)
  at_remainder a c = ap of (sym (rolls-Remainder a c)) ∙ fold-roll-Expr A step (layer.Remainder a c)

  pub at_select : (c a b : Expr) → of (e.Select c a b) ≡ step (layer.Select (of c) (of a) (of b))
  at_select c a b = ap of (sym (rolls-Select c a b)) ∙ fold-roll-Expr A step (layer.Select c a b)

  pub at_call1 : (s : Source) (a : Expr) → of (e.Call1 s a) ≡ step (layer.Call1 s (of a))
  at_call1 s a = ap of (sym (rolls-Call1 s a)) ∙ fold-roll-Expr A step (layer.Call1 s a)

  pub at_call2 : (s : Source) (a b : Expr) → of (e.Call2 s a b) ≡ step (layer.Call2 s (of a) (of b))
  at_call2 s a b = ap of (sym (rolls-Call2 s a b)) ∙ fold-roll-Expr A step (layer.Call2 s a b)
