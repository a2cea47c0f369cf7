-- How many nodes an expression has, how many brackets it needs, and which variables it uses. `Expr-F` is one level of an expression, as
-- `out-Expr` opens it, with something in place of each part.
-- This project's own.
use Rattle.std.specs.Prelude.{ℕ, ◌+◌, max, nat_le, Bool, true, false, ◌||◌, if◌then◌else◌}
use Rattle.halide_pipeline.specs.declared.expressions.Variable.{Variable}
use Rattle.halide_pipeline.specs.declared.expressions.Variable.TheVariants as variables
use Rattle.halide_pipeline.specs.declared.expressions.Operation.{Operation}
use Rattle.halide_pipeline.specs.declared.expressions.Operation.TheVariants as op
use Rattle.halide_pipeline.specs.declared.expressions.Expr.{Expr, out-Expr, fold-Expr}
use Rattle.halide_pipeline.specs.declared.expressions.Expr.TheOpen.{Expr-F}
use Rattle.halide_pipeline.specs.declared.expressions.Expr.TheOpen as layer

abbrev pub same_variable : Variable → Variable → Bool
same_variable variables.FirstArgument variables.FirstArgument = true
same_variable variables.SecondArgument variables.SecondArgument = true
same_variable variables.FirstReduction variables.FirstReduction = true
same_variable variables.SecondReduction variables.SecondReduction = true
same_variable _ _ = false

abbrev pub is_variable_at : Variable → Expr-F Expr → Bool
is_variable_at v (layer.Variable own) = same_variable own v
is_variable_at v _ = false

-- the variable alone
abbrev pub is_variable : Variable → Expr → Bool
is_variable v e = is_variable_at v (out-Expr e)

abbrev pub uses_at : Variable → Expr-F Bool → Bool
uses_at v (layer.Number n) = false
uses_at v (layer.Variable own) = same_variable own v
uses_at v (layer.Binary op a b) = a || b
uses_at v (layer.Divide a c) = a
uses_at v (layer.Remainder a c) = a
uses_at v (layer.Select c a b) = c || a || b
uses_at v (layer.Call1 s a) = a
uses_at v (layer.Call2 s a b) = a || b

-- the variable anywhere
unfoldable pub uses : Variable → Expr → Bool
uses v e = fold-Expr Bool (uses_at v) e

abbrev pub nodes_at : Expr-F ℕ → ℕ
nodes_at (layer.Number n) = 1
nodes_at (layer.Variable own) = 1
nodes_at (layer.Binary op a b) = 1 + a + b
nodes_at (layer.Divide a c) = 2 + a
nodes_at (layer.Remainder a c) = 2 + a
nodes_at (layer.Select c a b) = 1 + c + a + b
nodes_at (layer.Call1 s a) = 1 + a
nodes_at (layer.Call2 s a b) = 1 + a + b

-- Each number, variable, operation, select and call counts 1; so does a divisor. It is the size of an expression wherever one is asked for: a
-- clamp is its minimum and maximum here, and `-a` is `0 - a`.
unfoldable pub nodes : Expr → ℕ
nodes e = fold-Expr ℕ nodes_at e

-- ---- brackets

-- What the spelling of an expression with the fewest brackets has: those around the place with the most of them; the level of its
-- operator, 0 a factor, 1 a term, 2 a sum, 3 a comparison; and where it is a maximum, those inside its own bracket, since the minimum of a
-- maximum may be written as one clamp.
pub record Brackets : Type 0 where
  pub around : ℕ
  pub level : ℕ
  pub inside : ℕ

abbrev pub bracketed : ℕ → ℕ → Brackets
bracketed level around = record { around = around; level = level; inside = around }

-- with one more bracket, where the operator binds less tightly than at this level
abbrev pub within : ℕ → Brackets → ℕ
within level part = if nat_le part.level level then part.around else part.around + 1

abbrev pub operation_brackets : Operation → Brackets → Brackets → Brackets
operation_brackets op.Add a b = bracketed 2 (max (within 2 a) (within 1 b))
operation_brackets op.Subtract a b = bracketed 2 (max (within 2 a) (within 1 b))
operation_brackets op.Multiply a b = bracketed 1 (max (within 1 a) (within 0 b))
operation_brackets op.Minimum a b = bracketed 0 (max a.inside b.around + 1)
operation_brackets op.Maximum a b = record { around = max a.around b.around + 1; level = 0; inside = max a.around b.around }
operation_brackets _ a b = bracketed 3 (max (within 2 a) (within 2 b))

abbrev pub brackets_at : Expr-F Brackets → Brackets
brackets_at (layer.Number n) = bracketed 0 0
brackets_at (layer.Variable own) = bracketed 0 0
brackets_at (layer.Binary operation a b) = operation_brackets operation a b
brackets_at (layer.Divide a c) = bracketed 1 (within 1 a)
brackets_at (layer.Remainder a c) = bracketed 1 (within 1 a)
brackets_at (layer.Select c a b) = bracketed 0 (max c.around (max a.around b.around) + 1)
brackets_at (layer.Call1 s a) = bracketed 0 (a.around + 1)
brackets_at (layer.Call2 s a b) = bracketed 0 (max a.around b.around + 1)

unfoldable pub brackets : Expr → Brackets
brackets e = fold-Expr Brackets brackets_at e
