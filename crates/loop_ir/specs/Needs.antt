-- How many registers the expressions of a statement need at once, wherever they are computed on a stack of registers.
-- This project's own.
use Rattle.std.specs.Prelude.{ℕ, ◌+◌, ◌==◌, ◌^◌, Bool, true, false, max, if◌then◌else◌}
use Rattle.loop_ir.specs.declared.expressions.Expr.{Expr, fold-Expr}
use Rattle.loop_ir.specs.declared.expressions.Expr.TheOpen.{Expr-F}
use Rattle.loop_ir.specs.declared.expressions.Expr.TheOpen as layer
use Rattle.loop_ir.specs.declared.statements.Store.{Store}
use Rattle.loop_ir.specs.declared.statements.Stmt.{Stmt, fold-Stmt}
use Rattle.loop_ir.specs.declared.statements.Stmt.TheOpen.{Stmt-F}
use Rattle.loop_ir.specs.declared.statements.Stmt.TheOpen as parts

-- ---- expressions

-- whether an expression is a number or a sum of counters, and how many registers it needs
pub record Need : Type 0 where
  pub is_leaf : Bool
  pub count : ℕ

abbrev pub leaf : Need
leaf = record { is_leaf = true; count = 1 }

abbrev pub of_parts : ℕ → Need
of_parts count = record { is_leaf = false; count = count }

-- A second operand waits for the first, but a leaf needs no register beside it.
abbrev pub beside_first : Need → ℕ
beside_first own_need = if own_need.is_leaf then 0 else 1 + own_need.count

-- A divisor is a second operand. No registers suffice for a quotient by 0.
abbrev pub divisor_need : ℕ → ℕ
divisor_need divisor = if divisor == 0 then 2 ^ 32 else 2

abbrev pub need_at : Expr-F Need → Need
need_at (layer.Number n) = leaf
need_at (layer.Linear own) = leaf
need_at (layer.Binary operation a b) = of_parts (max a.count (beside_first b))
need_at (layer.Divide a c) = of_parts (max a.count (divisor_need c))
need_at (layer.Remainder a c) = of_parts (max a.count (divisor_need c))
need_at (layer.Select c a b) = of_parts (max c.count (max (1 + a.count) (2 + b.count)))
need_at (layer.Load source x y) = of_parts (max x.count (beside_first y))

unfoldable pub need_of : Expr → Need
need_of e = fold-Expr Need need_at e

abbrev pub need : Expr → ℕ
need e = (need_of e).count

-- ---- statements

abbrev pub store_need : Store → ℕ
store_need store = max (need store.x) (max (need store.y) (need store.value))

abbrev pub greatest_at : Stmt-F ℕ → ℕ
greatest_at (parts.Store store) = store_need store
greatest_at (parts.Sequence first second) = max first second
greatest_at (parts.For counter count kind body) = body
greatest_at (parts.Bind counter whole extent body) = body

-- the greatest need of any of a statement's expressions
unfoldable pub greatest_need : Stmt → ℕ
greatest_need statement = fold-Stmt ℕ greatest_at statement
