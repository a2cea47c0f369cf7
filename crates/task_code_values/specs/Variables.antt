-- Which loop variables an expression asks for. This project's own.
use Rattle.std.specs.Prelude.{Bool, true, ◌&&◌, List}
use Rattle.loop_ir.specs.declared.expressions.Expr.{Expr, fold-Expr}
use Rattle.loop_ir.specs.declared.expressions.Expr.TheOpen.{Expr-F}
use Rattle.loop_ir.specs.declared.expressions.Expr.TheOpen as layer
use Rattle.task_code_registers.specs.declared.scopes.Held.{Held}
use Rattle.task_code_registers.specs.Scopes.{have_registers}

abbrev pub are_held_at : List Held → Expr-F Bool → Bool
are_held_at scope (layer.Number n) = true
are_held_at scope (layer.Linear own) = have_registers scope own.terms
are_held_at scope (layer.Binary operation a b) = a && b
are_held_at scope (layer.Divide a c) = a
are_held_at scope (layer.Remainder a c) = a
are_held_at scope (layer.Select c a b) = c && (a && b)
are_held_at scope (layer.Load source x y) = x && y

-- each loop variable of its sums has a register of its own
unfoldable pub are_held : List Held → Expr → Bool
are_held scope e = fold-Expr Bool (are_held_at scope) e
