-- How many counters stand around the innermost store of a statement.
-- This project's own.
use Rattle.std.specs.Prelude.{ℕ, suc, ◌+◌, max, Option, Some, None}
use Rattle.loop_ir.specs.declared.expressions.Counter.{Counter}
use Rattle.loop_ir.specs.declared.statements.Phase.{Phase}
use Rattle.loop_ir.specs.declared.statements.Stmt.{Stmt, fold-Stmt}
use Rattle.loop_ir.specs.declared.statements.Stmt.TheOpen.{Stmt-F}
use Rattle.loop_ir.specs.declared.statements.Stmt.TheOpen as layer

abbrev pub depth_at : Stmt-F ℕ → ℕ
depth_at (layer.Store store) = 0
depth_at (layer.Sequence first second) = max first second
depth_at (layer.For counter count kind body) = suc body
depth_at (layer.Bind counter whole extent body) = suc body

unfoldable pub depth : Stmt → ℕ
depth statement = fold-Stmt ℕ depth_at statement

abbrev pub count_of : Option Counter → ℕ
count_of None = 0
count_of (Some counter) = 1

-- the task's own among them
abbrev pub task_depth : Phase → ℕ
task_depth phase = count_of phase.counter + depth phase.body
