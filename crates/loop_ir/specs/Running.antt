-- What a statement and a phase do to the Funcs' buffers, where the inputs hold this. A store at a point that its buffer hasn't does nothing.
-- This project's own.
use Rattle.std.specs.Prelude.{ℕ, zero, suc, min, nat_lt, if◌then◌else◌, Option, Some, None}
use Rattle.halide_pipeline.specs.Words as word
use Rattle.halide_pipeline.specs.Pixel.{Planes, Reads, reads_of}
use Rattle.loop_ir.specs.declared.expressions.Counter.{Counter}
use Rattle.loop_ir.specs.declared.statements.Phase.{Phase}
use Rattle.loop_ir.specs.declared.statements.Store.{Store}
use Rattle.loop_ir.specs.declared.statements.Stmt.{Stmt, fold-Stmt}
use Rattle.loop_ir.specs.declared.statements.Stmt.TheOpen.{Stmt-F}
use Rattle.loop_ir.specs.declared.statements.Stmt.TheOpen as layer
use Rattle.loop_ir.specs.declared.statements.Whole.{Whole}
use Rattle.loop_ir.specs.Buffers.{Points, put}
use Rattle.loop_ir.specs.Counters.{Values, no_values, with}
use Rattle.loop_ir.specs.Expressions.{value}

-- at most so much, where there is a bound
abbrev pub at_most : Option ℕ → ℕ → ℕ
at_most None n = n
at_most (Some last) n = min n last

-- the value of a split loop
abbrev pub whole_value : Whole → Values → ℕ
whole_value whole values =
    word.add (at_most whole.last (word.multiply (values whole.outer) whole.factor)) (values whole.inner)

-- the iterations 0 to n - 1, one after the other
unfoldable pub iterated : {A : Type 0} → ℕ → (ℕ → A → A) → A → A
iterated zero one start = start
iterated (suc n) one start = one n (iterated n one start)

abbrev pub stored : Points → Reads → Store → Values → Planes → Planes
stored points reads store values funcs =
    put points store.func (value reads values store.x) (value reads values store.y) (value reads values store.value) funcs

abbrev pub run_at : Points → Planes → Stmt-F (Values → Planes → Planes) → Values → Planes → Planes
run_at points inputs (layer.Store store) values funcs = stored points (reads_of inputs funcs) store values funcs
run_at points inputs (layer.Sequence first second) values funcs = second values (first values funcs)
run_at points inputs (layer.For counter count kind body) values funcs = iterated count (λ iteration. body (with counter iteration values)) funcs
run_at points inputs (layer.Bind counter whole extent body) values funcs =
    if nat_lt (whole_value whole values) extent then body (with counter (whole_value whole values) values) funcs else funcs

unfoldable pub run : Points → Planes → Stmt → Values → Planes → Planes
run points inputs statement = fold-Stmt (Values → Planes → Planes) (run_at points inputs) statement

-- what counters stand at before a task: the phase's counter, if it has one, at the task's number
abbrev pub task_values : Option Counter → ℕ → Values
task_values None task = no_values
task_values (Some counter) task = with counter task no_values

-- one task of a phase
abbrev pub run_task : Points → Planes → Phase → ℕ → Planes → Planes
run_task points inputs phase task funcs = run points inputs phase.body (task_values phase.counter task) funcs

-- all its tasks, in rising order
abbrev pub run_phase : Points → Planes → Phase → Planes → Planes
run_phase points inputs phase funcs = iterated phase.tasks (run_task points inputs phase) funcs
