-- Whether a statement stores at a point of a Func's buffer.
--
-- Which points it stores at may depend on what buffers hold, so the test goes along with the run.
-- This project's own.
use Rattle.std.specs.Prelude.{◌≡◌, ℕ, ◌==◌, ◌&&◌, ◌||◌, nat_lt, if◌then◌else◌, Bool, true, false}
use Rattle.halide_pipeline.specs.Pixel.{Planes, reads_of}
use Rattle.loop_ir.specs.declared.statements.Phase.{Phase}
use Rattle.loop_ir.specs.declared.statements.Stmt.{Stmt, fold-Stmt}
use Rattle.loop_ir.specs.declared.statements.Stmt.TheOpen.{Stmt-F}
use Rattle.loop_ir.specs.declared.statements.Stmt.TheOpen as layer
use Rattle.loop_ir.specs.Buffers.{Points}
use Rattle.loop_ir.specs.Counters.{Values, with}
use Rattle.loop_ir.specs.Expressions.{value}
use Rattle.loop_ir.specs.Running.{stored, iterated, whole_value, task_values, run}

-- what buffers hold so far, and whether any store so far was at the point
pub record Trace : Type 0 where
  pub funcs : Planes
  pub is_stored : Bool

abbrev pub trace_at : Points → Planes → ℕ → ℕ → ℕ → Stmt-F (Values → Trace → Trace) → Values → Trace → Trace
trace_at points inputs func x y (layer.Store store) values so_far = record {
  funcs = stored points (reads_of inputs so_far.funcs) store values so_far.funcs;
  is_stored = so_far.is_stored
      || (store.func == func && (value (reads_of inputs so_far.funcs) values store.x == x && value (reads_of inputs so_far.funcs) values store.y == y));
}
trace_at points inputs func x y (layer.Sequence first second) values so_far = second values (first values so_far)
trace_at points inputs func x y (layer.For counter count kind body) values so_far = iterated count (λ iteration. body (with counter iteration values)) so_far
trace_at points inputs func x y (layer.Bind counter whole extent body) values so_far =
    if nat_lt (whole_value whole values) extent then body (with counter (whole_value whole values) values) so_far else so_far

unfoldable pub trace : Points → Planes → ℕ → ℕ → ℕ → Stmt → Values → Trace → Trace
trace points inputs func x y statement = fold-Stmt (Values → Trace → Trace) (trace_at points inputs func x y) statement

-- Its run, from buffers that hold this, stores at the point.
abbrev pub is_stored_by : Points → Planes → ℕ → ℕ → ℕ → Stmt → Values → Planes → Bool
is_stored_by points inputs func x y statement values funcs =
    (trace points inputs func x y statement values (record { funcs = funcs; is_stored = false })).is_stored

-- one task of a phase does
abbrev pub is_stored_by_task : Points → Planes → Phase → ℕ → ℕ → ℕ → ℕ → Planes → Bool
is_stored_by_task points inputs phase task func x y funcs = is_stored_by points inputs func x y phase.body (task_values phase.counter task) funcs

-- ---- laws

-- What buffers hold so far is what the run leaves.
abbrev pub TracesFollowRuns : Type 0
TracesFollowRuns = (points : Points) (inputs : Planes) (func x y : ℕ) (statement : Stmt) (values : Values) (so_far : Trace)
    → (trace points inputs func x y statement values so_far).funcs ≡ run points inputs statement values so_far.funcs

-- What is stored stays so.
abbrev pub StoredStaysStored : Type 0
StoredStaysStored = (points : Points) (inputs : Planes) (func x y : ℕ) (statement : Stmt) (values : Values) (so_far : Trace)
    → so_far.is_stored ≡ true → (trace points inputs func x y statement values so_far).is_stored ≡ true

-- A point at which nothing is stored holds what it held.
abbrev pub OtherPointsStay : Type 0
OtherPointsStay = (points : Points) (inputs : Planes) (func x y : ℕ) (statement : Stmt) (values : Values) (funcs : Planes)
    → is_stored_by points inputs func x y statement values funcs ≡ false → run points inputs statement values funcs func x y ≡ funcs func x y
