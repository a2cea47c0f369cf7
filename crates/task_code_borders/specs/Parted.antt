-- Statements whose loops are in parts. This project's own.
use Rattle.std.specs.Prelude.{◌≡◌, ℕ, ◌+◌, Bool}
use Rattle.halide_pipeline.specs.Pixel.{Planes, Reads}
use Rattle.halide_pipeline.specs.Points.{Point}
use Rattle.loop_ir.specs.declared.expressions.Counter.{Counter}
use Rattle.loop_ir.specs.declared.statements.Stmt.{Stmt}
use Rattle.loop_ir.specs.Buffers.{Points}
use Rattle.loop_ir.specs.Counters.{Values, with}
use Rattle.loop_ir.specs.LoopLanes.{may_be_at_once}
use Rattle.loop_ir.specs.Running.{run, iterated}
use Rattle.loop_ir.specs.Runs.{stores_in_runs}
use Rattle.loop_ir.specs.Soundness.{every, is_sound}
use Rattle.loop_ir.specs.Stores.{trace}
use Rattle.task_code_borders.specs.Borders.{AreNumbers, of_stages}

-- Wherever numbers stand as they do, a statement does what another one does at the values of stages' variables, stores where that does, and is asked
-- for the same.
pub record IsParted (statement new_statement : Stmt) : Type 0 where
  pub runs : (points : Points) (inputs : Planes) (values : Values) → AreNumbers values
      → run points inputs new_statement values ≡ run points inputs statement (of_stages values)
  pub traces : (points : Points) (inputs : Planes) (func x y : ℕ) (values : Values) → AreNumbers values
      → trace points inputs func x y new_statement values ≡ trace points inputs func x y statement (of_stages values)
  pub sound : (reads : Reads) (written : Points) (loaded : Point → Bool) (values : Values) → AreNumbers values
      → is_sound reads written loaded new_statement values ≡ is_sound reads written loaded statement (of_stages values)
  pub at_once : (reads : Reads) (values : Values) → AreNumbers values → may_be_at_once reads new_statement values ≡ may_be_at_once reads statement (of_stages values)
  pub in_runs : (reads : Reads) (func x y : ℕ) (expected : Values → Bool) (values : Values) → AreNumbers values
      → stores_in_runs reads func x y (λ at. expected (of_stages at)) new_statement values ≡ stores_in_runs reads func x y expected statement (of_stages values)

-- So it does of this many iterations of a serial loop around a body, from one on.
pub record DoesIterations (counter : Counter) (from count : ℕ) (body statement : Stmt) : Type 0 where
  pub runs : (points : Points) (inputs : Planes) (values : Values) → AreNumbers values
      → run points inputs statement values ≡ iterated count (λ i. run points inputs body (with counter (from + i) (of_stages values)))
  pub traces : (points : Points) (inputs : Planes) (func x y : ℕ) (values : Values) → AreNumbers values
      → trace points inputs func x y statement values ≡ iterated count (λ i. trace points inputs func x y body (with counter (from + i) (of_stages values)))
  pub sound : (reads : Reads) (written : Points) (loaded : Point → Bool) (values : Values) → AreNumbers values
      → is_sound reads written loaded statement values ≡ every count (λ i. is_sound reads written loaded body (with counter (from + i) (of_stages values)))
  pub at_once : (reads : Reads) (values : Values) → AreNumbers values
      → may_be_at_once reads statement values ≡ every count (λ i. may_be_at_once reads body (with counter (from + i) (of_stages values)))
  pub in_runs : (reads : Reads) (func x y : ℕ) (expected : Values → Bool) (values : Values) → AreNumbers values
      → stores_in_runs reads func x y (λ at. expected (of_stages at)) statement values
      ≡ every count (λ i. stores_in_runs reads func x y expected body (with counter (from + i) (of_stages values)))
