-- What one loop around a body does, wherever the tests stand that it doesn't change.
-- This project's own.
use Rattle.std.specs.Prelude.{◌≡◌, ◌&&◌, ℕ, suc, not, Bool}
use Rattle.halide_pipeline.specs.Pixel.{Planes, Reads}
use Rattle.halide_pipeline.specs.Points.{Point}
use Rattle.loop_ir.specs.declared.expressions.Counter.{Counter}
use Rattle.loop_ir.specs.declared.statements.LoopKind.{LoopKind}
use Rattle.loop_ir.specs.declared.statements.Stmt.{Stmt}
use Rattle.loop_ir.specs.declared.statements.Stmt.TheOpen as layer
use Rattle.loop_ir.specs.declared.statements.Whole.{Whole}
use Rattle.loop_ir.specs.Buffers.{Points}
use Rattle.loop_ir.specs.Counters.{Values, same_counter, with}
use Rattle.loop_ir.specs.Depths.{depth}
use Rattle.loop_ir.specs.Needs.{greatest_need}
use Rattle.loop_ir.specs.LoopLanes.{at_once_at, may_be_at_once, loop_lanes}
use Rattle.loop_ir.specs.Running.{run, iterated}
use Rattle.loop_ir.specs.Runs.{is_about, is_about_at}
use Rattle.loop_ir.specs.Runs as stored
use Rattle.loop_ir.specs.Sizes.{is_laid_out, loop_room, whole_size}
use Rattle.loop_ir.specs.Soundness.{every, is_sound}
use Rattle.loop_ir.specs.Stores.{Trace, trace}

-- The value that a split loop's variable is given doesn't depend on a loop's iteration, and the loop's variable isn't given it.
abbrev pub is_loop_invariant : Counter → Counter → Whole → Bool
is_loop_invariant counter loop_counter whole = not (same_counter whole.outer counter) && (not (same_counter whole.inner counter) && not (same_counter loop_counter counter))

-- It does what a loop of this many iterations around the body does, stores where that does, and asks for as much.
pub record Loops (counter : Counter) (count : ℕ) (kind : LoopKind) (body statement : Stmt) : Type 0 where
  pub runs : (points : Points) (inputs : Planes) (values : Values) (funcs : Planes)
      → run points inputs statement values funcs ≡ iterated count (λ iteration. run points inputs body (with counter iteration values)) funcs
  pub traces : (points : Points) (inputs : Planes) (func_index x y : ℕ) (values : Values) (so_far : Trace)
      → trace points inputs func_index x y statement values so_far ≡ iterated count (λ iteration. trace points inputs func_index x y body (with counter iteration values)) so_far
  pub sound : (reads : Reads) (written : Points) (loaded : Point → Bool) (values : Values)
      → is_sound reads written loaded statement values ≡ every count (λ iteration. is_sound reads written loaded body (with counter iteration values))
  pub depth : depth statement ≡ suc (depth body)
  pub needs : greatest_need statement ≡ greatest_need body
  pub sizes : whole_size statement ≡ loop_room (is_laid_out kind) count (whole_size body)
  pub at_once : (reads : Reads) (values : Values)
      → may_be_at_once reads statement values ≡ at_once_at (layer.For counter count kind (loop_lanes reads body)) values
  pub about : (func_index : ℕ) → is_about func_index statement ≡ is_about_at func_index
      (layer.For counter count kind (is_about func_index body))
  pub in_runs : (reads : Reads) (func_index x y : ℕ) (expected : Values → Bool)
      → stored.runs reads func_index x y expected statement
      ≡ stored.runs_at reads func_index x y expected (layer.For counter count kind (stored.runs reads func_index x y expected body))

-- It does what the body does, stores where that does, and asks for as much.
pub record AreAlike (body statement : Stmt) : Type 0 where
  pub runs : (points : Points) (inputs : Planes) (values : Values) (funcs : Planes) → run points inputs statement values funcs ≡ run points inputs body values funcs
  pub traces : (points : Points) (inputs : Planes) (func_index x y : ℕ) (values : Values) (so_far : Trace)
      → trace points inputs func_index x y statement values so_far ≡ trace points inputs func_index x y body values
      so_far
  pub sound : (reads : Reads) (written : Points) (loaded : Point → Bool) (values : Values)
      → is_sound reads written loaded statement values ≡ is_sound reads written loaded body values
  pub depth : depth statement ≡ depth body
  pub needs : greatest_need statement ≡ greatest_need body
  pub sizes : whole_size statement ≡ whole_size body
  pub at_once : (reads : Reads) (values : Values) → may_be_at_once reads statement values ≡ may_be_at_once reads body
      values
  pub about : (func_index : ℕ) → is_about func_index statement ≡ is_about func_index body
  pub in_runs : (reads : Reads) (func_index x y : ℕ) (expected : Values → Bool)
      → stored.runs reads func_index x y expected statement
      ≡ stored.runs reads func_index x y expected body
