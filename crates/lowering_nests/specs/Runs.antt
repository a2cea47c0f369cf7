-- Runs of the vectorized loops of a Func's stage: what a loop around a body does to where the Func's points are stored.
-- This project's own.
use Rattle.std.specs.Prelude.{◌≡◌, ℕ, not, Bool, true, false}
use Rattle.halide_pipeline.specs.Pixel.{Reads}
use Rattle.schedule_lines.specs.declared.stages.Loop.{Loop}
use Rattle.schedule_loops.specs.Visits as loops
use Rattle.loop_ir.specs.declared.statements.Stmt.{Stmt}
use Rattle.loop_ir.specs.Counters.{Values, with}
use Rattle.loop_ir.specs.LoopLanes.{all_but, all_points}
use Rattle.loop_ir.specs.Runs.{are_same, point_of, stores_in_runs}
use Rattle.loop_ir.specs.Soundness.{every, is_sound}
use Rattle.schedule_loops.specs.Runs.{is_vectorized_loop}

-- A loop of the Func around a body: where it isn't vectorized, the body stores in runs in each of its iterations; else a point is stored by the run
-- exactly if some lane stores there.
pub record RunsAround (func : ℕ) (counts : loops.Values) (stage_loop : Loop) (body statement : Stmt) : Type 0 where
  pub plain : is_vectorized_loop stage_loop ≡ false → (reads : Reads) (x y : ℕ) (expected : Values
      → Bool) (values : Values)
      → stores_in_runs reads func x y expected statement values ≡ every (counts stage_loop.id) (λ iteration. stores_in_runs reads func x y expected body
      (with (record { func = func; id = stage_loop.id }) iteration values))
  pub vector : is_vectorized_loop stage_loop ≡ true → (reads : Reads) (x y : ℕ) (expected : Values
      → Bool) (values : Values)
      → stores_in_runs reads func x y expected statement values
      ≡ are_same (every (counts stage_loop.id) (λ lane. is_sound reads (all_but (point_of func x y)) all_points body (with (record { func = func; id = stage_loop.id }) lane
      values))) (not (expected values))
