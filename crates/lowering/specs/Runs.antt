-- Runs of a vectorized stage: what the stage stores while its vectorized loop takes all its values, guards obeyed, and its other loops stay.
--
-- The innermost loop alone of a stage that is accepted may be vectorized.
-- This project's own.
use Rattle.std.specs.Prelude.{◌≡◌, ◌<◌, ℕ, ◌&&◌, Bool, true, List}
use Rattle.std.specs.List.{Contains, list_any}
use Rattle.halide_pipeline.specs.Pixel.{Reads}
use Rattle.schedule_lines.specs.declared.stages.Stage.{Stage}
use Rattle.schedule_loops.specs.declared.extents.Extents.{Extents}
use Rattle.schedule_loops.specs.Visits as loops
use Rattle.schedule_loops.specs.Visits.{counts, Visit, is_slice}
use Rattle.schedule_loops.specs.Runs.{AreIterations, is_vectorized_first, outside_innermost, run_of, runs, are_iterations}
use Rattle.loop_ir.specs.declared.statements.Phase.{Phase}
use Rattle.loop_ir.specs.Counters.{Values}
use Rattle.loop_ir.specs.Runs.{stores_in_runs}
use Rattle.loop_ir.specs.Running.{task_values}
use Rattle.lowering_nests.specs.Nests.{loops_of}

-- The run visits the point, while the other loops of the Func at a place are in the iterations that counters stand at, and these are iterations of theirs.
abbrev pub is_in_run : Extents → Stage → ℕ → ℕ → ℕ → Values → Bool
is_in_run extents stage func_index x y values =
    are_iterations (counts extents stage.splits) (outside_innermost stage.loops) (loops_of func_index values)
    && list_any (is_slice x y) (run_of extents stage (loops_of func_index values))

-- Where the stage of the Func at a place is vectorized, each task of the phase stores points of the Func in vectorized loops of the Func alone,
-- and each run of such a loop stores exactly at the points that the stage visits in the run, while its other loops are in some of their iterations, however
-- loads are answered.
abbrev pub StoresInRuns : ℕ → Extents → Stage → Phase → Type 0
StoresInRuns func_index extents stage phase =
    is_vectorized_first stage.loops ≡ true → (task : ℕ) → task < phase.tasks → (reads : Reads) (x y : ℕ)
    → stores_in_runs reads func_index x y (is_in_run extents stage func_index x y) phase.body (task_values phase.counter task) ≡ true

-- ---- law

-- It is what the stage visits in some iterations of its other loops.
pub record IsRunOf (extents : Extents) (stage : Stage) (visits : List Visit) : Type 0 where
  pub iterations : loops.Values
  pub are : AreIterations (counts extents stage.splits) (outside_innermost stage.loops) iterations
  pub is : visits ≡ run_of extents stage iterations

-- The list of runs has those of all iterations of the stage's other loops, and no others.
abbrev pub RunsAreListed : Type 0
RunsAreListed = (extents : Extents) (stage : Stage)
    → ((iterations : loops.Values) → are_iterations (counts extents stage.splits) (outside_innermost stage.loops) iterations ≡ true
    → Contains (runs extents stage) (run_of extents stage iterations))
    × ((visits : List Visit) → Contains (runs extents stage) visits → IsRunOf extents stage visits)
