-- What is asked of a statement that code does. This project's own.
use Rattle.std.specs.Prelude.{◌≡◌, true}
use Rattle.halide_pipeline.specs.Pixel.{Planes, reads_of}
use Rattle.loop_ir.specs.declared.statements.Stmt.{Stmt}
use Rattle.loop_ir.specs.Counters.{Values}
use Rattle.loop_ir.specs.LoopLanes.{may_be_at_once}
use Rattle.task_code_scalar.specs.Doing.{Setting, SoundIn, RunsIn}
use Rattle.task_code_scalar.specs.Layout.{AreWords}

-- the iterations of its vectorized loops may be done at once, whatever words buffers hold
abbrev pub AtOnceIn : Setting → Stmt → Values → Type 0
AtOnceIn setting statement values = (funcs : Planes) → AreWords funcs → may_be_at_once (reads_of setting.inputs funcs) statement values ≡ true

-- It writes and loads what it may, iterations of vectorized loops may be done at once, and points of Funcs that are stored in runs are stored by runs.
pub record MayRun (setting : Setting) (statement : Stmt) (values : Values) : Type 0 where
  pub sound : SoundIn setting statement values
  pub at_once : AtOnceIn setting statement values
  pub in_runs : RunsIn setting statement values
