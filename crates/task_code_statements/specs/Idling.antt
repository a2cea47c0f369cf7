-- Statements that are known to do nothing. This project's own.
use Rattle.std.specs.Prelude.{◌≡◌, ℕ, false}
use Rattle.halide_pipeline.specs.Pixel.{Planes}
use Rattle.loop_ir.specs.declared.statements.Stmt.{Stmt}
use Rattle.loop_ir.specs.Buffers.{Points}
use Rattle.loop_ir.specs.Counters.{Values}
use Rattle.loop_ir.specs.Running.{run}
use Rattle.loop_ir.specs.Stores.{is_stored_by}
use Rattle.task_code_vector_loops.specs.Naming.{AreNamed}
use Rattle.task_code_statements.specs.declared.contexts.Context.{Context}
use Rattle.task_code_statements.specs.Contexts.{Meets}

-- wherever the context holds, a statement leaves buffers as they are and stores nowhere
pub record IsIdle (context : Context) (statement : Stmt) : Type 0 where
  pub leaves : (points : Points) (inputs : Planes) (values named : Values) → AreNamed values named → Meets context named → (funcs : Planes)
      → run points inputs statement values funcs ≡ funcs
  pub stores : (points : Points) (inputs : Planes) (func x y : ℕ) (values named : Values) → AreNamed values named → Meets context named
      → (funcs : Planes) → is_stored_by points inputs func x y statement values funcs ≡ false
