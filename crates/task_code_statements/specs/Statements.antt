-- What appended code does of a statement, whatever its instructions are. This project's own.
use Rattle.std.specs.Prelude.{ℕ, ◌≡◌, false, List}
use Rattle.rv_insn.specs.declared.instructions.Insn.{Insn}
use Rattle.halide_pipeline.specs.Pixel.{Planes}
use Rattle.loop_ir.specs.declared.expressions.Counter.{Counter}
use Rattle.loop_ir.specs.declared.statements.LoopKind.{LoopKind}
use Rattle.loop_ir.specs.declared.statements.Stmt.{Stmt}
use Rattle.loop_ir.specs.declared.statements.Stmt.TheVariants as statements
use Rattle.loop_ir.specs.Counters.{Values}
use Rattle.loop_ir.specs.LoopLanes.{is_vectorized}
use Rattle.loop_ir.specs.Running.{run}
use Rattle.task_code_scalar.specs.declared.layouts.Places.{Places}
use Rattle.task_code_scalar.specs.Doing.{Setting, IsSetting, HoldsFuncs, stored_points}
use Rattle.task_code_scalar.specs.Words.{Emits}
use Rattle.task_code_registers.specs.declared.scopes.Held.{Held}
use Rattle.task_code_registers.specs.Doing.{Did}
use Rattle.task_code_registers.specs.Scopes.{Knows, AreHolders, IsKept}
use Rattle.task_code_vector_loops.specs.AtOnce.{MayRun}
use Rattle.task_code_vector_loops.specs.Naming.{AreNamed}

-- Appended code does a statement, wherever registers hold the scope's forms and something is so of loop variables and names, and keeps these
-- registers. What the statement does depends on no name. How many turns it takes depends on the values of loop variables and names alone.
pub record EmitsStatement (old new : List ℕ) (places : Places) (scope : List Held) (is_so : Values → Type 0) (statement : Stmt) : Type 0 where
  pub insns : List Insn
  pub emits : Emits old new insns
  pub turns : Values → ℕ
  pub does : (setting : Setting) → IsSetting setting → setting.places ≡ places → (values named : Values) → AreNamed values named → AreHolders scope
      → is_so named → MayRun setting statement values
      → (f : ℕ → ℕ) (memory : List ℕ) (funcs : Planes) → HoldsFuncs setting memory funcs → Knows setting.world.hart scope named f
      → Did setting insns (turns named) f memory (IsKept scope) (run setting.points setting.inputs statement values funcs) (stored_points setting statement values funcs)

-- so it is of a loop that isn't vectorized, of whichever kind it is
abbrev pub EmitsLoop : List ℕ → List ℕ → Places → List Held → (Values → Type 0) → Counter → ℕ → Stmt → Type 0
EmitsLoop old new places scope is_so counter count body =
    (kind : LoopKind) → is_vectorized kind ≡ false → EmitsStatement old new places scope is_so (statements.For counter count kind body)
