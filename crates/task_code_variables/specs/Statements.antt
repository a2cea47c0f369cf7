-- What appended code does of a statement, where registers hold the variables of the loops around it; how many words it has, and when there is none.
-- This project's own.
use Rattle.std.specs.Prelude.{◌≡◌, ◌≤◌, ℕ, ◌^◌, false, List, length}
use Rattle.rv_insn.specs.declared.instructions.Insn.{Insn}
use Rattle.halide_pipeline.specs.Pixel.{Planes}
use Rattle.loop_ir.specs.declared.expressions.Counter.{Counter}
use Rattle.loop_ir.specs.declared.statements.LoopKind.{LoopKind}
use Rattle.loop_ir.specs.declared.statements.Stmt.{Stmt}
use Rattle.loop_ir.specs.declared.statements.Stmt.TheVariants as statements
use Rattle.loop_ir.specs.Counters.{Values}
use Rattle.loop_ir.specs.Depths.{depth}
use Rattle.loop_ir.specs.Needs.{greatest_need}
use Rattle.loop_ir.specs.LoopLanes.{is_vectorized}
use Rattle.loop_ir.specs.Running.{run}
use Rattle.loop_ir.specs.Sizes.{whole_size}
use Rattle.task_code_scalar.specs.declared.CodeFault.{CodeFault}
use Rattle.task_code_scalar.specs.declared.layouts.Places.{Places}
use Rattle.task_code_scalar.specs.Doing.{Setting, IsSetting, HoldsFuncs, stored_points}
use Rattle.task_code_scalar.specs.Faults.{IsFault, LieLow, HasRoom}
use Rattle.task_code_scalar.specs.Words.{Emits}
use Rattle.task_code_registers.specs.declared.scopes.Held.{Held}
use Rattle.task_code_registers.specs.Doing.{Did}
use Rattle.task_code_registers.specs.Scopes.{Knows, AreHolders, IsKept, left_count}
use Rattle.task_code_statements.specs.AtOnce.{MayRun}
use Rattle.task_code_variables.specs.Renaming.{StandFor}

-- Appended code does a statement, wherever registers hold the scope's forms and numbered variables stand for those of the loops around, and keeps
-- these registers. It has no more words than the statement asks for; how many turns it takes depends on the values of loop variables alone.
pub record AppendsStatement (old new : List ℕ) (places : Places) (scope : List Held) (around : List Counter) (statement : Stmt) : Type 0 where
  pub insns : List Insn
  pub emits : Emits old new insns
  pub short : length insns ≤ whole_size statement
  pub turns : Values → ℕ
  pub does : (setting : Setting) → IsSetting setting → setting.places ≡ places → (values numbers : Values) → StandFor around values numbers → AreHolders scope
      → MayRun setting statement values
      → (f : ℕ → ℕ) (memory : List ℕ) (funcs : Planes) → HoldsFuncs setting memory funcs → Knows setting.world.hart scope numbers f
      → Did setting insns (turns numbers) f memory (IsKept scope) (run setting.points setting.inputs statement values funcs) (stored_points setting statement values funcs)

-- so it is of a loop that isn't vectorized, of whichever kind it is
abbrev pub AppendsLoop : List ℕ → List ℕ → Places → List Held → List Counter → Counter → ℕ → Stmt → Type 0
AppendsLoop old new places scope around counter count body =
    (kind : LoopKind) → is_vectorized kind ≡ false → AppendsStatement old new places scope around (statements.For counter count kind body)

-- ---- what fits

-- The stack or the hart's frame has room for each expression, and a register is left for each loop and each split loop's value.
pub record FitsStatement (places : Places) (scope : List Held) (statement : Stmt) : Type 0 where
  pub low : LieLow places.frames
  pub room : HasRoom places.frames (greatest_need statement) 0
  pub few : depth statement ≤ left_count scope

-- for each fault what is then
abbrev pub IsStatementFault : Places → List Held → Stmt → CodeFault → Type 0
IsStatementFault places scope statement = IsFault (2 ^ 18 ≤ whole_size statement) (FitsStatement places scope statement → ⊥)

abbrev pub IsLoopFault : Places → List Held → Counter → ℕ → Stmt → CodeFault → Type 0
IsLoopFault places scope counter count body fault =
    (kind : LoopKind) → is_vectorized kind ≡ false → IsStatementFault places scope (statements.For counter count kind body) fault
