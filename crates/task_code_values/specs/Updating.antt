-- What appended code makes of a pixel that was loaded, whatever its instructions are. This project's own.
use Rattle.std.specs.Prelude.{◌≡◌, ◌<◌, ◌≤◌, ℕ, ◌+◌, ◌^◌, List, length}
use Rattle.std.specs.List.{AllByRecursion}
use Rattle.rv_insn.specs.declared.instructions.Insn.{Insn}
use Rattle.halide_pipeline.specs.declared.expressions.Operation.{Operation}
use Rattle.halide_pipeline.specs.Pixel.{Reads}
use Rattle.halide_pipeline.specs.Words as word
use Rattle.loop_ir.specs.declared.expressions.Expr.{Expr}
use Rattle.loop_ir.specs.Counters.{Values}
use Rattle.loop_ir.specs.Expressions.{value, loads}
use Rattle.loop_ir.specs.Sizes.{size}
use Rattle.multi_hart_laws.specs.Alone.{World}
use Rattle.task_code_scalar.specs.declared.layouts.Places.{Places}
use Rattle.task_code_scalar.specs.Evaluation.{Loads}
use Rattle.task_code_scalar.specs.Words.{Emits}
use Rattle.task_code_registers.specs.declared.scopes.Held.{Held}
use Rattle.task_code_registers.specs.Scopes.{Knows, AreHolders}
use Rattle.task_code_values.specs.Making.{Leaves}
use Rattle.task_code_values.specs.Spilling.{second_value}

-- The second value becomes what an operation makes of it and of an expression, wherever the scope's registers hold their forms and memory what
-- is loaded.
pub record Changes (old new : List ℕ) (places : Places) (scope : List Held) (operation : Operation) (other : Expr) : Type 0 where
  pub insns : List Insn
  pub emits : Emits old new insns
  pub short : length insns ≤ size other + 4
  pub does : (world : World) (memory : List ℕ) (values : Values) (reads : Reads) (f : ℕ → ℕ) → length memory ≡ world.size → AreHolders scope
      → Knows world.hart scope values f → AllByRecursion (Loads world places memory reads) (loads reads values other) → f second_value < 2 ^ 32
      → Leaves world memory insns f second_value second_value (word.applied operation (f second_value) (value reads values other))
