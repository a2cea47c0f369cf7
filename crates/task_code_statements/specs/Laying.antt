-- Iterations that are laid out, each with code of its own. This project's own.
use Rattle.std.specs.Prelude.{ℕ, ◌≡◌, ◌<◌, false, List}
use Rattle.rv_insn.specs.declared.instructions.Insn.{Insn}
use Rattle.halide_pipeline.specs.Pixel.{Planes}
use Rattle.loop_ir.specs.declared.expressions.Counter.{Counter}
use Rattle.loop_ir.specs.declared.statements.Stmt.{Stmt}
use Rattle.loop_ir.specs.Buffers.{Points}
use Rattle.loop_ir.specs.Counters.{Values, with}
use Rattle.loop_ir.specs.Running.{run, iterated}
use Rattle.loop_ir.specs.Stores.{trace}
use Rattle.task_code_scalar.specs.declared.layouts.Places.{Places}
use Rattle.task_code_scalar.specs.Doing.{Setting, IsSetting}
use Rattle.task_code_scalar.specs.Words.{Emits}
use Rattle.task_code_registers.specs.declared.scopes.Held.{Held}
use Rattle.task_code_registers.specs.Scopes.{AreHolders}
use Rattle.task_code_loops.specs.Guarding.{DoesFirst}
use Rattle.task_code_vector_loops.specs.AtOnce.{MayRun}
use Rattle.task_code_vector_loops.specs.Naming.{AreNamed}

-- the points at which the first this many iterations store
abbrev pub stored_before : Setting → Counter → Stmt → Values → ℕ → Planes → Points
stored_before setting counter body values count funcs func x y =
    (iterated count (λ iteration. trace setting.points setting.inputs func x y body (with counter iteration values)) (record { funcs = funcs; is_stored = false })).is_stored

-- Appended code does a loop's first this many iterations, wherever registers hold the scope's forms and something is so of loop variables.
pub record LaysOut (old new : List ℕ) (places : Places) (scope : List Held) (is_so : Values
    → Type 0) (counter : Counter) (body : Stmt) (count : ℕ) : Type 0 where
  pub insns : List Insn
  pub emits : Emits old new insns
  pub turns : Values → ℕ
  pub does : (setting : Setting) → IsSetting setting → setting.places ≡ places → (values named : Values) → AreNamed values named → AreHolders scope
      → is_so named → ((i : ℕ) → i < count → MayRun setting body (with counter i values))
      → DoesFirst setting setting.world.hart scope named count insns (turns named)
      (λ i p. run setting.points setting.inputs body (with counter i values) p)
      (stored_before setting counter body values)
