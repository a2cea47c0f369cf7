-- Sums with names, and code that gives names their values. This project's own.
use Rattle.std.specs.Prelude.{◌≡◌, ◌<◌, ◌^◌, ℕ, Bool, true, false, if◌then◌else◌, List, [], ◌∷◌, length, Option, Some, None}
use Rattle.rv_insn.specs.declared.instructions.Insn.{Insn}
use Rattle.halide_pipeline.specs.Pixel.{Planes, Reads, reads_of}
use Rattle.loop_ir.specs.declared.expressions.Expr.{Expr}
use Rattle.loop_ir.specs.declared.expressions.Term.{Term}
use Rattle.loop_ir.specs.Buffers.{Points}
use Rattle.loop_ir.specs.Counters.{Values}
use Rattle.loop_ir.specs.Expressions.{value, loads}
use Rattle.task_code_scalar.specs.declared.layouts.Places.{Places}
use Rattle.task_code_scalar.specs.Doing.{Setting, IsSetting, HoldsFuncs}
use Rattle.task_code_scalar.specs.Words.{Emits}
use Rattle.task_code_registers.specs.declared.scopes.Held.{Held}
use Rattle.task_code_registers.specs.Doing.{Did}
use Rattle.task_code_registers.specs.Scopes.{Knows, AreHolders, IsKept, IsLeft}
use Rattle.task_code_vector_loops.specs.Naming.{is_name, AreNamed}
use Rattle.task_code_statements.specs.declared.contexts.Context.{Context}
use Rattle.task_code_statements.specs.declared.names.Naming.{Naming}
use Rattle.task_code_statements.specs.Contexts.{Meets}

-- a sum has a term of one
abbrev pub has_name : List Term → Bool
has_name [] = false
has_name (own ∷ others) = if is_name own.counter then true else has_name others

-- ---- code that gives names their values

-- nothing is stored
abbrev pub no_points : Points
no_points func x y = false

-- Code comes to its end and leaves the scope's registers and what buffers hold. Registers then hold the forms of another scope.
pub record GivesNames (setting : Setting) (insns : List Insn) (f : ℕ → ℕ) (memory : List ℕ) (scope : List Held) (funcs : Planes) (inner : List Held)
    (named : Values) : Type 0 where
  pub did : Did setting insns (length insns) f memory (IsKept scope) funcs no_points
  pub knows : Knows setting.world.hart inner named did.after

-- Appended code does so, wherever registers hold the scope's forms and something is so of loop variables and names: another scope holds theirs,
-- which keeps those registers, some names have other values, and something else is so.
pub record NamesHold (old new : List ℕ) (places : Places) (scope : List Held) (is_so : Values → Type 0) (inner : List Held) (within_so : Values → Type 0)
    : Type 0 where
  pub insns : List Insn
  pub emits : Emits old new insns
  pub named_as : Values → Values
  pub are_named : (values named : Values) → AreNamed values named → AreNamed values (named_as named)
  pub holders : AreHolders scope → AreHolders inner
  pub kept : (q : ℕ) → IsKept scope q → IsKept inner q
  pub meets : (setting : Setting) → IsSetting setting → setting.places ≡ places → (named : Values) → AreHolders scope → is_so named → (f : ℕ → ℕ) (memory : List ℕ)
      (funcs : Planes) → HoldsFuncs setting memory funcs → Knows setting.world.hart scope named f
      → within_so (named_as named)
  pub does : (setting : Setting) → IsSetting setting → setting.places ≡ places → (named : Values) → AreHolders scope → is_so named → (f : ℕ → ℕ) (memory : List ℕ)
      (funcs : Planes) → HoldsFuncs setting memory funcs → Knows setting.world.hart scope named f
      → GivesNames setting insns f memory scope funcs inner (named_as named)

-- where it appends any
abbrev pub NamesIf : List ℕ → List ℕ → Places → List Held → Context → Option Naming → Type 0
NamesIf old new places scope context None = new ≡ old
NamesIf old new places scope context (Some made) = NamesHold old new places scope (Meets context) made.scope.items (Meets made.context)

-- ---- code that leaves a value in a register

-- Code comes to its end and leaves a number in a register, beside the scope's registers and what buffers hold.
pub record LeavesIn (setting : Setting) (insns : List Insn) (f : ℕ → ℕ) (memory : List ℕ) (scope : List Held) (funcs : Planes) (register v : ℕ) : Type 0 where
  pub did : Did setting insns (length insns) f memory (IsKept scope) funcs no_points
  pub value : did.after register ≡ v
  pub small : v < 2 ^ 32

-- Words are of code that does so with the value of an expression which loads nothing.
pub record KeepsValue (places : Places) (scope : List Held) (register : ℕ) (e : Expr) (words : List ℕ) : Type 0 where
  pub insns : List Insn
  pub emits : Emits [] words insns
  pub does : (setting : Setting) → IsSetting setting → setting.places ≡ places → (named : Values) → AreHolders scope → IsLeft scope register
      → ((reads : Reads) → loads reads named e ≡ []) → (f : ℕ → ℕ) (memory : List ℕ) (funcs : Planes) → HoldsFuncs setting memory funcs
      → Knows setting.world.hart scope named f
      → LeavesIn setting insns f memory scope funcs register (value (reads_of setting.inputs funcs) named e)
