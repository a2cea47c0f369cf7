-- What appended code does that may keep values in the hart's frame, and that stores points, whatever its instructions are. This project's own.
use Rattle.std.specs.Prelude.{◌≡◌, ◌⊎◌, ◌<◌, ◌≤◌, ℕ, ◌+◌, ◌^◌, true, List, length}
use Rattle.std.specs.List.{list_all}
use Rattle.rv_insn.specs.declared.instructions.Insn.{Insn}
use Rattle.memory.specs.Access.{byte_at, AreBytes}
use Rattle.halide_pipeline.specs.Pixel.{Planes, reads_of}
use Rattle.loop_ir.specs.declared.expressions.Expr.{Expr}
use Rattle.loop_ir.specs.declared.statements.Store.{Store}
use Rattle.loop_ir.specs.declared.statements.Stmt.TheVariants as statements
use Rattle.loop_ir.specs.Counters.{Values}
use Rattle.loop_ir.specs.Expressions.{value, loads}
use Rattle.loop_ir.specs.Needs.{need_of}
use Rattle.loop_ir.specs.Running.{run}
use Rattle.loop_ir.specs.Sizes.{size}
use Rattle.multi_hart_laws.specs.Paths.{Line}
use Rattle.task_code_scalar.specs.declared.layouts.Places.{Places}
use Rattle.task_code_scalar.specs.Doing.{Setting, IsSetting, SoundIn, RunsIn, HoldsFuncs, stored_points}
use Rattle.task_code_scalar.specs.Faults.{FitsStack, FitsFrame}
use Rattle.task_code_scalar.specs.Layout.{IsBefore}
use Rattle.task_code_scalar.specs.Words.{Emits}
use Rattle.task_code_registers.specs.declared.scopes.Held.{Held}
use Rattle.task_code_registers.specs.Registers.{first_value, IsSource}
use Rattle.task_code_registers.specs.Scopes.{Knows, AreHolders, IsKept, are_registers}
use Rattle.task_code_registers.specs.Doing.{Did}
use Rattle.task_code_values.specs.Making.{IsBelow}
use Rattle.task_code_values.specs.Variables.{are_held}

-- Straight code leaves a word in register s. It keeps the registers below r, what the Funcs hold, and of memory all but the words of the
-- hart's frame from a word on.
pub record LeavesDeep (setting : Setting) (funcs : Planes) (insns : List Insn) (first : ℕ) (f : ℕ → ℕ) (memory : List ℕ) (r s v : ℕ) : Type 0 where
  pub after : ℕ → ℕ
  pub left : List ℕ
  pub line : Line setting.world insns f memory after left
  pub value : after s ≡ v
  pub small : v < 2 ^ 32
  pub keeps : (q : ℕ) → IsBelow r q → after q ≡ f q
  pub holds : HoldsFuncs setting left funcs
  pub before : (byte : ℕ) → IsBefore setting.world setting.places first byte → byte_at setting.world.text left byte ≡ byte_at setting.world.text memory byte
  pub are_bytes : AreBytes memory → AreBytes left

-- Appended code leaves an expression's value in a register, which is the stack's first or one of the scope, with the frame free from a word on.
pub record MakesValue (old new : List ℕ) (places : Places) (scope : List Held) (first s : ℕ) (e : Expr) : Type 0 where
  pub insns : List Insn
  pub emits : Emits old new insns
  pub short : length insns ≤ size e
  pub source : IsSource s
  pub which : (s ≡ first_value) ⊎ IsKept scope s
  pub does : (setting : Setting) → IsSetting setting → setting.places ≡ places → (values : Values) → AreHolders scope → (f : ℕ → ℕ) (memory : List ℕ) (funcs : Planes)
      → HoldsFuncs setting memory funcs → Knows setting.world.hart scope values f → list_all setting.loaded (loads (reads_of setting.inputs funcs) values e) ≡ true
      → LeavesDeep setting funcs insns first f memory first_value s (value (reads_of setting.inputs funcs) values e)

-- ---- stores

-- What the value and the indexes take, and an access: with 12 words for the address of a point whose indexes stand in registers, and 5 for what
-- waits in a lane while what comes next is made.
abbrev pub store_words : Store → ℕ
store_words store = size store.x + size store.y + size store.value + 18

-- its indexes are sums, its loop variables have registers, and the stack or the frame has room for its value
pub record FitsDirect (places : Places) (scope : List Held) (store : Store) : Type 0 where
  pub column : (need_of store.x).is_leaf ≡ true
  pub row : (need_of store.y).is_leaf ≡ true
  pub column_held : are_held scope store.x ≡ true
  pub row_held : are_held scope store.y ≡ true
  pub value_held : are_held scope store.value ≡ true
  pub room : FitsFrame places.frames store.value 0

-- Its loop variables have registers, the stack or the frame has room for each of its expressions alone, and registers hold all of the scope's forms.
pub record FitsParked (places : Places) (scope : List Held) (store : Store) : Type 0 where
  pub registers : are_registers scope ≡ true
  pub column_held : are_held scope store.x ≡ true
  pub row_held : are_held scope store.y ≡ true
  pub value_held : are_held scope store.value ≡ true
  pub column_room : FitsFrame places.frames store.x 0
  pub row_room : FitsFrame places.frames store.y 0
  pub room : FitsFrame places.frames store.value 0

-- Its loop variables have registers, the stack or the frame has room for its value, and the stack for its indexes beside it, or each fits alone.
pub record FitsStore (places : Places) (scope : List Held) (store : Store) : Type 0 where
  pub column_held : are_held scope store.x ≡ true
  pub row_held : are_held scope store.y ≡ true
  pub value_held : are_held scope store.value ≡ true
  pub room : FitsFrame places.frames store.value 0
  pub indexes : (FitsStack store.x 21 × FitsStack store.y 22) ⊎ FitsParked places scope store

-- Appended code does a store, where the registers hold the scope's forms, and keeps these registers.
pub record MakesStore (old new : List ℕ) (places : Places) (scope : List Held) (store : Store) : Type 0 where
  pub insns : List Insn
  pub emits : Emits old new insns
  pub short : length insns ≤ store_words store
  pub does : (setting : Setting) → IsSetting setting → setting.places ≡ places → (values : Values) → SoundIn setting (statements.Store store) values
      → RunsIn setting (statements.Store store) values → AreHolders scope → (f : ℕ → ℕ) (memory : List ℕ) (funcs : Planes) → HoldsFuncs setting memory funcs
      → Knows setting.world.hart scope values f
      → Did setting insns (length insns) f memory (IsKept scope) (run setting.points setting.inputs (statements.Store store) values funcs)
      (stored_points setting (statements.Store store) values funcs)
