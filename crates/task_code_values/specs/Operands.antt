-- What appended code leaves of an expression's value, whatever its instructions are. This project's own.
use Rattle.std.specs.Prelude.{◌≡◌, ◌⊎◌, ◌<◌, ◌≤◌, ℕ, ◌+◌, ◌*◌, ◌^◌, true, false, List, length}
use Rattle.std.specs.List.{AllByRecursion}
use Rattle.rv_insn.specs.declared.instructions.Insn.{Insn}
use Rattle.halide_pipeline.specs.Pixel.{Reads}
use Rattle.loop_ir.specs.declared.expressions.Expr.{Expr}
use Rattle.loop_ir.specs.declared.expressions.Linear.{Linear}
use Rattle.loop_ir.specs.Counters.{Values}
use Rattle.loop_ir.specs.Expressions.{value, loads, linear_value}
use Rattle.loop_ir.specs.Needs.{need_of}
use Rattle.loop_ir.specs.Sizes.{size}
use Rattle.multi_hart_laws.specs.Alone.{World}
use Rattle.multi_hart_laws.specs.Paths.{Line}
use Rattle.task_code_scalar.specs.declared.layouts.BufferLayout.{BufferLayout}
use Rattle.task_code_scalar.specs.declared.layouts.Places.{Places}
use Rattle.task_code_scalar.specs.Evaluation.{Loads, LoadsAt}
use Rattle.task_code_scalar.specs.Faults.{FitsStack}
use Rattle.task_code_scalar.specs.Words.{Emits}
use Rattle.task_code_registers.specs.declared.scopes.Held.{Held}
use Rattle.task_code_registers.specs.Registers.{address_register, IsSource}
use Rattle.task_code_registers.specs.Scopes.{Knows, AreHolders, IsKept, have_registers}
use Rattle.task_code_values.specs.declared.points.PointIndex.{PointIndex}
use Rattle.task_code_values.specs.declared.points.PointIndex.TheVariants as indexes
use Rattle.task_code_values.specs.Making.{IsStack, IsBelow, Leaves}
use Rattle.task_code_values.specs.Points.{HaveIndex}
use Rattle.task_code_values.specs.Variables.{are_held}

-- ---- operands

-- Where an operand may stand: a leaf in a register of its own, another value where the stack begins, and either in one of the scope, which
-- holds it already.
abbrev pub IsOperand : List Held → ℕ → ℕ → ℕ → Type 0
IsOperand scope r leaf s = (s ≡ leaf) ⊎ ((s ≡ r) ⊎ IsKept scope s)

-- a leaf is made where values are, or where addresses are
abbrev pub IsLeafPlace : ℕ → ℕ → Type 0
IsLeafPlace r leaf = (leaf ≡ address_register) ⊎ ((leaf ≡ r) × IsStack r)

-- the stack has room for a value from r on, which a leaf doesn't ask for
abbrev pub FitsOperand : Expr → ℕ → Type 0
FitsOperand e r = (need_of e).is_leaf ≡ false → FitsStack e r

-- Appended code leaves an expression's value in register s, wherever the scope's registers hold their forms and memory what is loaded. It
-- keeps memory and the registers below r.
pub record MakesOperand (old new : List ℕ) (places : Places) (scope : List Held) (r leaf s : ℕ) (e : Expr) : Type 0 where
  pub insns : List Insn
  pub emits : Emits old new insns
  pub short : length insns ≤ size e
  pub source : IsSource s
  pub which : IsOperand scope r leaf s
  pub does : (world : World) (memory : List ℕ) (values : Values) (reads : Reads) (f : ℕ → ℕ) → length memory ≡ world.size → AreHolders scope
      → Knows world.hart scope values f → AllByRecursion (Loads world places memory reads) (loads reads values e)
      → Leaves world memory insns f r s (value reads values e)

-- ---- indexes of points

-- an expression that loads nothing is this sum
pub record IsSum (e : Expr) (sum : Linear) : Type 0 where
  pub value_is : (reads : Reads) (values : Values) → value reads values e ≡ linear_value values sum
  pub held : (scope : List Held) → are_held scope e ≡ true → have_registers scope sum.terms ≡ true
  pub short : 2 + 4 * length sum.terms ≤ size e

-- an index is this number
abbrev pub IsIndex : Values → (ℕ → ℕ) → PointIndex → ℕ → Type 0
IsIndex values f (indexes.Sum own) v = linear_value values own ≡ v
IsIndex values f (indexes.Register s) v = f s ≡ v

-- it is in r, or in one of the scope
abbrev pub StandsIn : List Held → ℕ → PointIndex → Type 0
StandsIn scope r (indexes.Sum own) = Unit {0}
StandsIn scope r (indexes.Register s) = IsStack r × (IsSource s × IsOperand scope r r s)

abbrev pub index_words : PointIndex → ℕ
index_words (indexes.Sum own) = 2 + 4 * length own.terms
index_words (indexes.Register s) = 0

-- straight code after which an index is this word; it keeps the registers below r
pub record Finds (world : World) (memory : List ℕ) (insns : List Insn) (values : Values) (f : ℕ → ℕ) (r : ℕ) (index : PointIndex) (v : ℕ) : Type 0 where
  pub after : ℕ → ℕ
  pub line : Line world insns f memory after memory
  pub value : IsIndex values after index v
  pub small : v < 2 ^ 32
  pub keeps : (q : ℕ) → IsBelow r q → after q ≡ f q

-- appended code finds an expression's value as an index
pub record MakesIndex (old new : List ℕ) (places : Places) (scope : List Held) (r : ℕ) (index : PointIndex) (e : Expr) : Type 0 where
  pub insns : List Insn
  pub emits : Emits old new insns
  pub short : length insns + index_words index ≤ size e
  pub stands : StandsIn scope r index
  pub held : are_held scope e ≡ true → HaveIndex scope index
  pub does : (world : World) (memory : List ℕ) (values : Values) (reads : Reads) (f : ℕ → ℕ) → length memory ≡ world.size → AreHolders scope
      → Knows world.hart scope values f → AllByRecursion (Loads world places memory reads) (loads reads values e)
      → Finds world memory insns values f r index (value reads values e)

-- appended code leaves what a buffer holds at a point in r
pub record MakesPixel (old new : List ℕ) (scope : List Held) (layout : BufferLayout) (column row : PointIndex) (r : ℕ) : Type 0 where
  pub insns : List Insn
  pub emits : Emits old new insns
  pub short : length insns ≤ index_words column + index_words row + 13
  pub does : (world : World) (memory : List ℕ) (values : Values) (f : ℕ → ℕ) (x y pixel : ℕ) → length memory ≡ world.size → AreHolders scope
      → Knows world.hart scope values f → IsIndex values f column x → IsIndex values f row y → x < 2 ^ 32 → y < 2 ^ 32
      → LoadsAt world layout memory x y pixel → Leaves world memory insns f r r pixel
