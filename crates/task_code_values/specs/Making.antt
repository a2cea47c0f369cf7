-- What appended code makes of registers, whatever its instructions are. This project's own.
use Rattle.std.specs.Prelude.{◌≡◌, ◌≢◌, ◌⊎◌, ◌<◌, ◌≤◌, ℕ, ◌^◌, ◌==◌, Bool, if◌then◌else◌, List, length}
use Rattle.rv_insn.specs.declared.instructions.Insn.{Insn}
use Rattle.hart_core.specs.Scalar.{one_if}
use Rattle.loop_ir.specs.Counters.{Values}
use Rattle.multi_hart_laws.specs.Alone.{World}
use Rattle.multi_hart_laws.specs.Paths.{Line}
use Rattle.task_code_scalar.specs.Words.{Emits}
use Rattle.task_code_registers.specs.declared.scopes.Held.{Held}
use Rattle.task_code_registers.specs.Registers.{zero_register, scratch, second_scratch, address_register, first_value, IsSource}
use Rattle.task_code_registers.specs.Scopes.{Knows, AreHolders, IsFree, IsKept}
use Rattle.task_code_registers.specs.Emitting.{Puts}

-- ---- registers

-- values of expressions are made there
abbrev pub IsStack : ℕ → Type 0
IsStack r = (first_value ≤ r) × (r < 32)

-- What stays while a value is made from r on: all but the scratch registers, the one where addresses are made, r and those above it. Vector
-- registers are numbered from 32 on.
abbrev pub IsBelow : ℕ → ℕ → Type 0
IsBelow r q = ((q < scratch) ⊎ (address_register < q)) × ((q < r) ⊎ (31 < q))

-- straight code that leaves a word in register s, and keeps the registers below r
pub record Leaves (world : World) (memory : List ℕ) (insns : List Insn) (f : ℕ → ℕ) (r s v : ℕ) : Type 0 where
  pub after : ℕ → ℕ
  pub line : Line world insns f memory after memory
  pub value : after s ≡ v
  pub small : v < 2 ^ 32
  pub keeps : (q : ℕ) → IsBelow r q → after q ≡ f q

-- ---- from registers that hold words

-- At most this many appended instructions leave in r what is made of two registers.
pub record MakesOfTwo (old new : List ℕ) (most r a b : ℕ) (says : ℕ → ℕ → ℕ) : Type 0 where
  pub insns : List Insn
  pub emits : Emits old new insns
  pub short : length insns ≤ most
  pub does : (world : World) (memory : List ℕ) (f : ℕ → ℕ) → length memory ≡ world.size → f zero_register ≡ 0 → f a < 2 ^ 32 → f b < 2 ^ 32
      → Puts world memory insns f r (says (f a) (f b))

-- one of two registers, as the scratch register tells
pub record Blends (old new : List ℕ) (r a b : ℕ) : Type 0 where
  pub insns : List Insn
  pub emits : Emits old new insns
  pub short : length insns ≤ 3
  pub does : (world : World) (memory : List ℕ) (f : ℕ → ℕ) (t : Bool) → length memory ≡ world.size → f scratch ≡ one_if t → f a < 2 ^ 32 → f b < 2 ^ 32
      → Puts world memory insns f r (if t then f b else f a)

-- the second where the first isn't 0, else the third
pub record Selects (old new : List ℕ) (r c a b : ℕ) : Type 0 where
  pub insns : List Insn
  pub emits : Emits old new insns
  pub short : length insns ≤ 4
  pub does : (world : World) (memory : List ℕ) (f : ℕ → ℕ) → length memory ≡ world.size → f zero_register ≡ 0 → f a < 2 ^ 32 → f b < 2 ^ 32
      → Puts world memory insns f r (if f c == 0 then f b else f a)

-- what is made of register a, wherever the scope's registers hold their forms
pub record MakesFrom (old new : List ℕ) (most : ℕ) (scope : List Held) (r a : ℕ) (says : ℕ → ℕ) : Type 0 where
  pub insns : List Insn
  pub emits : Emits old new insns
  pub short : length insns ≤ most
  pub does : (world : World) (memory : List ℕ) (hart : ℕ) (values : Values) (f : ℕ → ℕ) → length memory ≡ world.size → AreHolders scope
      → Knows hart scope values f → f a < 2 ^ 32 → Leaves world memory insns f r r (says (f a))

-- ---- operands

-- straight code that leaves v in register s; r and the scratch registers may change
pub record Holds (world : World) (memory : List ℕ) (insns : List Insn) (f : ℕ → ℕ) (r s v : ℕ) : Type 0 where
  pub after : ℕ → ℕ
  pub line : Line world insns f memory after memory
  pub value : after s ≡ v
  pub others : (q : ℕ) → q ≢ r → q ≢ scratch → q ≢ second_scratch → after q ≡ f q

-- At most this many appended instructions leave what is made of the hart's number and the values of loop variables in
-- register s: in r, or in one of the scope, which holds it already.
pub record MakesHeld (old new : List ℕ) (most : ℕ) (scope : List Held) (r s : ℕ) (says : ℕ → Values → ℕ) : Type 0 where
  pub insns : List Insn
  pub emits : Emits old new insns
  pub short : length insns ≤ most
  pub source : IsSource s
  pub which : (s ≡ r) ⊎ IsKept scope s
  pub does : (world : World) (memory : List ℕ) (hart : ℕ) (values : Values) (f : ℕ → ℕ) → length memory ≡ world.size → AreHolders scope
      → IsFree scope r → Knows hart scope values f → Holds world memory insns f r s (says hart values)
