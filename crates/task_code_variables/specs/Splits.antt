-- The values of split loops in registers. This project's own.
use Rattle.std.specs.Prelude.{◌≡◌, ◌≢◌, ◌⊎◌, ◌<◌, ◌≤◌, ℕ, suc, ◌%◌, ◌^◌, List, ◌∷◌, length, Option}
use Rattle.rv_insn.specs.declared.instructions.Insn.{Insn}
use Rattle.multi_hart_laws.specs.Alone.{World}
use Rattle.multi_hart_laws.specs.Paths.{Line}
use Rattle.loop_ir.specs.declared.expressions.Counter.{Counter}
use Rattle.loop_ir.specs.declared.statements.Whole.{Whole}
use Rattle.loop_ir.specs.Counters.{Values, with}
use Rattle.loop_ir.specs.Running.{at_most, whole_value}
use Rattle.task_code_scalar.specs.Words.{Emits}
use Rattle.task_code_registers.specs.declared.scopes.Held.{Held}
use Rattle.task_code_registers.specs.Holding.{Stepped}
use Rattle.task_code_registers.specs.Registers.{IsSource, address_register, scratch, second_scratch, zero_register}
use Rattle.task_code_registers.specs.Scopes.{AreHolders, IsKept, IsLeft, Knows, left_count}
use Rattle.task_code_loops.specs.Beginning.{variable}
use Rattle.task_code_variables.specs.Renaming.{StandFor, numbered}

-- a register holds a loop variable's value, as far as words go
pub record HoldsStanding (scope : List Held) (around : List Counter) (counter : Counter) (r : ℕ) : Type 0 where
  pub source : IsSource r
  pub apart : r ≢ address_register
  pub kept : (q hart : ℕ) (numbers : Values) (f : ℕ → ℕ) → IsLeft scope q → Knows hart scope numbers f → r ≢ q
  pub value : (hart : ℕ) (values numbers : Values) (f : ℕ → ℕ) → StandFor around values numbers → Knows hart scope numbers f
      → f r ≡ values counter % 2 ^ 32

-- straight code that leaves a number in register r; the scratch registers may change, and the one where addresses are made
pub record LeavesIn (world : World) (memory : List ℕ) (insns : List Insn) (f : ℕ → ℕ) (r v : ℕ) : Type 0 where
  pub after : ℕ → ℕ
  pub line : Line world insns f memory after memory
  pub value : after r ≡ v
  pub others : (q : ℕ) → q ≢ r → q ≢ scratch → q ≢ second_scratch → q ≢ address_register → after q ≡ f q

-- At most six appended instructions leave the lesser of a word and such a number, if there is one.
pub record Bounds (old new : List ℕ) (last : Option ℕ) (r : ℕ) : Type 0 where
  pub insns : List Insn
  pub emits : Emits old new insns
  pub short : length insns ≤ 6
  pub does : (world : World) (memory : List ℕ) (f : ℕ → ℕ) → length memory ≡ world.size → f zero_register ≡ 0 → f r < 2 ^ 32
      → LeavesIn world memory insns f r (at_most last (f r))

-- At most ten leave a split loop's value.
pub record MakesWhole (old new : List ℕ) (scope : List Held) (around : List Counter) (whole : Whole) (r : ℕ) : Type 0 where
  pub insns : List Insn
  pub emits : Emits old new insns
  pub short : length insns ≤ 10
  pub does : (world : World) (memory : List ℕ) (hart : ℕ) (values numbers : Values) (f : ℕ → ℕ) → length memory ≡ world.size
      → IsLeft scope r → StandFor around values numbers → Knows hart scope numbers f
      → LeavesIn world memory insns f r (whole_value whole values)

-- registers of a scope, and the numbers after the scalar registers, of lanes and their configuration
abbrev pub IsKeptOrLane : List Held → ℕ → Type 0
IsKeptOrLane scope q = IsKept scope q ⊎ (32 ≤ q)

-- At most ten give it to a register, in a scope with the variable of one more loop.
pub record EntersSplit (old new : List ℕ) (scope inner : List Held) (around : List Counter) (whole : Whole) : Type 0 where
  pub insns : List Insn
  pub emits : Emits old new insns
  pub short : length insns ≤ 10
  pub register : ℕ
  pub is : inner ≡ record { register = register; form = variable (numbered (length around)) } ∷ scope
  pub left : IsLeft scope register
  pub fewer : left_count scope ≤ suc (left_count inner)
  pub holders : AreHolders scope → AreHolders inner
  pub does : (world : World) (memory : List ℕ) (hart : ℕ) (values numbers : Values) (f : ℕ → ℕ) → length memory ≡ world.size → AreHolders scope
      → StandFor around values numbers → Knows hart scope numbers f
      → Stepped world memory insns f (IsKeptOrLane scope) (Knows hart inner (with (numbered (length around)) (whole_value whole values) numbers))
