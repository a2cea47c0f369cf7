-- What is after a loop's body, and what the whole loop does. This project's own.
use Rattle.std.specs.Prelude.{◌≡◌, ◌≢◌, ◌<◌, ◌≤◌, ℕ, suc, ◌+◌, ◌*◌, ◌-◌, false, true, List, ◌++◌, length}
use Rattle.rv_insn.specs.declared.instructions.Insn.{Insn}
use Rattle.rv_insn.specs.declared.operations.BranchOp.TheVariants as branches
use Rattle.hart_core.specs.Scalar.{is_taken}
use Rattle.halide_pipeline.specs.Pixel.{Planes}
use Rattle.loop_ir.specs.declared.expressions.Counter.{Counter}
use Rattle.loop_ir.specs.Buffers.{Points}
use Rattle.loop_ir.specs.Counters.{Values, with}
use Rattle.loop_ir.specs.Running.{iterated}
use Rattle.multi_hart_laws.specs.Alone.{World}
use Rattle.multi_hart_laws.specs.Paths.{Spot, Stand, end, Path, Line}
use Rattle.task_code_scalar.specs.Doing.{Setting, HoldsFuncs}
use Rattle.task_code_scalar.specs.Fitting.{total}
use Rattle.task_code_scalar.specs.Words.{Emits}
use Rattle.task_code_registers.specs.declared.scopes.Held.{Held}
use Rattle.task_code_registers.specs.Doing.{Did}
use Rattle.task_code_registers.specs.Holding.{IsLoopInvariant, mentions, varying}
use Rattle.task_code_registers.specs.Looping.{StoresOf}
use Rattle.task_code_registers.specs.Registers.{zero_register, scratch, second_scratch}
use Rattle.task_code_registers.specs.Scopes.{Knows, AreHolders, IsKept}
use Rattle.task_code_loops.specs.declared.beginning.BegunLoop.{BegunLoop}
use Rattle.task_code_loops.specs.declared.tests.Limit.{Limit}
use Rattle.task_code_loops.specs.Beginning.{limit_of, IsBegun}

-- ---- after the body

-- straight code that leaves a limit in a register; the scratch registers may change
pub record LeavesLimit (world : World) (memory : List ℕ) (insns : List Insn) (f : ℕ → ℕ) (limit : Limit) (r : ℕ) : Type 0 where
  pub after : ℕ → ℕ
  pub line : Line world insns f memory after memory
  pub value : after r ≡ limit_of f limit
  pub others : (q : ℕ) → q ≢ scratch → q ≢ second_scratch → after q ≡ f q

-- at most two appended instructions do so
pub record MakesLimit (old new : List ℕ) (limit : Limit) (r : ℕ) : Type 0 where
  pub insns : List Insn
  pub emits : Emits old new insns
  pub short : length insns ≤ 2
  pub low : r < 32
  pub does : (world : World) (memory : List ℕ) (f : ℕ → ℕ) → length memory ≡ world.size → f zero_register ≡ 0 → LeavesLimit world memory insns f limit r

-- At most two appended instructions go back over this many words where two registers differ, and else go on.
pub record GoesBack (old new : List ℕ) (a b words : ℕ) : Type 0 where
  pub insns : List Insn
  pub emits : Emits old new insns
  pub short : length insns ≤ 2
  pub back_cost : ℕ
  pub out_cost : ℕ
  pub again : (world : World) (memory : List ℕ) (f : ℕ → ℕ) (at to : ℕ) → length memory ≡ world.size → is_taken branches.Bne (f a) (f b) ≡ true
      → Stand world.text at insns → to + 4 * words ≡ at → Spot to → Path world at to back_cost f memory f memory
  pub leaves : (world : World) (memory : List ℕ) (f : ℕ → ℕ) (at : ℕ) → length memory ≡ world.size → is_taken branches.Bne (f a) (f b) ≡ false
      → Stand world.text at insns → Path world at (end at insns) out_cost f memory f memory

-- ---- iterations

-- A body does each of this many iterations where registers hold a scope's forms, and keeps these registers.
pub record DoesEach (setting : Setting) (hart : ℕ) (inner : List Held) (counter : Counter) (values : Values) (n : ℕ) (body : List Insn)
    (t : ℕ → ℕ) (one : ℕ → Planes → Planes) (body_stored : ℕ → Planes → Points) : Type 0 where
  pub does : (i : ℕ) (f : ℕ → ℕ) (memory : List ℕ) (funcs : Planes) → i < n → HoldsFuncs setting memory funcs → Knows hart inner (with counter i values) f
      → Did setting body (t i) f memory (IsKept inner) (one i funcs) (body_stored i funcs)

-- registers of a scope that don't go along with a variable
abbrev pub StaysIn : Counter → List Held → ℕ → Type 0
StaysIn counter inner q = IsKept inner q × IsLoopInvariant counter inner q

-- What is after a body makes of the numbers of an iteration those of the next one, and goes back to the body if there is one, else on.
pub record Advanced (world : World) (keeps_it : ℕ → Type 0) (mark_is : (ℕ → ℕ) → Type 0) (n : ℕ) (body tail : List Insn) (i cost : ℕ) (f : ℕ → ℕ)
    (memory : List ℕ) : Type 0 where
  pub after : ℕ → ℕ
  pub keeps : (q : ℕ) → keeps_it q → after q ≡ f q
  pub mark : mark_is after
  pub again : suc i < n → (at : ℕ) → Stand world.text at (body ++ tail) → Path world (end at body) at cost f memory after memory
  pub leaves : suc i ≡ n → (at : ℕ) → Stand world.text at (body ++ tail) → Path world (end at body) (end at (body ++ tail)) cost f memory after memory

-- how many instructions at most stand after a body
abbrev pub end_words : BegunLoop → ℕ
end_words begun = 3 * varying begun.counter begun.inner.items + 4

-- What is appended after a body of this many words makes a loop of it.
pub record EndsLoop (old new : List ℕ) (begun : BegunLoop) (words : ℕ) : Type 0 where
  pub insns : List Insn
  pub emits : Emits old new insns
  pub short : length insns ≤ end_words begun
  pub cost : ℕ → ℕ
  -- whatever the body does beside
  pub advanced : (world : World) (hart : ℕ) (values : Values) (body : List Insn) (i : ℕ) (f : ℕ → ℕ) (memory : List ℕ) → length body ≡ words
      → AreHolders begun.inner.items → i < begun.count → length memory ≡ world.size → Knows hart begun.inner.items (with begun.counter i values) f
      → Advanced world (IsLoopInvariant begun.counter begun.inner.items) (Knows hart begun.inner.items (with begun.counter (suc i) values)) begun.count body insns i
      (cost i) f memory
  pub does : (setting : Setting) (hart : ℕ) (values : Values) (body : List Insn) (t : ℕ → ℕ) (one : ℕ → Planes → Planes) (body_stored stored : ℕ → Planes → Points)
      → length body ≡ words → AreHolders begun.inner.items
      → DoesEach setting hart begun.inner.items begun.counter values begun.count body t one body_stored → StoresOf stored body_stored one
      → (f : ℕ → ℕ) (memory : List ℕ) (funcs : Planes) → HoldsFuncs setting memory funcs → Knows hart begun.inner.items (with begun.counter 0 values) f
      → Did setting (body ++ insns) (total begun.count (λ i. t i + cost i)) f memory (StaysIn begun.counter begun.inner.items) (iterated begun.count one funcs)
      (stored begun.count funcs)

-- ---- a whole loop

-- Appended code does the iterations of a loop one after the other, where its body does each of them. It takes this many
-- turns before the first one, and this many after each.
pub record MakesLoop (old new : List ℕ) (most : ℕ) (scope inner : List Held) (counter : Counter) (count : ℕ) (body : List Insn) : Type 0 where
  pub insns : List Insn
  pub emits : Emits old new insns
  pub short : length insns ≤ most + length body
  pub before : ℕ
  pub cost : ℕ → ℕ
  pub holders : AreHolders scope → AreHolders inner
  pub does : (setting : Setting) (hart : ℕ) (values : Values) (t : ℕ → ℕ) (one : ℕ → Planes → Planes) (body_stored stored : ℕ → Planes → Points)
      → AreHolders scope → DoesEach setting hart inner counter values count body t one body_stored → StoresOf stored body_stored one
      → (f : ℕ → ℕ) (memory : List ℕ) (funcs : Planes) → HoldsFuncs setting memory funcs → Knows hart scope values f
      → Did setting insns (before + total count (λ i. t i + cost i)) f memory (IsKept scope) (iterated count one funcs) (stored count funcs)

-- What is begun, and ended after its body, is a loop.
abbrev pub LoopsAreMade : Type 0
LoopsAreMade =
    (c0 c1 c2 c3 : List ℕ) (most : ℕ) (counter : Counter) (count reserved : ℕ) (scope : List Held) (begun : BegunLoop) (body : List Insn)
    → mentions counter scope ≡ false → IsBegun c0 c1 most counter count scope reserved begun → Emits c1 c2 body
    → EndsLoop c2 c3 begun (length c2 - length c1) → MakesLoop c0 c3 (most + end_words begun) scope begun.inner.items counter count body
