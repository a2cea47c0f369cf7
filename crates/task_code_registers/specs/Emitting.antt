-- What appended code does, whatever its instructions are. This project's own.
use Rattle.std.specs.Prelude.{◌≡◌, ◌≢◌, ◌⊎◌, ◌<◌, ◌≤◌, ℕ, ◌+◌, ◌*◌, ◌%◌, ◌^◌, ◌==◌, if◌then◌else◌, true, List, length}
use Rattle.rv_insn.specs.declared.instructions.Insn.{Insn}
use Rattle.loop_ir.specs.declared.expressions.Counter.{Counter}
use Rattle.loop_ir.specs.declared.expressions.Term.{Term}
use Rattle.loop_ir.specs.Counters.{Values}
use Rattle.loop_ir.specs.Expressions.{sum_of}
use Rattle.multi_hart_laws.specs.Alone.{World}
use Rattle.multi_hart_laws.specs.Paths.{Line}
use Rattle.task_code_scalar.specs.Words.{Emits}
use Rattle.task_code_registers.specs.declared.scopes.AffineForm.{AffineForm}
use Rattle.task_code_registers.specs.declared.scopes.Held.{Held}
use Rattle.task_code_registers.specs.declared.sums.At.{At}
use Rattle.task_code_registers.specs.Registers.{zero_register, hart_number, scratch, second_scratch, may_hold}
use Rattle.task_code_registers.specs.Scopes.{Knows, AreHolders, IsFree, IsKept, form_value}

-- a word that an immediate of 12 bits stands for
abbrev pub Fits : ℕ → Type 0
Fits n = (n < 2048) ⊎ (4294965248 ≤ n)

-- straight code that leaves v in register r; beside it the scratch registers may change
pub record Puts (world : World) (memory : List ℕ) (insns : List Insn) (f : ℕ → ℕ) (r v : ℕ) : Type 0 where
  pub after : ℕ → ℕ
  pub line : Line world insns f memory after memory
  pub value : after r ≡ v
  pub others : (q : ℕ) → q ≢ r → q ≢ scratch → q ≢ second_scratch → after q ≡ f q

-- At most this many appended instructions leave in r what is made of the registers as they were.
pub record Makes (old new : List ℕ) (most r : ℕ) (says : (ℕ → ℕ) → ℕ) : Type 0 where
  pub insns : List Insn
  pub emits : Emits old new insns
  pub short : length insns ≤ most
  pub does : (world : World) (memory : List ℕ) (f : ℕ → ℕ) → length memory ≡ world.size → f zero_register ≡ 0
      → Puts world memory insns f r (says f)

-- So it is of register s, which holds a word.
pub record MakesOf (old new : List ℕ) (most r s : ℕ) (says : ℕ → ℕ) : Type 0 where
  pub insns : List Insn
  pub emits : Emits old new insns
  pub short : length insns ≤ most
  pub does : (world : World) (memory : List ℕ) (f : ℕ → ℕ) → length memory ≡ world.size → f zero_register ≡ 0 → f s < 2 ^ 32
      → Puts world memory insns f r (says (f s))

-- At most this many appended instructions leave in r what is made of the hart's number and the values of loop
-- variables, wherever the scope's registers hold their forms and r is none of them.
pub record MakesForm (old new : List ℕ) (most : ℕ) (scope : List Held) (r : ℕ) (says : ℕ → Values → ℕ) : Type 0 where
  pub insns : List Insn
  pub emits : Emits old new insns
  pub short : length insns ≤ most
  pub does : (world : World) (memory : List ℕ) (hart : ℕ) (values : Values) (f : ℕ → ℕ) → length memory ≡ world.size → AreHolders scope
      → IsFree scope r → Knows hart scope values f → Puts world memory insns f r (says hart values)

-- how many instructions make a number and so much times the hart's number
abbrev pub base_words : ℕ → ℕ
base_words per_hart = if per_hart == 0 then 2 else 6

-- this many make that and a sum of these terms
abbrev pub sum_words : ℕ → List Term → ℕ
sum_words per_hart terms = base_words per_hart + 4 * length terms

-- so it is of a form's value
abbrev pub MakesValue : List ℕ → List ℕ → List Held → AffineForm → ℕ → Type 0
MakesValue old new scope form r =
    MakesForm old new (sum_words form.per_hart form.sum.terms) scope r (λ hart values. form_value hart values form)

-- ---- what is near

-- a form is so much more than another one, on all harts and in all iterations
abbrev pub IsApart : AffineForm → AffineForm → ℕ → Type 0
IsApart form base d =
    (d < 2 ^ 32) × ((hart : ℕ) (values : Values) → form_value hart values form ≡ (form_value hart values base + d) % 2 ^ 32)

-- a form is so much more than what a register of the scope holds
pub record IsNear (scope : List Held) (form : AffineForm) (r d : ℕ) : Type 0 where
  pub may : may_hold r ≡ true
  pub kept : IsKept scope r
  pub word : d < 2 ^ 32
  pub value : (hart : ℕ) (values : Values) (f : ℕ → ℕ) → Knows hart scope values f → form_value hart values form ≡ (f r + d) % 2 ^ 32
  pub small : (hart : ℕ) (values : Values) (f : ℕ → ℕ) → Knows hart scope values f → f r < 2 ^ 32

-- Code that adds so much to a register is no longer than code that makes the form: an immediate stands for the number, or the form isn't a
-- number alone.
abbrev pub IsWorth : AffineForm → ℕ → Type 0
IsWorth form d = Fits d ⊎ (6 ≤ sum_words form.per_hart form.sum.terms)

-- ---- addresses

-- straight code after which a register and an offset make v; r and the scratch registers may change
pub record Addresses (world : World) (memory : List ℕ) (insns : List Insn) (f : ℕ → ℕ) (r base offset v : ℕ) : Type 0 where
  pub after : ℕ → ℕ
  pub line : Line world insns f memory after memory
  pub value : (after base + offset) % 2 ^ 32 ≡ v
  pub others : (q : ℕ) → q ≢ r → q ≢ scratch → q ≢ second_scratch → after q ≡ f q

-- At most this many appended instructions do so, where an instruction can hold the offset. The register is r, or one of the scope.
pub record MakesAddress (old new : List ℕ) (most : ℕ) (scope : List Held) (r base offset : ℕ) (says : ℕ → Values → ℕ) : Type 0 where
  pub insns : List Insn
  pub emits : Emits old new insns
  pub short : length insns ≤ most
  pub low : base < 32
  pub which : (base ≡ r) ⊎ IsKept scope base
  pub fits : Fits offset
  pub small : offset < 2 ^ 32
  pub does : (world : World) (memory : List ℕ) (hart : ℕ) (values : Values) (f : ℕ → ℕ) → length memory ≡ world.size → AreHolders scope
      → IsFree scope r → Knows hart scope values f → Addresses world memory insns f r base offset (says hart values)

-- so it is of an address that is a form
abbrev pub MakesFormAddress : List ℕ → List ℕ → List Held → AffineForm → ℕ → At → Type 0
MakesFormAddress old new scope form r at =
    MakesAddress old new (sum_words form.per_hart form.sum.terms) scope r at.register at.offset (λ hart values. form_value hart values form)

-- a form is another one and an offset, which fits an immediate, and both have the same terms and part of the hart's number
pub record IsRest (form rest : AffineForm) (offset : ℕ) : Type 0 where
  pub fits : Fits offset
  pub small : offset < 2 ^ 32
  pub terms : rest.sum.terms ≡ form.sum.terms
  pub per_hart : rest.per_hart ≡ form.per_hart
  pub value : (hart : ℕ) (values : Values) → form_value hart values form ≡ (form_value hart values rest + offset) % 2 ^ 32

-- ---- sums, term by term

-- a register holds a loop variable, as far as words go
pub record HoldsVariable (scope : List Held) (counter : Counter) (r : ℕ) : Type 0 where
  pub may : may_hold r ≡ true
  pub value : (hart : ℕ) (values : Values) (f : ℕ → ℕ) → Knows hart scope values f → f r ≡ values counter % 2 ^ 32

-- a number and so much times the hart's number is made
abbrev pub MakesBase : List ℕ → List ℕ → ℕ → ℕ → ℕ → Type 0
MakesBase old new r number per_hart = Makes old new (base_words per_hart) r (λ f. (number + f hart_number * per_hart) % 2 ^ 32)

-- a form's number, its part of the hart's number, and these terms
abbrev pub sum_value : AffineForm → List Term → ℕ → Values → ℕ
sum_value form terms hart values = (form.sum.number + hart * form.per_hart + sum_of values terms) % 2 ^ 32

-- they are made
abbrev pub MakesSum : List ℕ → List ℕ → List Held → AffineForm → List Term → ℕ → Type 0
MakesSum old new scope form terms r = MakesForm old new (sum_words form.per_hart terms) scope r (sum_value form terms)
