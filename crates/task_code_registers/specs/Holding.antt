-- Forms that registers hold while a loop runs, and that go along with its iterations. This project's own.
use Rattle.std.specs.Prelude.{◌≡◌, ◌≢◌, ◌≤◌, ℕ, suc, ◌+◌, ◌||◌, ◌&&◌, not, Bool, true, false, if◌then◌else◌}
use Rattle.std.specs.Prelude.{List, [], ◌∷◌, ◌++◌, length, Option, None, IfSome}
use Rattle.rv_insn.specs.declared.instructions.Insn.{Insn}
use Rattle.loop_ir.specs.declared.expressions.Counter.{Counter}
use Rattle.loop_ir.specs.Counters.{Values, with}
use Rattle.multi_hart_laws.specs.Alone.{World}
use Rattle.multi_hart_laws.specs.Paths.{Line}
use Rattle.task_code_scalar.specs.Words.{Emits}
use Rattle.task_code_registers.specs.declared.holding.WidenedScope.{WidenedScope}
use Rattle.task_code_registers.specs.declared.scopes.AffineForm.{AffineForm}
use Rattle.task_code_registers.specs.declared.scopes.Held.{Held}
use Rattle.task_code_registers.specs.Registers.{scratch, second_scratch, may_hold}
use Rattle.task_code_registers.specs.Emitting.{sum_words}
use Rattle.task_code_registers.specs.Scopes.{Knows, AreHolders, IsKept, form_value, left_count}
use Rattle.task_code_registers.specs.Strides.{has_counter, others_of}

-- straight code that changes registers, and keeps these; after it something is so
pub record Stepped (world : World) (memory : List ℕ) (insns : List Insn) (f : ℕ → ℕ) (keeps_it : ℕ → Type 0) (mark_is : (ℕ → ℕ) → Type 0) : Type 0 where
  pub after : ℕ → ℕ
  pub line : Line world insns f memory after memory
  pub keeps : (q : ℕ) → keeps_it q → after q ≡ f q
  pub mark : mark_is after

-- a form where a variable is at a number
pub record IsAt (counter : Counter) (n : ℕ) (form affine_form : AffineForm) : Type 0 where
  pub terms : affine_form.sum.terms ≡ others_of counter form.sum.terms
  pub per_hart : affine_form.per_hart ≡ form.per_hart
  pub value : (hart v : ℕ) (values : Values) → form_value hart (with counter v values) affine_form ≡ form_value hart (with counter n values) form

-- ---- before the first iteration

-- forms stand in front of those of another scope
pub record Extends (scope inner : List Held) : Type 0 where
  pub added : List Held
  pub is : inner ≡ added ++ scope

-- At most this many appended instructions make one scope of another before a loop's first iteration, in which its variable is 0.
pub record Enters (old new : List ℕ) (most : ℕ) (counter : Counter) (scope inner : List Held) : Type 0 where
  pub insns : List Insn
  pub emits : Emits old new insns
  pub short : length insns ≤ most
  pub extends : Extends scope inner
  pub holders : AreHolders scope → AreHolders inner
  pub does : (world : World) (memory : List ℕ) (hart : ℕ) (values : Values) (f : ℕ → ℕ) → length memory ≡ world.size → AreHolders scope
      → Knows hart scope (with counter 0 values) f → Stepped world memory insns f (IsKept scope) (Knows hart inner (with counter 0 values))

-- a register is given to a form, and this many stay free
pub record Takes (old new : List ℕ) (counter : Counter) (scope : List Held) (form : AffineForm) (reserved r : ℕ) (inner : List Held) : Type 0 where
  pub enters : Enters old new (sum_words form.per_hart form.sum.terms) counter scope inner
  pub is : inner ≡ record { register = r; form = form } ∷ scope
  pub may : may_hold r ≡ true
  pub left : reserved ≤ left_count inner

-- a register is taken
abbrev pub TakesIf : List ℕ → List ℕ → Counter → List Held → AffineForm → ℕ → Option WidenedScope → Type 0
TakesIf old new counter scope form reserved widened_scope = IfSome widened_scope (λ own. Takes old new counter scope form reserved own.register own.scope.items)

-- or there are no more than this many, and there is no code
abbrev pub IsFullIf : List ℕ → List ℕ → List Held → ℕ → Option WidenedScope → Type 0
IsFullIf old new scope reserved widened_scope = widened_scope ≡ None → (new ≡ old) × (left_count scope ≤ reserved)

-- ---- from one iteration to the next

-- whether a form has a term of the variable
abbrev pub mentions : Counter → List Held → Bool
mentions counter [] = false
mentions counter (own ∷ others) = if has_counter counter own.form.sum.terms then true else mentions counter others

-- how many have
abbrev pub varying : Counter → List Held → ℕ
varying counter [] = 0
varying counter (own ∷ others) = if has_counter counter own.form.sum.terms then suc (varying counter others) else varying counter others

-- each that has is in a register, which code can add to
abbrev pub can_advance : Counter → List Held → Bool
can_advance counter [] = true
can_advance counter (own ∷ others) = (not (has_counter counter own.form.sum.terms) || may_hold own.register) && can_advance counter others

-- no scratch register, and none of those
abbrev pub IsLoopInvariant : Counter → List Held → ℕ → Type 0
IsLoopInvariant counter [] q = (q ≢ scratch) × (q ≢ second_scratch)
IsLoopInvariant counter (own ∷ others) q = (has_counter counter own.form.sum.terms ≡ true → q ≢ own.register) × IsLoopInvariant counter others q

-- At most this many appended instructions make of what registers hold in an iteration what they hold in the next one.
pub record Advances (old new : List ℕ) (most : ℕ) (counter : Counter) (inner : List Held) : Type 0 where
  pub insns : List Insn
  pub emits : Emits old new insns
  pub short : length insns ≤ most
  pub does : (world : World) (memory : List ℕ) (hart : ℕ) (values : Values) (iteration : ℕ) (f : ℕ → ℕ) → length memory ≡ world.size → AreHolders inner
      → Knows hart inner (with counter iteration values) f
      → Stepped world memory insns f (IsLoopInvariant counter inner)
      (Knows hart inner (with counter (suc iteration) values))

-- Registers of a scope with no term of a variable stay where an inner scope goes along with it.
abbrev pub ScopesStay : Type 0
ScopesStay =
    (counter : Counter) (scope inner : List Held) → Extends scope inner → mentions counter scope ≡ false → AreHolders inner
    → (q : ℕ) → IsKept scope q → IsKept inner q × IsLoopInvariant counter inner q

-- One scope is entered after another.
abbrev pub ScopesNest : Type 0
ScopesNest =
    (old middle new : List ℕ) (n k : ℕ) (counter : Counter) (scope next inner : List Held) → Enters old middle n counter scope next
    → Enters middle new k counter next inner → Enters old new (n + k) counter scope inner
