-- What is in front of a loop: forms that registers hold, and what tells after each iteration whether there is a next one.
-- This project's own.
use Rattle.std.specs.Prelude.{◌≡◌, ◌<◌, ◌≤◌, ℕ, suc, ◌+◌, ◌*◌, ◌^◌, nat_lt, Bool, true, false, List, [], ◌∷◌, Option, IfSome}
use Rattle.rv_insn.specs.declared.operations.BranchOp.TheVariants as branches
use Rattle.hart_core.specs.Scalar.{is_taken}
use Rattle.loop_ir.specs.declared.expressions.Counter.{Counter}
use Rattle.loop_ir.specs.Counters.{Values, same_counter, with}
use Rattle.task_code_registers.specs.declared.scopes.AffineForm.{AffineForm}
use Rattle.task_code_registers.specs.declared.scopes.Held.{Held}
use Rattle.task_code_registers.specs.Emitting.{MakesValue, sum_words}
use Rattle.task_code_registers.specs.Holding.{Enters, Takes, can_advance, mentions, varying}
use Rattle.task_code_registers.specs.Registers.{may_hold}
use Rattle.task_code_registers.specs.Scopes.{Knows, are_registers, has_variable, have_registers, left_count}
use Rattle.task_code_loops.specs.declared.beginning.BegunLoop.{BegunLoop}
use Rattle.task_code_loops.specs.declared.tests.Limit.{Limit}
use Rattle.task_code_loops.specs.declared.tests.Limit.TheVariants.{Register, Number}
use Rattle.task_code_loops.specs.declared.tests.Tested.{Tested}

-- a loop variable as a form
abbrev pub variable : Counter → AffineForm
variable counter = record {
  sum = record { number = 0; terms = record { counter = counter; stride = 1 } ∷ [] };
  per_hart = 0;
}

-- a number as a form
abbrev pub number : ℕ → AffineForm
number n = record { sum = record { number = n; terms = [] }; per_hart = 0 }

-- how many instructions at most make each of these forms
abbrev pub forms_words : List AffineForm → ℕ
forms_words [] = 0
forms_words (form ∷ others) = sum_words form.per_hart form.sum.terms + forms_words others

-- a form's value is made in a register, if it says so
abbrev pub MakesIf : List ℕ → List ℕ → List Held → AffineForm → ℕ → Bool → Type 0
MakesIf old new scope form r bool = bool ≡ true → MakesValue old new scope form r

-- a loop variable of the form has no register
abbrev pub HasNoRegister : List Held → AffineForm → Type 0
HasNoRegister scope form = have_registers scope form.sum.terms ≡ false

-- or there is no code
abbrev pub IsUnknownIf : List ℕ → List ℕ → List Held → AffineForm → Bool → Type 0
IsUnknownIf old new scope form bool = bool ≡ false → (new ≡ old) × HasNoRegister scope form

-- ---- when a loop ends

-- the number that a register is compared with
abbrev pub limit_of : (ℕ → ℕ) → Limit → ℕ
limit_of f (Register r) = f r
limit_of f (Number n) = n

abbrev pub may_be_limit : Limit → Bool
may_be_limit (Register r) = may_hold r
may_be_limit (Number n) = nat_lt n (2 ^ 32)

-- Where registers hold what they hold in the next iteration, a register differs from its limit just if there is one.
pub record IsTest (counter : Counter) (count : ℕ) (inner : List Held) (register : ℕ) (limit : Limit) : Type 0 where
  pub may : may_hold register ≡ true
  pub limit_may : may_be_limit limit ≡ true
  pub differs : (hart i : ℕ) (values : Values) (f : ℕ → ℕ) → i < count → Knows hart inner (with counter (suc i) values) f
      → is_taken branches.Bne (f register) (limit_of f limit) ≡ nat_lt (suc i) count

-- ---- what a loop holds for which no forms are wanted

-- The loop's variable has a register, which alone goes along with it beside those of the scope around, and there is no term of another variable
-- that this scope lacks.
pub record HoldsPlainly (counter : Counter) (scope inner : List Held) : Type 0 where
  pub variable : has_variable inner counter ≡ true
  pub others : (other : Counter) → same_counter counter other ≡ false → mentions other inner ≡ mentions other scope
  pub registers : are_registers scope ≡ true → are_registers inner ≡ true
  pub moves : varying counter inner ≤ suc (varying counter scope)

-- ---- before a loop

-- If a register is found, it is given to the form, as it is in the first iteration, and this many stay free.
abbrev pub StartsIf : List ℕ → List ℕ → Counter → List Held → AffineForm → ℕ → Option ℕ → Type 0
StartsIf old new counter scope form reserved found =
    IfSome found (λ r. Takes old new counter scope form reserved r (record { register = r; form = form } ∷ scope))

-- One scope is made of another, and in that one code can go along with the loop, and as many registers are left.
pub record Gains (old new : List ℕ) (most : ℕ) (counter : Counter) (reserved : ℕ) (scope inner : List Held) : Type 0 where
  pub enters : Enters old new most counter scope inner
  pub can : can_advance counter scope ≡ true → can_advance counter inner ≡ true
  pub left : reserved ≤ left_count scope → reserved ≤ left_count inner

-- so it is for one form, and for several
abbrev pub GainsForm : List ℕ → List ℕ → Counter → AffineForm → ℕ → List Held → List Held → Type 0
GainsForm old new counter form reserved scope inner = Gains old new (sum_words form.per_hart form.sum.terms) counter reserved scope inner

abbrev pub GainsOf : List ℕ → List ℕ → Counter → List AffineForm → ℕ → List Held → List Held → Type 0
GainsOf old new counter forms reserved scope inner = Gains old new (forms_words forms) counter reserved scope inner

-- a scope in which there is a test
pub record Tests (old new : List ℕ) (most : ℕ) (counter : Counter) (count : ℕ) (scope : List Held) (reserved : ℕ) (tested : Tested) : Type 0 where
  pub enters : Enters old new most counter scope tested.scope.items
  pub can : can_advance counter scope ≡ true → can_advance counter tested.scope.items ≡ true
  pub left : reserved ≤ left_count tested.scope.items
  pub test : IsTest counter count tested.scope.items tested.register tested.limit

-- by a form, or by one of several
abbrev pub TestsForm : List ℕ → List ℕ → AffineForm → Counter → ℕ → List Held → ℕ → Tested → Type 0
TestsForm old new form counter count scope reserved tested = Tests old new (10 + 2 * sum_words form.per_hart form.sum.terms) counter count scope reserved tested

abbrev pub TestsForms : List ℕ → List ℕ → List AffineForm → Counter → ℕ → List Held → ℕ → Tested → Type 0
TestsForms old new wanted counter count scope reserved tested = Tests old new (10 + 2 * forms_words wanted) counter count scope reserved tested

-- Another scope, in which there is a test wherever there is one in this scope, and which holds no more than a limit beside it.
pub record Betters (old new : List ℕ) (most : ℕ) (counter : Counter) (reserved : ℕ) (tested new_tested : Tested) : Type 0 where
  pub gains : Gains old new most counter reserved tested.scope.items new_tested.scope.items
  pub test : (count : ℕ) → IsTest counter count tested.scope.items tested.register tested.limit
      → IsTest counter count new_tested.scope.items new_tested.register new_tested.limit
  pub plain : (scope : List Held) → HoldsPlainly counter scope tested.scope.items → HoldsPlainly counter scope new_tested.scope.items

-- how many instructions at most stand in front of a loop for which these forms are wanted
abbrev pub begin_words : List AffineForm → ℕ
begin_words wanted = 16 + 3 * forms_words wanted

-- a loop's iterations can go along with what registers hold, and they end
pub record CanEnd (begun : BegunLoop) : Type 0 where
  pub can : can_advance begun.counter begun.inner.items ≡ true
  pub test : IsTest begun.counter begun.count begun.inner.items begun.register begun.limit
  pub some : 1 ≤ begun.count

-- A loop of this many iterations is entered, and this many registers are left.
pub record IsBegun (old new : List ℕ) (most : ℕ) (counter : Counter) (count : ℕ) (scope : List Held) (reserved : ℕ) (begun : BegunLoop) : Type 0 where
  pub enters : Enters old new most counter scope begun.inner.items
  pub ends : CanEnd begun
  pub counter_is : begun.counter ≡ counter
  pub count_is : begun.count ≡ count
  pub left : reserved ≤ left_count begun.inner.items

-- of these forms as far as there is room
abbrev pub Begins : List ℕ → List ℕ → List AffineForm → Counter → ℕ → List Held → ℕ → BegunLoop → Type 0
Begins old new wanted counter count scope reserved begun = IsBegun old new (begin_words wanted) counter count scope reserved begun
