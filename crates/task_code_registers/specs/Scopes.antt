-- What registers hold while code runs: sums of loop variables. This project's own.
use Rattle.std.specs.Prelude.{◌≡◌, ◌≢◌, ◌⊎◌, ℕ, zero, suc, ◌+◌, ◌*◌, ◌%◌, ◌^◌, Bool, true, false, List, [], ◌∷◌}
use Rattle.std.specs.Prelude.{◌==◌, ◌||◌, ◌&&◌, not, if◌then◌else◌}
use Rattle.loop_ir.specs.declared.expressions.Counter.{Counter}
use Rattle.loop_ir.specs.declared.expressions.Term.{Term}
use Rattle.loop_ir.specs.Counters.{Values, same_counter}
use Rattle.loop_ir.specs.Expressions.{linear_value}
use Rattle.multi_hart_laws.specs.Paths.{vl_number, vtype_number}
use Rattle.task_code_registers.specs.declared.scopes.AffineForm.{AffineForm}
use Rattle.task_code_registers.specs.declared.scopes.Held.{Held}
use Rattle.task_code_registers.specs.Registers.{zero_register, hart_number, hart_count, first_value, may_hold, IsWorking}

-- ---- forms

-- on a hart, where loop variables have these values
unfoldable pub form_value : ℕ → Values → AffineForm → ℕ
form_value hart values form = (linear_value values form.sum + hart * form.per_hart) % 2 ^ 32

-- ---- which registers a scope has

-- code keeps them: x0, those of harts, and those that hold forms
abbrev pub IsKept : List Held → ℕ → Type 0
IsKept [] q = (q ≡ zero_register) ⊎ ((q ≡ hart_number) ⊎ (q ≡ hart_count))
IsKept (own ∷ others) q = (q ≡ own.register) ⊎ IsKept others q

-- code may change it
abbrev pub IsFree : List Held → ℕ → Type 0
IsFree scope r = (q : ℕ) → IsKept scope q → q ≢ r

-- What holds a form: a register, or the number of lanes or their configuration, which are numbers of a hart too.
abbrev pub IsHolder : ℕ → Type 0
IsHolder q = (may_hold q ≡ true) ⊎ ((q ≡ vl_number) ⊎ (q ≡ vtype_number))

-- each of them holds one form
abbrev pub AreHolders : List Held → Type 0
AreHolders [] = Unit {0}
AreHolders (own ∷ others) = IsHolder own.register × (IsFree others own.register × AreHolders others)

-- registers hold all forms, and neither the number of lanes nor their configuration does
abbrev pub are_registers : List Held → Bool
are_registers [] = true
are_registers (own ∷ others) = may_hold own.register && are_registers others

-- ---- what they hold

-- x0 is 0, x10 is the hart's number, and each register of the scope has its form's value
abbrev pub Knows : ℕ → List Held → Values → (ℕ → ℕ) → Type 0
Knows hart [] values f = (f zero_register ≡ 0) × (f hart_number ≡ hart)
Knows hart (own ∷ others) values f = (f own.register ≡ form_value hart values own.form) × Knows hart others values f

-- ---- registers that may still be given to forms

abbrev pub IsLeft : List Held → ℕ → Type 0
IsLeft scope r = (may_hold r ≡ true) × IsFree scope r

abbrev pub is_held : List Held → ℕ → Bool
is_held [] q = false
is_held (own ∷ others) q = if own.register == q then true else is_held others q

abbrev pub is_left : List Held → ℕ → Bool
is_left scope q = may_hold q && not (is_held scope q)

-- how many registers below this one
unfoldable pub left_below : List Held → ℕ → ℕ
left_below scope zero = 0
left_below scope (suc q) = if is_left scope q then suc (left_below scope q) else left_below scope q

abbrev pub left_count : List Held → ℕ
left_count scope = left_below scope first_value

-- ---- loop variables

-- the variable once, and no other term
abbrev pub is_once : Counter → List Term → Bool
is_once counter [] = false
is_once counter (own ∷ []) = same_counter own.counter counter && own.stride == 1
is_once counter (own ∷ (next ∷ others)) = false

-- the form is the variable alone
abbrev pub is_variable : Counter → AffineForm → Bool
is_variable counter form = form.sum.number == 0 && (form.per_hart == 0 && is_once counter form.sum.terms)

-- some register holds the variable alone
abbrev pub has_variable : List Held → Counter → Bool
has_variable [] counter = false
has_variable (own ∷ others) counter = if may_hold own.register && is_variable counter own.form then true else has_variable others counter

-- each variable of these terms has a register, but for those that count nothing
abbrev pub have_registers : List Held → List Term → Bool
have_registers scope [] = true
have_registers scope (first ∷ others) = (first.stride == 0 || has_variable scope first.counter) && have_registers scope others

-- ---- a law

abbrev pub WorkingRegistersAreFree : Type 0
WorkingRegistersAreFree = (scope : List Held) (r : ℕ) → AreHolders scope → IsWorking r → IsFree scope r
