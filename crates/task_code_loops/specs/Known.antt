-- Loop variables that are sums of others. This project's own.
use Rattle.std.specs.Prelude.{◌≡◌, ℕ, ◌+◌, ◌*◌, ◌%◌, ◌^◌, ◌||◌, not, ◌&&◌, Bool, true, false, List, [], ◌∷◌}
use Rattle.loop_ir.specs.declared.expressions.Counter.{Counter}
use Rattle.loop_ir.specs.declared.expressions.Linear.{Linear}
use Rattle.loop_ir.specs.Counters.{Values, same_counter, with}
use Rattle.loop_ir.specs.declared.expressions.Term.{Term}
use Rattle.loop_ir.specs.Expressions.{linear_value, sum_of}
use Rattle.task_code_registers.specs.declared.scopes.AffineForm.{AffineForm}
use Rattle.task_code_registers.specs.Scopes.{form_value}
use Rattle.task_code_registers.specs.Strides.{has_counter}
use Rattle.task_code_loops.specs.declared.known.KnownSum.{KnownSum}

-- each variable has its sum's value
abbrev pub AreKnown : List KnownSum → Values → Type 0
AreKnown [] values = Unit {0}
AreKnown (own ∷ others) values = (values own.counter % 2 ^ 32 ≡ linear_value values own.sum) × AreKnown others values

-- a variable is a sum wherever these are known
abbrev pub IsKnownSum : List KnownSum → Counter → Linear → Type 0
IsKnownSum known counter sum = (values : Values) → AreKnown known values → values counter % 2 ^ 32 ≡ linear_value values sum

-- a sum is another one and a term, or several
abbrev pub AddsTerm : List KnownSum → Linear → Linear → Term → Type 0
AddsTerm known old new term =
    (values : Values) → AreKnown known values → linear_value values new ≡ (linear_value values old + values term.counter * term.stride) % 2 ^ 32

abbrev pub AddsTerms : List KnownSum → Linear → Linear → List Term → Type 0
AddsTerms known old new terms =
    (values : Values) → AreKnown known values → linear_value values new ≡ (linear_value values old + sum_of values terms) % 2 ^ 32

-- a sum comes to the same as another one wherever these are known
abbrev pub IsRewrittenSum : List KnownSum → Linear → Linear → Type 0
IsRewrittenSum known sum new_sum = (values : Values) → AreKnown known values → linear_value values new_sum ≡ linear_value values sum

-- a form is another one wherever these are known
abbrev pub IsRewritten : List KnownSum → AffineForm → AffineForm → Type 0
IsRewritten known form affine_form = (hart : ℕ) (values : Values) → AreKnown known values → form_value hart values affine_form ≡ form_value hart values form

-- none of these is that variable, or a sum of it
abbrev pub is_fresh : Counter → List KnownSum → Bool
is_fresh counter [] = true
is_fresh counter (own ∷ others) = not (same_counter own.counter counter || has_counter counter own.sum.terms) && is_fresh counter others

-- What is known stays so wherever such a variable is.
abbrev pub KnownStays : Type 0
KnownStays = (counter : Counter) (v : ℕ) (known : List KnownSum) (values : Values) → is_fresh counter known ≡ true → AreKnown known values
    → AreKnown known (with counter v values)

-- A variable that is at the value of a sum without it is known beside the others.
abbrev pub OneMoreIsKnown : Type 0
OneMoreIsKnown = (counter : Counter) (v : ℕ) (sum : Linear) (known : List KnownSum) (values : Values) → is_fresh counter known ≡ true
    → has_counter counter sum.terms ≡ false → v % 2 ^ 32 ≡ linear_value values sum → AreKnown known values
    → AreKnown (record { counter = counter; sum = sum } ∷ known) (with counter v values)
