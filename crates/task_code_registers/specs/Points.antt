-- Addresses of points as forms. This project's own.
use Rattle.std.specs.Prelude.{◌≡◌, ◌≤◌, ℕ, ◌+◌, ◌%◌, ◌^◌, true, List, [], ◌∷◌, length}
use Rattle.halide_pipeline.specs.Words as word
use Rattle.loop_ir.specs.declared.expressions.Linear.{Linear}
use Rattle.loop_ir.specs.declared.expressions.Term.{Term}
use Rattle.loop_ir.specs.Counters.{Values}
use Rattle.loop_ir.specs.Expressions.{linear_value}
use Rattle.task_code_scalar.specs.declared.layouts.BufferLayout.{BufferLayout}
use Rattle.task_code_scalar.specs.Code.{address}
use Rattle.task_code_registers.specs.declared.scopes.AffineForm.{AffineForm}
use Rattle.task_code_registers.specs.declared.scopes.Held.{Held}
use Rattle.task_code_registers.specs.Scopes.{form_value, have_registers}

-- each term times a number
abbrev pub times : ℕ → List Term → List Term
times factor [] = []
times factor (first ∷ others) = record { counter = first.counter; stride = word.multiply first.stride factor } ∷ times factor others

-- A form is the address of the point at a column and a row, modulo 2^32. Its loop variables are theirs.
pub record IsPoint (layout : BufferLayout) (x y : Linear) (form : AffineForm) : Type 0 where
  pub value : (hart : ℕ) (values : Values)
      → form_value hart values form ≡ address layout hart (linear_value values x) (linear_value values y) % 2 ^ 32
  pub few : length form.sum.terms ≤ length x.terms + length y.terms
  pub have : (scope : List Held) → have_registers scope x.terms ≡ true → have_registers scope y.terms ≡ true
      → have_registers scope form.sum.terms ≡ true
