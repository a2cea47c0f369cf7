-- Forms that stay below an extent, or past it. This project's own.
use Rattle.std.specs.Prelude.{◌≤◌, ◌<◌, ℕ, List, [], ◌∷◌}
use Rattle.loop_ir.specs.declared.expressions.Counter.{Counter}
use Rattle.loop_ir.specs.declared.expressions.Term.{Term}
use Rattle.loop_ir.specs.Counters.{Values}
use Rattle.loop_ir.specs.Expressions.{sum_of}
use Rattle.task_code_registers.specs.declared.scopes.AffineForm.{AffineForm}
use Rattle.task_code_registers.specs.Scopes.{form_value}
use Rattle.task_code_loops.specs.declared.bounds.Bound.{Bound}

-- each variable is below its count
abbrev pub AreBelow : List Bound → Values → Type 0
AreBelow [] values = Unit {0}
AreBelow (own ∷ others) values = (values own.counter < own.count) × AreBelow others values

-- a variable stays below a number
abbrev pub IsBound : List Bound → Counter → ℕ → Type 0
IsBound bounds counter n = (values : Values) → AreBelow bounds values → values counter < n

-- terms come to no more
abbrev pub IsMost : List Bound → List Term → ℕ → Type 0
IsMost bounds terms most = (values : Values) → AreBelow bounds values → sum_of values terms ≤ most

-- a form stays below an extent
abbrev pub IsBelow : List Bound → AffineForm → ℕ → Type 0
IsBelow bounds form extent = (hart : ℕ) (values : Values) → AreBelow bounds values → form_value hart values form < extent

-- a form is an extent or more
abbrev pub IsPast : List Bound → AffineForm → ℕ → Type 0
IsPast bounds form extent = (hart : ℕ) (values : Values) → AreBelow bounds values → extent ≤ form_value hart values form
