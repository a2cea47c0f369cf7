-- What registers hold and what is known where a task begins. This project's own.
use Rattle.std.specs.Prelude.{◌≡◌, ◌<◌, ℕ, List, [], ◌∷◌, Bool, false, Option, Some, None}
use Rattle.loop_ir.specs.declared.expressions.Counter.{Counter}
use Rattle.loop_ir.specs.Counters.{same_counter}
use Rattle.task_code_registers.specs.declared.scopes.Held.{Held}
use Rattle.task_code_registers.specs.Registers.{zero_register, hart_number}
use Rattle.task_code_registers.specs.Scopes.{Knows, AreHolders}
use Rattle.task_code_loops.specs.Beginning.{variable}
use Rattle.task_code_statements.specs.declared.contexts.Context.{Context}
use Rattle.task_code_statements.specs.Contexts.{Meets}
use Rattle.task_code_statements.specs.Starts.{IsOfStages, starts}

-- x12 holds its number
abbrev pub drawn : Counter → List Held
drawn counter = record { register = 12; form = variable counter } ∷ []

-- Where the number of one of this many tasks is drawn registers hold the scope's forms, and loop variables are as known; a stage has that of the task.
pub record Begins (counter : Option Counter) (tasks : ℕ) (scope : List Held) (context : Context) : Type 0 where
  pub of_stages : IsOfStages counter
  pub holders : AreHolders scope
  pub knows : (hart task : ℕ) (f : ℕ → ℕ) → task < tasks → f zero_register ≡ 0 → f hart_number ≡ hart → f 12 ≡ task
      → Knows hart scope (starts counter task) f
  pub meets : (task : ℕ) → task < tasks → Meets context (starts counter task)

-- ---- variables that no loop has

-- the variable of the task's number
abbrev pub is_own : Option Counter → Counter → Bool
is_own None counter = false
is_own (Some own) counter = same_counter counter own

-- Wherever variables stand before a task, another context is met there if one is.
pub record StaysMet (counter : Option Counter) (context new_context : Context) : Type 0 where
  pub meets : (task : ℕ) → Meets context (starts counter task) → Meets new_context (starts counter task)
