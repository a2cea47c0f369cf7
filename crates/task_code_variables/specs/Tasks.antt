-- One task of a phase, with loop variables alone in registers: what they hold where it begins, and how many words it has. This project's own.
use Rattle.std.specs.Prelude.{◌≤◌, ℕ, ◌+◌, List, [], ◌∷◌, length, Option, Some, None}
use Rattle.loop_ir.specs.declared.expressions.Counter.{Counter}
use Rattle.loop_ir.specs.declared.statements.Phase.{Phase}
use Rattle.loop_ir.specs.Sizes.{whole_size}
use Rattle.task_code_scalar.specs.declared.layouts.Places.{Places}
use Rattle.task_code_registers.specs.declared.scopes.Held.{Held}
use Rattle.task_code_statements.specs.Drawing.{drawn}
use Rattle.task_code_statements.specs.Tasks.{AppendsTask}
use Rattle.task_code_variables.specs.Renaming.{numbered}

-- ---- where a task begins

-- the loop around it is the task's own
abbrev pub loops_around : Option Counter → List Counter
loops_around None = []
loops_around (Some own) = own ∷ []

-- x12 holds its variable
abbrev pub held_first : Option Counter → List Held
held_first None = []
held_first (Some own) = drawn (numbered 0)

-- ---- its words

-- Words of a task are appended, no more than its statement asks for and 8, which leave what the draw and the gate look for.
pub record AppendsShortTask (old new : List ℕ) (phase : Phase) (places : Places) (ticket : ℕ) : Type 0 where
  pub task : AppendsTask old new phase places ticket
  pub short : length task.insns ≤ whole_size phase.body + 8
