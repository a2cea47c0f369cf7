-- What comes of one way to make a task's code. This project's own.
use Rattle.std.specs.Prelude.{◌≡◌, ℕ, Bool, true, false, List}
use Rattle.loop_ir.specs.declared.statements.Phase.{Phase}
use Rattle.task_code_scalar.specs.declared.layouts.Places.{Places}
use Rattle.task_code.specs.Tasks.{EmitsTask}

-- words of a task are appended, or nothing is
abbrev pub EmitsTaskIf : List ℕ → List ℕ → Phase → Places → ℕ → Bool → Type 0
EmitsTaskIf old new phase places ticket false = new ≡ old
EmitsTaskIf old new phase places ticket true = EmitsTask old new phase places ticket
