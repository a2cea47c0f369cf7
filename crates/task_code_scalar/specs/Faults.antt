-- Why no code is given: for each fault what is then. This project's own.
use Rattle.std.specs.Prelude.{◌≤◌, ◌⊎◌, ℕ, ◌+◌, Option, Some, None}
use Rattle.loop_ir.specs.declared.expressions.Expr.{Expr}
use Rattle.loop_ir.specs.Needs.{need}
use Rattle.task_code_scalar.specs.declared.CodeFault.{CodeFault}
use Rattle.task_code_scalar.specs.declared.CodeFault.TheVariants as faults
use Rattle.task_code_scalar.specs.Code.{frame_words}

-- what is where the code is too long, and where it is too deep; memory may always run out
abbrev pub IsFault : Type 0 → Type 0 → CodeFault → Type 0
IsFault long deep (faults.OutOfMemory error) = Unit {0}
IsFault long deep faults.TooLong = long
IsFault long deep faults.TooDeep = deep

-- all frames of harts lie below 2^32
abbrev pub LieLow : Option ℕ → Type 0
LieLow None = Unit {0}
LieLow (Some start) = start ≤ 4294901760

-- A value that needs this many registers has them: the stack has room from a register on,
abbrev pub FitsStack : Expr → ℕ → Type 0
FitsStack e r = need e + r ≤ 32

-- or the whole stack has room, or the frame from a word on.
abbrev pub HasRoom : Option ℕ → ℕ → ℕ → Type 0
HasRoom frames count word = (count ≤ 12) ⊎ (count + word ≤ frame_words frames)

abbrev pub FitsFrame : Option ℕ → Expr → ℕ → Type 0
FitsFrame frames e word = LieLow frames × HasRoom frames (need e) word
