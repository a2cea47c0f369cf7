-- Why no code of a task is given: for each fault what is then, by counts on the phase alone. This project's own.
use Rattle.std.specs.Prelude.{◌≤◌, ◌^◌}
use Rattle.loop_ir.specs.declared.statements.Phase.{Phase}
use Rattle.loop_ir.specs.Depths.{task_depth}
use Rattle.loop_ir.specs.Needs.{greatest_need}
use Rattle.task_code_scalar.specs.declared.CodeFault.{CodeFault}
use Rattle.task_code_scalar.specs.declared.layouts.Places.{Places}
use Rattle.task_code_scalar.specs.Faults.{IsFault, LieLow, HasRoom}
use Rattle.task_code.specs.Tasks.{task_size}

-- the expressions have room on the stack or in a frame, and all loop variables around a store, of which 14 have registers
abbrev pub FitsTask : Phase → Places → Type 0
FitsTask phase places = LieLow places.frames × (HasRoom places.frames (greatest_need phase.body) 0 × (task_depth phase ≤ 14))

-- it asks for as many words as a text may have, or it doesn't fit
abbrev pub IsTaskFault : Phase → Places → CodeFault → Type 0
IsTaskFault phase places = IsFault (2 ^ 18 ≤ task_size phase) (FitsTask phase places → ⊥)
