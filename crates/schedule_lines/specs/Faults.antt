-- The numbers of faults.
-- This project's own.
use Rattle.std.specs.Prelude.{ℕ}
use Rattle.schedule_lines.specs.declared.faults.ScheduleFault.{ScheduleFault}
use Rattle.schedule_lines.specs.declared.faults.ScheduleFault.TheVariants as fault

abbrev pub number : ScheduleFault → ℕ
number fault.Syntax = 1
number fault.UnknownStage = 2
number fault.UnknownLoop = 3
number fault.NameInUse = 4
number fault.Limit = 5
number fault.ReductionOrder = 6
number fault.ParallelNotOutermost = 7
number fault.ParallelReduction = 8
number fault.ShiftOnUpdate = 9
number fault.ParallelInShift = 10
number fault.VectorizedLoop = 11
number fault.UnrolledLoop = 12
number fault.ComputeAt = 13
number fault.Inlined = 14
number fault.InputOrOutput = 15
