-- The numbers of faults.
-- This project's own.
use Rattle.std.specs.Prelude.{ℕ, Option, Some, None}
use Rattle.bounds.specs.declared.faults.BoundsFault.{BoundsFault}
use Rattle.bounds.specs.declared.faults.BoundsFault.TheVariants as faults

abbrev pub fault_number : BoundsFault → Option ℕ
fault_number faults.InputExtents = Some 1
fault_number faults.FarBox = Some 2
fault_number faults.ShortShift = Some 3
fault_number faults.TooLarge = Some 4
fault_number faults.OutOfMemory = None
