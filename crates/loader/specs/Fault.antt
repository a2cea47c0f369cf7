-- The numbers of the faults, which are this project's own.
use Rattle.std.specs.Prelude.{ℕ, Option, Some, None}
use Rattle.loader.specs.declared.faults.LoadFault.{LoadFault}
use Rattle.loader.specs.declared.faults.LoadFault.TheVariants.{Magic, Truncated, TrailingBytes, OverLimit, Entry, OutputRange, HartCount, StoredZero}
use Rattle.loader.specs.declared.faults.LoadFault.TheVariants.{OutOfMemory}

abbrev pub number_of : LoadFault → Option ℕ
number_of Magic = Some 1
number_of Truncated = Some 2
number_of TrailingBytes = Some 3
number_of OverLimit = Some 4
number_of Entry = Some 5
number_of OutputRange = Some 6
number_of HartCount = Some 7
number_of StoredZero = Some 8
number_of OutOfMemory = None
