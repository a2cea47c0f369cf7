-- The numbers of the refusals and of a drive's faults. This project's own.
use Rattle.std.specs.Prelude.{ℕ}
use Rattle.shared_machine.specs.declared.refusals.TurnRefusal.{TurnRefusal}
use Rattle.shared_machine.specs.declared.refusals.TurnRefusal.TheVariants.{OutOfMemory, TurnsSpent, StopAsked}
use Rattle.shared_machine.specs.declared.refusals.DriveFault.{DriveFault}
use Rattle.shared_machine.specs.declared.refusals.DriveFault.TheVariants as fault

abbrev pub number_of : TurnRefusal → ℕ
number_of OutOfMemory = 1
number_of TurnsSpent = 2
number_of StopAsked = 3

abbrev pub drive_number : DriveFault → ℕ
drive_number fault.OutOfMemory = 1
drive_number fault.NoThread = 2
