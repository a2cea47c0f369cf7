-- Why a command line is refused, and the exit status of that.
-- This project's own.
use Rattle.std.specs.Prelude.{ℕ}
use Rattle.clap.specs.declared.error.Error.{Error}
use Rattle.clap.specs.declared.error.kind.ErrorKind.{ErrorKind}
use Rattle.clap.specs.declared.error.kind.ErrorKind.TheVariants as kinds
use Rattle.hrv_command_line.specs.declared.faults.CommandLineFault.{CommandLineFault}
use Rattle.hrv_command_line.specs.declared.faults.CommandLineFault.TheVariants.{Refused, NotText, Uncombined, Unexplained, Memory}

-- an error of clap: want of memory is a fault of its own
abbrev pub fault_for : ErrorKind → Error → CommandLineFault
fault_for kinds.OutOfMemory error = Memory
fault_for _ error = Refused error

-- 2 for the words, 1 for want of memory
abbrev pub status_of : CommandLineFault → ℕ
status_of (Refused error) = 2
status_of NotText = 2
status_of Uncombined = 2
status_of Unexplained = 2
status_of Memory = 1
