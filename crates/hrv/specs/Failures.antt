-- The exit status of the program.
-- This project's own.
use Rattle.std.specs.Prelude.{ℕ}
use Rattle.hrv_command_line.specs.Faults as words
use Rattle.hrv.specs.declared.failures.Failure.{Failure}
use Rattle.hrv.specs.declared.failures.Failure.TheVariants.{CommandLine, Engine}

-- that of the words; 1 where an engine gives no answer
abbrev pub status_of : Failure → ℕ
status_of (CommandLine fault) = words.status_of fault
status_of (Engine fault) = 1
