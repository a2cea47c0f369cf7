-- The numbers of the faults.
-- This project's own.
use Rattle.std.specs.Prelude.{ℕ}
use Rattle.halide_parser_syntax.specs.declared.faults.ParseFault.{ParseFault}
use Rattle.halide_parser_syntax.specs.declared.faults.ParseFault.TheVariants as fault

abbrev pub number : ParseFault → ℕ
number fault.Syntax = 1
number fault.UnknownName = 2
number fault.NameTaken = 3
number fault.WrongCount = 4
number fault.Divisor = 5
number fault.NumberTooLarge = 6
number fault.UpdateShape = 7
number fault.Limit = 8
number fault.NoOutput = 9
