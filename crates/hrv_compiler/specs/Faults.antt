-- A lower crate's fault as a compiler's: want of memory is one fault for all.
-- This project's own.
use Rattle.line_text.specs.declared.read_errors.LocatedError.{LocatedError}
use Rattle.line_text.specs.declared.read_errors.LocatedError.TheVariants as located
use Rattle.halide_parser_syntax.specs.declared.faults.ParseFault.{ParseFault}
use Rattle.schedule_lines.specs.declared.faults.ScheduleFault.{ScheduleFault}
use Rattle.bounds_weights.specs.declared.faults.WeightError.{WeightError}
use Rattle.bounds_weights.specs.declared.faults.WeightError.TheVariants as weights
use Rattle.bounds.specs.declared.faults.BoundsFault.{BoundsFault}
use Rattle.bounds.specs.declared.faults.BoundsFault.TheVariants as bounds
use Rattle.hrv_compiler.specs.declared.faults.CompileFault.{CompileFault}
use Rattle.hrv_compiler.specs.declared.faults.CompileFault.TheVariants as faults

abbrev pub fault_of_parse : LocatedError ParseFault → CompileFault
fault_of_parse located.Memory = faults.Memory
fault_of_parse (located.Fault line fault) = faults.Parse line fault

abbrev pub fault_of_schedule : LocatedError ScheduleFault → CompileFault
fault_of_schedule located.Memory = faults.Memory
fault_of_schedule (located.Fault line fault) = faults.Schedule line fault

abbrev pub fault_of_weight : WeightError → CompileFault
fault_of_weight weights.OutOfMemory = faults.Memory
fault_of_weight weights.TooHeavy = faults.Lower weights.TooHeavy

abbrev pub fault_of_bounds : BoundsFault → CompileFault
fault_of_bounds bounds.OutOfMemory = faults.Memory
fault_of_bounds fault = faults.Bounds fault
