-- A lower crate's fault as an engine's: want of memory is one fault for all.
-- This project's own.
use Rattle.log_reports.specs.declared.faults.LogTextFault.{LogTextFault}
use Rattle.run_records.specs.declared.faults.RecordError.{RecordError}
use Rattle.hrv_engines.specs.declared.faults.Refusal.TheVariants.{Load, Log, LogText, Record, Asm, Parse, Picture, Input, Compile}
use Rattle.hrv_engines.specs.declared.faults.Fault.{Fault}
use Rattle.hrv_engines.specs.declared.faults.Fault.TheVariants.{Refused, Memory, Thread}
use Rattle.loader.specs.declared.faults.LoadFault.{LoadFault}
use Rattle.loader.specs.declared.faults.LoadFault.TheVariants as load
use Rattle.turn_log.specs.declared.log_faults.LogFault.{LogFault}
use Rattle.turn_log.specs.declared.log_faults.LogFault.TheVariants as log
use Rattle.shared_machine.specs.declared.refusals.DriveFault.{DriveFault}
use Rattle.shared_machine.specs.declared.refusals.DriveFault.TheVariants as drive
use Rattle.line_text.specs.declared.read_errors.LocatedError.{LocatedError}
use Rattle.line_text.specs.declared.read_errors.LocatedError.TheVariants as located
use Rattle.line_text.specs.declared.read_errors.ReadError.{ReadError}
use Rattle.line_text.specs.declared.read_errors.ReadError.TheVariants as read
use Rattle.assembler.specs.declared.faults.AsmFault.{AsmFault}
use Rattle.halide_parser_syntax.specs.declared.faults.ParseFault.{ParseFault}
use Rattle.hrv_compiler.specs.declared.faults.CompileFault.{CompileFault}
use Rattle.hrv_compiler.specs.declared.faults.CompileFault.TheVariants as compile
use Rattle.picture.specs.declared.faults.PictureFault.{PictureFault}
use Rattle.picture.specs.declared.faults.EvalError.{EvalError}
use Rattle.picture.specs.declared.faults.EvalError.TheVariants as eval

abbrev pub fault_of_load : LoadFault → Fault
fault_of_load load.OutOfMemory = Memory
fault_of_load fault = Refused (Load fault)

abbrev pub fault_of_log : LogFault → Fault
fault_of_log log.OutOfMemory = Memory
fault_of_log fault = Refused (Log fault)

abbrev pub fault_of_log_text : LocatedError LogTextFault → Fault
fault_of_log_text located.Memory = Memory
fault_of_log_text (located.Fault line fault) = Refused (LogText line fault)

abbrev pub fault_of_record : RecordError → Fault
fault_of_record error = Refused (Record error.line error.fault)

abbrev pub fault_of_drive : DriveFault → Fault
fault_of_drive drive.OutOfMemory = Memory
fault_of_drive drive.NoThread = Thread

abbrev pub fault_of_asm : LocatedError AsmFault → Fault
fault_of_asm located.Memory = Memory
fault_of_asm (located.Fault line fault) = Refused (Asm line fault)

abbrev pub fault_of_parse : LocatedError ParseFault → Fault
fault_of_parse located.Memory = Memory
fault_of_parse (located.Fault line fault) = Refused (Parse line fault)

abbrev pub fault_of_picture : ReadError PictureFault → Fault
fault_of_picture read.Memory = Memory
fault_of_picture (read.Fault fault) = Refused (Picture fault)

abbrev pub fault_of_input : EvalError → Fault
fault_of_input eval.OutOfMemory = Memory
fault_of_input fault = Refused (Input fault)

abbrev pub fault_of_compile : CompileFault → Fault
fault_of_compile compile.Memory = Memory
fault_of_compile fault = Refused (Compile fault)
