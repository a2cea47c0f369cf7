use Rattle.std.proofs.Common.{ap}
use Rattle.std.specs.Prelude.{map}
use Rattle.std.specs.String.{string_bytes}
use Rattle.hrv_engines.proofs.Compilations.{compiled, wrong_inputs}
use Rattle.hrv_engines.proofs.compiling.compilation_of.Goals as goal

pub returns : goal.returns
returns c =
    let read = rw (ap (map string_bytes) c.deref.ensures.value) at c.in_ok-pictures.ensures.ok in
    compiled c.args.alloc ((c.args.algorithm.now, c.args.schedule.now), map string_bytes c.args.inputs.items) c.in_ok-program.program
    c.in_ok-pictures.pictures.items c.in_ok-bytes.bytes.items c.in_ok-program.ensures.passed c.in_ok-program.ensures.means c.in_ok-program.ensures.rules read
    c.in_ok-bytes.ensures.judged c.in_ok-bytes.ensures.rules c.in_ok-bytes.ensures.correct c.in_ok-bytes.ensures.assigned c.in_ok-bytes.ensures.runs
    c.in_ok-bytes.ensures.is

pub returns-in_err-bytes : goal.returns-in_err-bytes
returns-in_err-bytes c =
    let read = rw (ap (map string_bytes) c.deref.ensures.value) at c.in_ok-pictures.ensures.ok in
    wrong_inputs (λ bytes. bytes.items) c.args.alloc ((c.args.algorithm.now, c.args.schedule.now), map string_bytes c.args.inputs.items) c.in_ok-program.program
    c.in_ok-pictures.pictures.items c.from_residual-in_err-bytes.result
    c.in_err-bytes.field-0.0 c.from_residual-in_err-bytes.ensures.1 c.in_ok-program.ensures.passed c.in_ok-program.ensures.means read c.in_err-bytes.ensures.err
