use Rattle.task_code_scalar.specs.Code.{pixel_bytes}
use Rattle.task_code_values.proofs.Scattering.{columns-none, columns-some, source-is}
use Rattle.task_code_values.proofs.Pointing.{stack-place}
use Rattle.task_code_values.proofs.scatters.emit_columns.Goals as goal

pub returns-in_ok-emit_number-in-Sum : goal.returns-in_ok-emit_number-in-Sum
returns-in_ok-emit_number-in-Sum c =
    columns-none c.args.column.now _ c.args.r (pixel_bytes c.args.layout.now.pixels) _ _ c.in-Sum.is c.in_ok-emit_number-in-Sum.ensures

pub returns-in_ok-emit_scaled-in-Register : goal.returns-in_ok-emit_scaled-in-Register
returns-in_ok-emit_scaled-in-Register c =
    columns-some c.args.column.now c.in-Register.s c.args.r (pixel_bytes c.args.layout.now.pixels) _ _ c.in-Register.is c.in_ok-emit_scaled-in-Register.ensures

pub emit_scaled-requires : goal.emit_scaled-requires
emit_scaled-requires c = (stack-place c.args.r c.requires.place, source-is c.args.column.now c.in-Register.s c.in-Register.is c.requires.source)
