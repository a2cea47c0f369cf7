use Rattle.task_code_values.proofs.Scattering.{rows-none, rows-some}
use Rattle.task_code_values.proofs.scatters.emit_rows_added.Goals as goal

pub returns-in-Sum : goal.returns-in-Sum
returns-in-Sum c = rows-none c.args.layout.now c.args.row.now _ c.args.r _ c.in-Sum.is

pub returns-in_ok-alu-in-Register : goal.returns-in_ok-alu-in-Register
returns-in_ok-alu-in-Register c =
    rows-some c.args.layout.now c.args.row.now c.in-Register.t c.args.r c.bytes_of.result c.multiply-bytes.result _ _ _ c.requires.place c.in-Register.is
    c.bytes_of.ensures c.multiply-bytes.ensures c.in_ok-emit_times-in-Register.ensures c.in_ok-alu-in-Register.ensures
