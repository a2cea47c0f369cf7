use Rattle.task_code_values.proofs.Pointing.{rows-made}
use Rattle.task_code_values.proofs.points.emit_rows.Goals as goal

pub returns : goal.returns
returns c =
    rows-made c.args.layout.now c.bytes_of.result c.multiply-row.result c.args.r c.args.s _ _ c.bytes_of.ensures c.multiply-row.ensures
    c.in_ok-emit_times.ensures
