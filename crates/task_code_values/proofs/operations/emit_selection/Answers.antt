use Rattle.task_code_values.proofs.Operating.{selection-made}
use Rattle.task_code_values.proofs.operations.emit_selection.Goals as goal

pub returns : goal.returns
returns c = selection-made c.args.r c.args.condition c.args.a c.args.b _ _ _ c.requires c.in_ok-alu.ensures c.in_ok-emit_blend.ensures
