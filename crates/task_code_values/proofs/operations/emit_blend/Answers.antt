use Rattle.task_code_values.proofs.Operating.{blend-made}
use Rattle.task_code_values.proofs.operations.emit_blend.Goals as goal

pub returns : goal.returns
returns c = blend-made c.args.r c.args.a c.args.b _ _ _ _ c.requires.0 c.requires.1 c.in_ok-alu.ensures c.in_ok-alu-2.ensures c.in_ok-alu-3.ensures
