use Rattle.std.proofs.Common.{ap}
use Rattle.loop_ir.specs.declared.statements.LoopKind.TheVariants as kinds
use Rattle.loop_ir.specs.declared.statements.Stmt.{Stmt}
use Rattle.loop_ir.specs.declared.statements.Stmt.TheVariants as s
use Rattle.task_code_borders.proofs.parting.around.Goals as goal

pub returns : goal.returns
returns c = ap (λ (inner : Stmt). s.For c.args.counter c.args.count kinds.Serial inner) c.in_ok-boxed.ensures
