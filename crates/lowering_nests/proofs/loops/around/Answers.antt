use Rattle.std.proofs.Common.{subst}
use Rattle.loop_ir.specs.declared.statements.Stmt.{Stmt}
use Rattle.lowering_nests.specs.Loops.{Loops}
use Rattle.loop_ir.specs.declared.statements.Stmt.TheVariants as stmts
use Rattle.lowering_nests.proofs.Tests.{loop_around}
use Rattle.lowering_nests.proofs.loops.around.Goals as goal

pub returns : goal.returns
returns c =
    subst (λ (own : Stmt). Loops c.args.counter c.args.count c.args.kind own (stmts.For c.args.counter c.args.count c.args.kind c.in_ok-body.body))
    c.in_ok-body.ensures (loop_around c.args.counter c.args.count c.args.kind c.in_ok-body.body)
