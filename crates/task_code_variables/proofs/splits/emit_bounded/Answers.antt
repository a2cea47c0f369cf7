use Rattle.std.proofs.Common.{arith}
use Rattle.task_code_variables.proofs.Entering.{bounded-none, bounded-some}
use Rattle.task_code_variables.proofs.splits.emit_bounded.Goals as goal

pub returns-in-None : goal.returns-in-None
returns-in-None c = bounded-none c.args.last c.args.r _ c.in-None.is

pub returns-in_ok-emit_blend-in-Some : goal.returns-in_ok-emit_blend-in-Some
returns-in_ok-emit_blend-in-Some c =
    bounded-some c.args.last c.in-Some.last c.args.r _ _ _ _ c.in-Some.is (omega arith) c.requires.place c.requires.other c.in_ok-emit_number-in-Some.ensures
    c.in_ok-alu-in-Some.ensures c.in_ok-emit_blend-in-Some.ensures
