use Rattle.std.proofs.Common.{arith, sym, ◌∙◌}
use Rattle.task_code_statements.proofs.Tasking.{none-begins, drawn-begins}
use Rattle.task_code_statements.proofs.tasks.beginning.Goals as goal

pub returns-in-None : goal.returns-in-None
returns-in-None c = none-begins c.args.counter c.args.tasks c.new.result.items c.nothing_known.result c.in-None.is c.new.ensures.items c.nothing_known.ensures

pub returns-in_ok-context-in-Some : goal.returns-in_ok-context-in-Some
returns-in_ok-context-in-Some c =
    drawn-begins c.args.counter c.args.tasks c.in-Some.counter c.in_ok-scope-in-Some.scope.items c.nothing_known-outside.result c.in_ok-context-in-Some.context
    c.in-Some.is (sym c.is_border.ensures ∙ c.if-is_border.false) c.in_ok-scope-in-Some.ensures (omega arith) c.nothing_known-outside.ensures c.in_ok-context-in-Some.ensures
