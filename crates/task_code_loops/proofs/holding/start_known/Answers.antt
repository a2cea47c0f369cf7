use Rattle.std.proofs.Common.{refl}
use Rattle.task_code_registers.proofs.Entering.{takes-one}
use Rattle.task_code_loops.proofs.holding.start_known.Goals as goal

pub returns-then-branch-clause-some : goal.returns-then-branch-clause-some
returns-then-branch-clause-some c =
    takes-one c.args.counter c.args.scope.now _ c.args.form.now c.in_ok-start-in-Some.start c.args.reserved c.in-Some.register _ _ c.in-Some.ensures.some
    c.in_ok-start-in-Some.ensures (c.in_ok-emit_known-in-Some.ensures.yes c.if-branch.true) refl
