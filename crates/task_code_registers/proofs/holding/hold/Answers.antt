use Rattle.task_code_registers.proofs.Entering.{takes-one}
use Rattle.task_code_registers.proofs.holding.hold.Goals as goal

pub returns-in_ok-inner-in-Some-clause-some : goal.returns-in_ok-inner-in-Some-clause-some
returns-in_ok-inner-in-Some-clause-some c =
    takes-one c.args.counter c.args.scope.now c.in_ok-inner-in-Some.inner.items c.args.form.now c.in_ok-start-in-Some.start c.args.reserved
    c.in-Some.register _ _ c.in-Some.ensures.some
    c.in_ok-start-in-Some.ensures c.in_ok-emit_form-in-Some.ensures c.in_ok-inner-in-Some.ensures
