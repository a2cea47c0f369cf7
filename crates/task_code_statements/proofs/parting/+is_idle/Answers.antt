use Rattle.std.proofs.Common.{subst}
use Rattle.task_code_loops.specs.Bounds.{IsPast}
use Rattle.task_code_statements.proofs.Idling.{idle-for, idle-past, idle-bind}
use Rattle.task_code_statements.proofs.parting.+is_idle.Goals as goal

pub returns-in_ok-answer-in-For : goal.returns-in_ok-answer-in-For
returns-in_ok-answer-in-For t c = λ yes.
    idle-for c.args.context.now c.in_ok-inner-in-For.inner c.args.statement.now c.in-For.counter c.in-For.count c.in-For.field-2 c.in-For.body
    c.get.result.now c.in-For.is c.get.ensures c.in_ok-inner-in-For.ensures.meets (c.in_ok-answer-in-For.ensures yes)

pub returns-then-is_past : goal.returns-then-is_past
returns-then-is_past t c = λ yes.
    let entered = c.in_ok-entered-in-Bind.entered in
    let enters = c.in_ok-entered-in-Bind.ensures in
    idle-past c.args.context.now c.args.statement.now c.in-Bind.counter c.in-Bind.whole c.in-Bind.extent c.in-Bind.body entered.form.sum c.in-Bind.is
    enters.value_is
    (subst (λ f. IsPast c.args.context.now.bounds.items f c.in-Bind.extent) enters.form_is
    (subst (λ b. IsPast b entered.form c.in-Bind.extent) c.as_slice.ensures.value (c.is_past.ensures c.if-is_past.true)))

pub returns-in_ok-answer-in-Bind : goal.returns-in_ok-answer-in-Bind
returns-in_ok-answer-in-Bind t c = λ yes.
    let entered = c.in_ok-entered-in-Bind.entered in
    let enters = c.in_ok-entered-in-Bind.ensures in
    idle-bind c.args.context.now entered.inner c.args.statement.now c.in-Bind.counter c.in-Bind.whole c.in-Bind.extent c.in-Bind.body
    c.get-in-Bind.result.now entered.form.sum c.in-Bind.is c.get-in-Bind.ensures enters.value_is enters.meets (c.in_ok-answer-in-Bind.ensures yes)
