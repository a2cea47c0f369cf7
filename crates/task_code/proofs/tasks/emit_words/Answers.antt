use Rattle.std.proofs.Common.{subst}
use Rattle.std.specs.Prelude.{Bool}
use Rattle.task_code_variables.proofs.Fitting.{passed-on}
use Rattle.task_code.specs.inner.Emitting.{EmitsTaskIf}
use Rattle.task_code.proofs.Promising.{alone-promised, task-faulty}
use Rattle.task_code.proofs.tasks.emit_words.Goals as goal

pub returns-clause-ok : goal.returns-clause-ok
returns-clause-ok c =
    alone-promised c.args.phase.now c.args.places.now c.args.ticket c.args.code.now.items c.emit_by_forms.new.code.items c.emit_task.new.code.items
    (subst (λ (found : Bool). EmitsTaskIf c.args.code.now.items c.emit_by_forms.new.code.items c.args.phase.now c.args.places.now c.args.ticket found)
    c.if-branch.false c.in_ok-emit_by_forms.ensures.ok)
    c.in_ok-emit_task.ensures.ok

pub returns-in_err-emit_task-clause-fault : goal.returns-in_err-emit_task-clause-fault
returns-in_err-emit_task-clause-fault c =
    passed-on _ c.from_residual-in_err-emit_task.result c.in_err-emit_task.field-0.0 c.from_residual-in_err-emit_task.ensures.1
    (task-faulty c.args.phase.now c.args.places.now _) c.in_err-emit_task.ensures.fault
