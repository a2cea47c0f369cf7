use Rattle.task_code_variables.proofs.Fitting.{passed-on}
use Rattle.task_code_variables.proofs.Tasking.{begins-holding, task-made, first-faulty}
use Rattle.task_code_variables.proofs.tasks.task_words.Goals as goal

pub emit_statement-requires : goal.emit_statement-requires
emit_statement-requires c =
    begins-holding c.args.phase.now.counter c.in_ok-scope.scope.items c.as_slice.result.now c.in_ok-around.around.items c.as_slice-2.result.now
    c.as_slice.ensures.value c.in_ok-scope.ensures c.as_slice-2.ensures.value c.in_ok-around.ensures

pub returns-clause-ok : goal.returns-clause-ok
returns-clause-ok c =
    task-made c.args.phase.now c.args.places.now c.args.ticket c.in_ok-scope.scope.items c.as_slice.result.now c.in_ok-around.around.items
    c.as_slice-2.result.now _ _ _ c.requires c.in_ok-emit_restored.ensures.1 c.as_slice.ensures.value c.in_ok-scope.ensures c.as_slice-2.ensures.value
    c.in_ok-around.ensures c.new.ensures.items c.in_ok-emit_statement.ensures.ok c.in_ok-emit_restored.ensures.0

pub returns-in_err-emit_statement-clause-fault : goal.returns-in_err-emit_statement-clause-fault
returns-in_err-emit_statement-clause-fault c =
    passed-on _ c.from_residual-in_err-emit_statement.result c.in_err-emit_statement.field-0.0 c.from_residual-in_err-emit_statement.ensures.1
    (first-faulty c.args.places.now c.args.phase.now.counter c.args.phase.now.body c.in_ok-scope.scope.items c.as_slice.result.now _
    c.as_slice.ensures.value c.in_ok-scope.ensures) c.in_err-emit_statement.ensures.err
