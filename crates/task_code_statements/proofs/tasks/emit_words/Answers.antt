use Rattle.std.proofs.Common.{subst}
use Rattle.task_code_statements.specs.Contexts.{Meets}
use Rattle.task_code_statements.specs.Statements.{EmitsStatement}
use Rattle.task_code_statements.proofs.Tasking.{started-emits, begins-met}
use Rattle.task_code_statements.proofs.tasks.emit_words.Goals as goal

pub returns : goal.returns
returns c =
    let begun = c.in_ok-begun.begun in
    let context = c.in_ok-context.context in
    started-emits c.args.phase.now c.args.places.now c.args.ticket begun.scope.items context _ _ _ c.in_ok-emit_restored.ensures.1
    (begins-met c.args.phase.now.counter c.args.phase.now.tasks begun.scope.items begun.context context c.in_ok-begun.ensures c.in_ok-context.ensures)
    (subst (λ scope. EmitsStatement c.args.code.now.words.items c.emit_statement.new.code.words.items c.args.places.now scope (Meets context)
    c.args.phase.now.body)
    c.as_slice-2.ensures.value c.in_ok-emit_statement.ensures)
    c.in_ok-emit_restored.ensures.0
