use Rattle.std.proofs.Common.{[], subst}
use Rattle.std.specs.Prelude.{IfSome}
use Rattle.task_code_statements.specs.Tasks.{AppendsTask}
use Rattle.task_code_statements.proofs.Tasking.{appended-task}
use Rattle.task_code_statements.proofs.tasks.emit_task.Goals as goal

pub returns-in_ok-append-in-Some : goal.returns-in_ok-append-in-Some
returns-in_ok-append-in-Some c =
    appended-task c.args.phase.now c.args.places.now c.args.ticket _ _ c.in-Some.made.words.items c.as_slice.result.now c.as_slice.ensures.value
    c.in_ok-append-in-Some.ensures.ok
    (subst (λ o. IfSome o (λ made. AppendsTask [] made.words.items c.args.phase.now c.args.places.now c.args.ticket)) c.in-Some.is c.in_ok-made.ensures)
