use Rattle.task_code_variables.proofs.Tasking.{task-moved}
use Rattle.task_code_variables.proofs.tasks.emit_task.Goals as goal

pub returns-clause-ok : goal.returns-clause-ok
returns-clause-ok c =
    task-moved c.args.phase.now c.args.places.now c.args.ticket _ _ c.in_ok-made.made.words.items c.as_slice.result.now c.as_slice.ensures.value
    c.in_ok-append.ensures.ok c.in_ok-made.ensures.ok
