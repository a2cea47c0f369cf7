use Rattle.std.proofs.Common.{arith}
use Rattle.task_code.proofs.Promising.{forms-promised}
use Rattle.task_code.proofs.tasks.emit_by_forms.Goals as goal

pub returns-in-Ok-clause-ok : goal.returns-in-Ok-clause-ok
returns-in-Ok-clause-ok c =
    forms-promised c.args.phase.now c.args.places.now c.args.ticket c.new-words.result.items c.emit_task.new.code.items c.as_slice.result.now
    c.args.code.now.items c.append.new.code.items c.new-words.ensures.items c.as_slice.ensures.value c.in-Ok.ensures (omega arith)
    c.in_ok-append-in-Ok.ensures.ok
