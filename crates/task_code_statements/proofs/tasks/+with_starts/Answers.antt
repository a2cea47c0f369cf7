use Rattle.task_code_statements.proofs.Tasking.{stays-same, stays-then}
use Rattle.task_code_statements.proofs.tasks.+with_starts.Goals as goal

pub returns-in-empty : goal.returns-in-empty
returns-in-empty t c = stays-same c.args.counter c.args.context

pub returns-in_ok-new_context-in-len1-up : goal.returns-in_ok-new_context-in-len1-up
returns-in_ok-new_context-in-len1-up t c =
    stays-then c.args.counter c.args.context c.in_ok-next-in-len1-up.next c.in_ok-new_context-in-len1-up.new_context c.in_ok-next-in-len1-up.ensures
    c.in_ok-new_context-in-len1-up.ensures
