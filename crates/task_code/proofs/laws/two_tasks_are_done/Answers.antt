use Rattle.task_code.proofs.ExampleTask.{example-done}
use Rattle.task_code.proofs.laws.two_tasks_are_done.Goals as goal

pub returns : goal.returns
returns c = example-done
