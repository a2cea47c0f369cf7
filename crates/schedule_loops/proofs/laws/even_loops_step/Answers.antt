use Rattle.schedule_loops.proofs.Stepping.{stepped}
use Rattle.schedule_loops.proofs.laws.even_loops_step.Goals as goal

pub returns : goal.returns
returns c = stepped
