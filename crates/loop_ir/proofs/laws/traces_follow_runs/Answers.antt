use Rattle.loop_ir.proofs.Stored.{traces_follow_runs}
use Rattle.loop_ir.proofs.laws.traces_follow_runs.Goals as goal

pub returns : goal.returns
returns c = traces_follow_runs
