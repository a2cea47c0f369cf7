use Rattle.bounds_laws.proofs.LoopReads.{update_reads_in_loops_lie}
use Rattle.bounds_laws.proofs.consumer_laws.update_reads_in_loops_lie.Goals as goal

pub returns : goal.returns
returns c = update_reads_in_loops_lie
