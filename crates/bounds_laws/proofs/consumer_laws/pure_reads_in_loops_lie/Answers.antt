use Rattle.bounds_laws.proofs.LoopReads.{pure_reads_in_loops_lie}
use Rattle.bounds_laws.proofs.consumer_laws.pure_reads_in_loops_lie.Goals as goal

pub returns : goal.returns
returns c = pure_reads_in_loops_lie
