use Rattle.bounds_laws.proofs.ProducedOwnReads.{produced_own_reads_lie}
use Rattle.bounds_laws.proofs.consumer_laws.produced_own_reads_lie.Goals as goal

pub returns : goal.returns
returns c = produced_own_reads_lie
