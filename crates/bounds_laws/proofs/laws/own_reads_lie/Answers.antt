use Rattle.bounds_laws.proofs.OwnReads.{own_reads_lie}
use Rattle.bounds_laws.proofs.laws.own_reads_lie.Goals as goal

pub returns : goal.returns
returns c = own_reads_lie
