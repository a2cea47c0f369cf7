use Rattle.bounds_laws.proofs.StayingReads.{own_reads_stay}
use Rattle.bounds_laws.proofs.consumer_laws.own_reads_stay.Goals as goal

pub returns : goal.returns
returns c = own_reads_stay
