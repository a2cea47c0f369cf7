use Rattle.std.proofs.Common.{length}
use Rattle.bounds.proofs.Gathering.{IsGathering}
use Rattle.bounds.proofs.boxes.gathered.Given as goal

abbrev pub invariant-reads : goal.invariant-reads
invariant-reads l = IsGathering l.sought.consumer.now l.lasts l.sought.source l.first l.second l.fn.spread l.asked l.found_spread l.rest

abbrev pub decreases-reads : goal.decreases-reads
decreases-reads l = length l.rest
