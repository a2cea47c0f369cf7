use Rattle.std.proofs.Common.{leb, leb-true, leb-false, rules}
use Rattle.std.proofs.lemmas.List.Sorted.{IsPartitionPoint-from_clause, IsPartitionedBy-leb}
use Rattle.turn_log.specs.inner.RunEnds.{RunEnd}
use Rattle.turn_log.proofs.finding.place_of.Goals as goal

pub returns : goal.returns
returns c =
    let parted = IsPartitionedBy-leb (λ (run : RunEnd). run.end) _ c.args.k c.requires in
    let point = IsPartitionPoint-from_clause (λ (run : RunEnd). leb run.end c.args.k) _ _ c.partition_point.ensures.partitioned parted
    (λ a r q k. search rules) in
    (λ j d ge lt. leb-true _ _ (point.0 j d ge lt), λ j d ge lt. leb-false _ _ (point.1 j d ge lt))
