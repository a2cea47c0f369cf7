use Rattle.schedule_loops.proofs.Tables.{next_fits, next_row}
use Rattle.schedule_loops.proofs.sizes.LoopSizes.new.Goals as goal

pub new-requires-clause-fits : goal.new-requires-clause-fits
new-requires-clause-fits c =
    next_fits c.args.extents c.args.splits.now c.splits.rows c.splits.rest.now _ c.in-len1-up.len_at_least c.splits.invariant c.as_slice.result.now
    c.size_in-whole.result c.as_slice.ensures c.size_in-whole.ensures

pub splits-preserved : goal.splits-preserved
splits-preserved c =
    next_row c.args.extents c.args.splits.now c.splits.rows c.splits.rest.now _ c.in-len1-up.len_at_least c.splits.invariant c.as_slice.result.now
    c.size_in-whole.result c.as_slice.ensures c.size_in-whole.ensures
    c.new.result c.push.new.self c.new.ensures c.in_ok-push.ensures.ok
