use Rattle.schedule_loops.specs.Reach as reaching
use Rattle.bounds.proofs.Totals.{total_is}
use Rattle.bounds.proofs.views.+reach.Goals as goal

pub returns-in-len1-up-clause-is : goal.returns-in-len1-up-clause-is
returns-in-len1-up-clause-is t c =
    total_is (reaching.most_added c.args.sizes.now.extents c.args.sizes.now.splits c.args.variable) c.args.loops.now _ c.own-item.result c.most_added.result
    c.reach.result
    c.in-len1-up.len_at_least c.own-item.is c.most_added.ensures.is c.reach.ensures.is
