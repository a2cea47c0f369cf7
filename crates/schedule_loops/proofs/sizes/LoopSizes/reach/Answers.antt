use Rattle.schedule_loops.specs.Reach as spec
use Rattle.schedule_loops.proofs.Reaching.{next_added}
use Rattle.schedule_loops.proofs.sizes.LoopSizes.reach.Goals as goal

pub loops-preserved : goal.loops-preserved
loops-preserved c =
    next_added (spec.most_added c.args.self.now.extents c.args.self.now.splits c.args.variable) c.args.loops.now c.loops.rest.now c.loops.reach
    _ c.own-item.result c.most_added-reach.result
    c.in-len1-up.len_at_least c.loops.invariant c.own-item.is c.most_added-reach.ensures.is c.most_added-reach.ensures.few
