use Rattle.lowering_nests.proofs.Nesting.{nested_repeats}
use Rattle.schedule_loops.specs.Visits as loops
use Rattle.loop_ir.specs.Sizes.{whole_size}
use Rattle.lowering_nests.proofs.LoopLanes.{goes_around_more}
use Rattle.lowering_nests.proofs.Sizing.{nested_size}
use Rattle.lowering_nests.proofs.loops.+with_loops.Goals as goal

pub returns-in_ok-statement-in-len1-up-clause-repeats : goal.returns-in_ok-statement-in-len1-up-clause-repeats
returns-in_ok-statement-in-len1-up-clause-repeats t c =
    nested_repeats c.args.func c.args.sizes.now.extents c.args.sizes.now.splits c.args.loops.now c.stage_loop-item.result c.in_ok-statement-in-len1-up.statement
    c.in_ok-inner-in-len1-up.inner c.args.body
    c.in-len1-up.len_at_least c.stage_loop-item.is c.in_ok-inner-in-len1-up.ensures.repeats c.in_ok-statement-in-len1-up.ensures.repeats

pub returns-in_ok-statement-in-len1-up-clause-loop_lanes : goal.returns-in_ok-statement-in-len1-up-clause-loop_lanes
returns-in_ok-statement-in-len1-up-clause-loop_lanes t c =
    goes_around_more c.args.func (loops.counts c.args.sizes.now.extents c.args.sizes.now.splits) c.args.loops.now c.stage_loop-item.result c.in_ok-statement-in-len1-up.statement
    c.in_ok-inner-in-len1-up.inner c.args.body
    c.in-len1-up.len_at_least c.stage_loop-item.is c.in_ok-inner-in-len1-up.ensures.loop_lanes c.in_ok-statement-in-len1-up.ensures.loop_lanes

pub returns-in_ok-statement-in-len1-up-clause-sizes : goal.returns-in_ok-statement-in-len1-up-clause-sizes
returns-in_ok-statement-in-len1-up-clause-sizes t c =
    nested_size (loops.counts c.args.sizes.now.extents c.args.sizes.now.splits) c.args.loops.now c.stage_loop-item.result (whole_size c.in_ok-statement-in-len1-up.statement)
    (whole_size c.in_ok-inner-in-len1-up.inner)
    (whole_size c.args.body) c.in-len1-up.len_at_least c.stage_loop-item.is c.in_ok-inner-in-len1-up.ensures.sizes c.in_ok-statement-in-len1-up.ensures.sizes
