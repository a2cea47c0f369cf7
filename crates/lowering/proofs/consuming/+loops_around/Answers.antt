use Rattle.std.proofs.Common.{ℕ, ◌-◌, ◌<◌, List, length, take, subst}
use Rattle.schedule_lines.specs.declared.stages.Loop.{Loop}
use Rattle.schedule_loops.specs.Visits.{counts}
use Rattle.lowering.specs.Consuming.{HasLoops, No_loops, One_outside}
use Rattle.lowering.proofs.Lists.{last_of, none_below, fewer_taken}
use Rattle.lowering.proofs.consuming.+loops_around.Goals as goal

-- src/consuming.rt:218:25
pub loops_around-requires : goal.loops_around-requires
loops_around-requires t c = (
  subst (λ (n : ℕ). length (take (length c.args.loops.now - 1) c.args.loops.now) < n) c.decreases (fewer_taken c.args.loops.now
      c.in-len1-up.len_at_least),
  (c.requires.splits, c.requires.few),
)

-- src/consuming.rt:199:1
pub returns-in-empty : goal.returns-in-empty
returns-in-empty t c =
    subst (λ (l : List Loop). HasLoops c.args.plan.now.pipeline c.args.plan.now.schedule c.args.plan.now.boxes c.args.consumer (counts c.args.sizes.now.extents
    c.args.sizes.now.splits) c.args.leaf l c.args.leaf) (none_below c.args.loops.now c.in-empty.len_below) No_loops

-- src/consuming.rt:199:1
pub returns-in_ok-statement-in-len1-up : goal.returns-in_ok-statement-in-len1-up
returns-in_ok-statement-in-len1-up t c =
    subst (λ (l : List Loop). HasLoops c.args.plan.now.pipeline c.args.plan.now.schedule c.args.plan.now.boxes c.args.consumer (counts c.args.sizes.now.extents
    c.args.sizes.now.splits) c.args.leaf l c.in_ok-statement-in-len1-up.statement)
    (last_of c.args.loops.now c.own-item.result c.in-len1-up.len_at_least c.own-item.is)
    (One_outside (take (length c.args.loops.now - 1) c.args.loops.now) c.own-item.result c.in_ok-inner-in-len1-up.inner c.in_ok-body-in-len1-up.body
    c.in_ok-statement-in-len1-up.statement
    c.in_ok-inner-in-len1-up.ensures c.in_ok-body-in-len1-up.ensures (record {
      runs = c.in_ok-statement-in-len1-up.ensures.runs;
      traces =
          c.in_ok-statement-in-len1-up.ensures.traces;
      sound = c.in_ok-statement-in-len1-up.ensures.sound;
      depth_is = c.in_ok-statement-in-len1-up.ensures.depth;
      need_is =
          c.in_ok-statement-in-len1-up.ensures.needs;
      size_is = c.in_ok-statement-in-len1-up.ensures.sizes;
    }) c.in_ok-statement-in-len1-up.ensures.loop_lanes
    c.in_ok-statement-in-len1-up.ensures.in_runs)
