use Rattle.std.proofs.Common.{List, ◌+◌, length, ap, ◌∙◌, subst}
use Rattle.schedule_lines.specs.declared.stages.Loop.{Loop}
use Rattle.schedule_lines.specs.declared.stages.Split.{Split}
use Rattle.schedule_loops.specs.Visits.{counts}
use Rattle.schedule_loops.specs.Visits as iterations
use Rattle.lowering_nests.specs.Nests.{Repeats}
use Rattle.schedule_loops.specs.Reach.{wholes}
use Rattle.loop_ir.specs.Depths.{depth}
use Rattle.lowering_nests.specs.LoopLanes.{IsLeaf, MayBeAtOnce, MayBeUnder}
use Rattle.loop_ir.specs.Sizes.{whole_size}
use Rattle.lowering.specs.PurePhases as pure
use Rattle.lowering.proofs.Copies.{same-nest}
use Rattle.lowering.proofs.updates.body_of.Goals as goal

pub returns-clause-loop_lanes : goal.returns-clause-loop_lanes
returns-clause-loop_lanes c =
    subst (λ (l : List Split). (outside : List Loop) → IsLeaf c.args.store
    → MayBeUnder c.args.func_index c.args.extents l (pure.inside_of (iterations.parallel c.args.stage.now) c.args.stage.now.loops) outside c.args.store
    → MayBeAtOnce c.args.func_index (counts c.args.extents l) outside c.in_ok-statement.statement)
    c.as_slice-splits.ensures
    (subst (λ (ls : List Loop). (outside : List Loop) → IsLeaf c.args.store → MayBeUnder c.args.func_index c.args.extents c.as_slice-splits.result.now ls outside
    c.args.store
    → MayBeAtOnce c.args.func_index (counts c.args.extents c.as_slice-splits.result.now) outside c.in_ok-statement.statement) c.inside_parallel.ensures
    c.in_ok-statement.ensures.loop_lanes)

pub returns-clause-sizes : goal.returns-clause-sizes
returns-clause-sizes c =
    same-nest c.args.extents c.as_slice-splits.result.now c.args.stage.now.splits c.inside_parallel.result.now
    (pure.inside_of (iterations.parallel c.args.stage.now) c.args.stage.now.loops)
    (whole_size c.in_ok-statement.statement) (whole_size c.args.store) c.as_slice-splits.ensures c.inside_parallel.ensures c.in_ok-statement.ensures.sizes

pub returns-clause-repeats : goal.returns-clause-repeats
returns-clause-repeats c =
    subst (λ (ls : List Loop). Repeats c.args.func_index c.in_ok-statement.statement c.args.store (wholes c.args.extents c.args.stage.now.splits ls)) c.inside_parallel.ensures
    (subst (λ (l : List Split). Repeats c.args.func_index c.in_ok-statement.statement c.args.store (wholes c.args.extents l c.inside_parallel.result.now))
    c.as_slice-splits.ensures c.in_ok-statement.ensures.repeats)

pub returns-clause-depth : goal.returns-clause-depth
returns-clause-depth c =
    c.in_ok-statement.ensures.depth ∙ ap (λ (ls : List Loop). length ls + (length c.as_slice-splits.result.now + depth c.args.store)) c.inside_parallel.ensures
    ∙ ap (λ (l : List Split). length (pure.inside_of (iterations.parallel c.args.stage.now) c.args.stage.now.loops) + (length l + depth c.args.store))
    c.as_slice-splits.ensures
