use Rattle.std.proofs.Common.{List, subst}
use Rattle.schedule_lines.specs.declared.stages.Loop.{Loop}
use Rattle.schedule_lines.specs.declared.stages.Split.{Split}
use Rattle.schedule_loops.specs.Visits.{counts}
use Rattle.loop_ir.specs.Sizes.{whole_size}
use Rattle.lowering.proofs.Copies.{same-nest}
use Rattle.lowering_nests.specs.LoopLanes.{IsLeaf, MayBeAtOnce, MayBeUnder}
use Rattle.lowering.proofs.updates.nest_of.Goals as goal

pub returns-clause-loop_lanes : goal.returns-clause-loop_lanes
returns-clause-loop_lanes c =
    subst (λ (l : List Split). (outside : List Loop) → IsLeaf c.args.store → MayBeUnder c.args.func_index c.args.extents l c.args.stage.now.loops outside
    c.args.store
    → MayBeAtOnce c.args.func_index (counts c.args.extents l) outside c.in_ok-statement.statement) c.as_slice.ensures
    (subst (λ (ls : List Loop). (outside : List Loop) → IsLeaf c.args.store → MayBeUnder c.args.func_index c.args.extents c.as_slice.result.now ls outside
    c.args.store
    → MayBeAtOnce c.args.func_index (counts c.args.extents c.as_slice.result.now) outside c.in_ok-statement.statement) c.as_slice-2.ensures c.in_ok-statement.ensures.loop_lanes)

pub returns-clause-sizes : goal.returns-clause-sizes
returns-clause-sizes c =
    same-nest c.args.extents c.as_slice.result.now c.args.stage.now.splits c.as_slice-2.result.now c.args.stage.now.loops
    (whole_size c.in_ok-statement.statement) (whole_size c.args.store) c.as_slice.ensures c.as_slice-2.ensures c.in_ok-statement.ensures.sizes
