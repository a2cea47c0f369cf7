use Rattle.lowering_nests.proofs.Nesting.{whole_nest}
use Rattle.std.proofs.Common.{[], ◌∷◌, ◌++◌, subst}
use Rattle.schedule_loops.specs.Visits as loops
use Rattle.schedule_loops.specs.Sizes.{SizedLoops}
use Rattle.lowering_nests.specs.LoopLanes.{MayBeAtOnce, MayBeAround}
use Rattle.lowering_nests.proofs.Few.{iterations_few}
use Rattle.lowering_nests.proofs.Repeating.{repeats_itself}
use Rattle.lowering_nests.proofs.LoopLanes.{nest_at_once}
use Rattle.lowering_nests.proofs.nests.with_nest.Goals as goal

pub returns-clause-repeats : goal.returns-clause-repeats
returns-clause-repeats c =
    whole_nest c.args.func c.args.extents c.args.splits.now c.args.loops.now c.in_ok-statement.statement c.in_ok-inner.inner c.args.body c.in_ok-sizes.sizes
    c.in_ok-sizes.ensures c.in_ok-inner.ensures.repeats c.in_ok-statement.ensures.repeats

pub returns-clause-loop_lanes : goal.returns-clause-loop_lanes
returns-clause-loop_lanes c = λ outside leaf under.
    nest_at_once c.args.func c.args.extents c.args.splits.now c.args.loops.now c.in_ok-statement.statement c.in_ok-inner.inner c.args.body (iterations_few c.args.extents
    c.args.splits.now c.requires.few c.requires.splits)
    (c.in_ok-inner.ensures.repeats c.args.body (λ whole. whole ∷ []) (repeats_itself c.args.func c.args.body)) leaf (c.in_ok-inner.ensures.leaf leaf)
    (λ around. subst (λ (s : SizedLoops). MayBeAtOnce c.args.func (loops.counts s.extents s.splits) (c.args.loops.now ++ around) c.in_ok-inner.inner
    → MayBeAround c.args.func (loops.counts s.extents s.splits) c.args.loops.now around c.in_ok-inner.inner
    → MayBeAtOnce c.args.func (loops.counts s.extents s.splits) around c.in_ok-statement.statement)
    c.in_ok-sizes.ensures (c.in_ok-statement.ensures.loop_lanes around)) outside under
