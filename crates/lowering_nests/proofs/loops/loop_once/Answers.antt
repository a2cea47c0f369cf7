use Rattle.std.proofs.Common.{ℕ, subst}
use Rattle.schedule_loops.specs.Visits as loops
use Rattle.schedule_loops.specs.Visits.{upto}
use Rattle.loop_ir.specs.Sizes.{whole_size}
use Rattle.lowering_nests.specs.Nests.{Repeats}
use Rattle.lowering_nests.proofs.Repeating.{loop_repeats}
use Rattle.lowering_nests.proofs.LoopLanes.{goes_around}
use Rattle.lowering_nests.proofs.Runs.{loop_about, loop_runs}
use Rattle.lowering_nests.proofs.Sizing.{once_size}
use Rattle.lowering_nests.proofs.loops.loop_once.Goals as goal

pub returns-clause-repeats : goal.returns-clause-repeats
returns-clause-repeats c = λ leaf list repeats.
    subst (λ (n : ℕ). Repeats c.args.func c.in_ok-statement.statement leaf (λ (outer : loops.Values). upto n (λ (iteration : ℕ). list (loops.with c.args.stage_loop.now.id iteration
    outer)))) c.extent_of-count.ensures.is
    (loop_repeats c.args.func c.in_ok-statement.statement c.args.body c.args.stage_loop.now.id c.extent_of-count.result c.extent_of-count.ensures.few c.in_ok-statement.ensures.runs
    c.in_ok-statement.ensures.traces c.in_ok-statement.ensures.sound leaf list repeats)

pub returns-clause-loop_lanes : goal.returns-clause-loop_lanes
returns-clause-loop_lanes c =
    goes_around c.args.func (loops.counts c.args.sizes.now.extents c.args.sizes.now.splits) c.args.stage_loop.now c.args.body c.in_ok-statement.statement c.kind_of-kind.result
    c.kind_of-kind.ensures.vectorized
    c.extent_of-count.result c.extent_of-count.ensures.is c.extent_of-count.ensures.few
    c.in_ok-statement.ensures.at_once

pub returns-clause-about : goal.returns-clause-about
returns-clause-about c =
    loop_about c.args.func (loops.counts c.args.sizes.now.extents c.args.sizes.now.splits) c.args.stage_loop.now c.args.body c.in_ok-statement.statement c.kind_of-kind.result
    c.kind_of-kind.ensures.vectorized
    c.extent_of-count.result c.extent_of-count.ensures.is c.in_ok-statement.ensures.about

pub returns-clause-in_runs : goal.returns-clause-in_runs
returns-clause-in_runs c =
    loop_runs c.args.func (loops.counts c.args.sizes.now.extents c.args.sizes.now.splits) c.args.stage_loop.now c.args.body c.in_ok-statement.statement c.kind_of-kind.result
    c.kind_of-kind.ensures.vectorized
    c.extent_of-count.result c.extent_of-count.ensures.is c.in_ok-statement.ensures.in_runs

pub returns-clause-sizes : goal.returns-clause-sizes
returns-clause-sizes c =
    once_size (loops.counts c.args.sizes.now.extents c.args.sizes.now.splits) c.args.stage_loop.now c.kind_of-kind.result c.kind_of-kind.ensures.unrolled
    c.extent_of-count.result c.extent_of-count.ensures.is
    (whole_size c.in_ok-statement.statement) (whole_size c.args.body) c.in_ok-statement.ensures.sizes
