use Rattle.lowering_nests.proofs.Repeating.{split_repeats}
use Rattle.loop_ir.specs.LoopLanes.{everywhere, all_points}
use Rattle.lowering_nests.proofs.LoopLanes.{leaf_bound, whole_rises}
use Rattle.lowering_nests.proofs.splits.split_once.Goals as goal

pub returns-clause-repeats : goal.returns-clause-repeats
returns-clause-repeats c =
    split_repeats c.args.func c.in_ok-statement.statement c.args.body c.args.func_index c.args.split c.args.extent c.whole_of-whole.result c.requires.few
    c.whole_of-whole.ensures c.in_ok-statement.ensures.runs c.in_ok-statement.ensures.traces
    c.in_ok-statement.ensures.sound

pub returns-clause-leaf : goal.returns-clause-leaf
returns-clause-leaf c =
    leaf_bound _ c.whole_of-whole.result c.args.extent c.args.body c.in_ok-statement.statement c.in_ok-statement.ensures.loop_lanes c.requires.few
    (whole_rises c.args.func c.args.func_index c.args.split c.args.extent c.whole_of-whole.result
    c.whole_of-whole.ensures)
    (λ reads values. c.in_ok-statement.ensures.sound reads everywhere all_points values)
