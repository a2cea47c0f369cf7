use Rattle.std.proofs.Common.{◌+◌, suc, true, cond, ap, ◌∙◌}
use Rattle.std.specs.Prelude.{nat_lt}
use Rattle.loop_ir.specs.declared.statements.Stmt.{Stmt}
use Rattle.loop_ir.specs.declared.statements.Stmt.TheOpen as layer
use Rattle.loop_ir.specs.Counters.{with}
use Rattle.loop_ir.specs.Depths.{depth}
use Rattle.loop_ir.specs.Needs.{greatest_need}
use Rattle.loop_ir.specs.LoopLanes.{loop_lanes, lanes_at}
use Rattle.loop_ir.specs.Running.{run, whole_value}
use Rattle.loop_ir.specs.Runs.{is_about}
use Rattle.loop_ir.specs.Sizes.{whole_size}
use Rattle.loop_ir.specs.Soundness.{is_sound}
use Rattle.loop_ir.specs.Stores.{trace}
use Rattle.loop_ir.proofs.Depths.{depth_bind}
use Rattle.loop_ir.proofs.Needs.{greatest_bind}
use Rattle.loop_ir.proofs.LoopLanes.{lanes_bind}
use Rattle.loop_ir.proofs.Runs.{about_bind}
use Rattle.loop_ir.proofs.Sizes.{whole_bind}
use Rattle.loop_ir.proofs.Sound.{sound_bind}
use Rattle.loop_ir.proofs.Traces.{trace_bind}
use Rattle.loop_ir.proofs.Trees.{run_bind}
use Rattle.lowering_nests.proofs.splits.bound.Goals as goal

pub returns-clause-runs : goal.returns-clause-runs
returns-clause-runs c = λ points inputs values funcs.
    let n = whole_value c.args.whole values in
    run_bind points inputs c.args.counter c.args.whole c.args.extent c.in_ok-body.body values funcs
    ∙ ap (λ (own : Stmt). cond (nat_lt n c.args.extent) (run points inputs own (with c.args.counter n values) funcs) funcs) c.in_ok-body.ensures

pub returns-clause-traces : goal.returns-clause-traces
returns-clause-traces c = λ points inputs place x y values so_far.
    let n = whole_value c.args.whole values in
    trace_bind points inputs place x y c.args.counter c.args.whole c.args.extent c.in_ok-body.body values so_far
    ∙ ap (λ (own : Stmt). cond (nat_lt n c.args.extent) (trace points inputs place x y own (with c.args.counter n values) so_far) so_far) c.in_ok-body.ensures

pub returns-clause-sound : goal.returns-clause-sound
returns-clause-sound c = λ reads written loaded values.
    let n = whole_value c.args.whole values in
    sound_bind reads written loaded c.args.counter c.args.whole c.args.extent c.in_ok-body.body values
    ∙ ap (λ (own : Stmt). cond (nat_lt n c.args.extent) (is_sound reads written loaded own (with c.args.counter n values)) true) c.in_ok-body.ensures

pub returns-clause-depth : goal.returns-clause-depth
returns-clause-depth c = depth_bind c.args.counter c.args.whole c.args.extent c.in_ok-body.body ∙ ap (λ (own : Stmt). suc (depth own)) c.in_ok-body.ensures

pub returns-clause-needs : goal.returns-clause-needs
returns-clause-needs c = greatest_bind c.args.counter c.args.whole c.args.extent c.in_ok-body.body ∙ ap greatest_need c.in_ok-body.ensures

pub returns-clause-loop_lanes : goal.returns-clause-loop_lanes
returns-clause-loop_lanes c = λ reads.
    lanes_bind reads c.args.counter c.args.whole c.args.extent c.in_ok-body.body
    ∙ ap (λ (own : Stmt). lanes_at reads (layer.Bind c.args.counter c.args.whole c.args.extent (loop_lanes reads own))) c.in_ok-body.ensures

pub returns-clause-about : goal.returns-clause-about
returns-clause-about c = λ of. about_bind of c.args.counter c.args.whole c.args.extent c.in_ok-body.body ∙ ap (is_about of) c.in_ok-body.ensures

pub returns-clause-sizes : goal.returns-clause-sizes
returns-clause-sizes c = whole_bind c.args.counter c.args.whole c.args.extent c.in_ok-body.body ∙ ap (λ (own : Stmt). whole_size own + 25) c.in_ok-body.ensures
