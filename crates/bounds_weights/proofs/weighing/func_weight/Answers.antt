use Rattle.std.proofs.Common.{List, ◌+◌, ap, ◌∙◌}
use Rattle.halide_pipeline.specs.declared.definitions.Update.{Update}
use Rattle.schedule_lines.specs.declared.stages.Stage.{Stage}
use Rattle.bounds_weights.specs.Weight.{consumer_copies, nodes_in, stage_weight, updates_weight}
use Rattle.bounds_weights.specs.inner.Tables.{capped}
use Rattle.bounds_weights.proofs.Capping.{plus_capped, times_capped}
use Rattle.bounds_weights.proofs.weighing.func_weight.Goals as goal

pub returns : goal.returns
returns c = λ flags funcs known.
    let p = c.stage_weight-pure.ensures (nodes_in flags funcs c.args.func.now.pure) (c.all_nodes.ensures flags funcs known) in
    let u = c.updates_weight-updates.ensures flags funcs known
    ∙ ap (λ (updates : List Update). capped (updates_weight flags funcs updates c.as_slice-2.result.now)) c.as_slice.ensures
    ∙ ap (λ (stages : List Stage). capped (updates_weight flags funcs c.args.func.now.updates stages)) c.as_slice-2.ensures in
    let placement = stage_weight (nodes_in flags funcs c.args.func.now.pure) c.args.plan.now.pure in
    let others = updates_weight flags funcs c.args.func.now.updates c.args.plan.now.updates in
    times_capped c.saturating_add.result c.consumer_copies.result (placement + others) (consumer_copies c.args.plans.now c.args.placement.now.place) c.saturating_mul.result
    (plus_capped c.stage_weight-pure.result c.updates_weight-updates.result placement others c.saturating_add.result p u c.saturating_add.ensures)
    c.consumer_copies.ensures c.saturating_mul.ensures
