use Rattle.std.proofs.Common.{◌+◌, ◌*◌, ◌≤◌, Bool, List, ap, ◌∙◌, subst}
use Rattle.schedule.specs.declared.schedules.Schedule.{Schedule}
use Rattle.halide_pipeline.specs.Pipelines.{Pipeline}
use Rattle.halide_pipeline.specs.declared.definitions.Func.{Func}
use Rattle.bounds_inlining.specs.Inlining.{flagged}
use Rattle.bounds_weights.specs.Weight.{flags_of}
use Rattle.lowering.specs.Updates as spec
use Rattle.loop_ir.specs.Sizes.{whole_size}
use Rattle.lowering.specs.Sizes.{update_counted}
use Rattle.lowering.proofs.updates.store_at.Goals as goal

pub returns-clause-hits : goal.returns-clause-hits
returns-clause-hits c =
    subst (λ (l : List Func). spec.HitsUpdate c.args.corners.now (flagged (flags_of c.args.plan.now.schedule.standings)) l c.args.of.now.computed.place
    c.args.corner.now c.args.of.now.update.now c.in_ok-statement.statement) (c.funcs.ensures.value ∙ ap (λ (p : Pipeline). p.funcs) c.pipeline.ensures.value)
    (subst (λ (f : List Bool). spec.HitsUpdate c.args.corners.now (flagged f) c.funcs.result.now c.args.of.now.computed.place c.args.corner.now
    c.args.of.now.update.now c.in_ok-statement.statement)
    (c.as_slice-2.ensures.value ∙ (c.in_ok-flags.ensures ∙ ap flags_of (c.as_slice.ensures ∙ ap (λ (s : Schedule). s.standings) c.schedule.ensures.value)))
    c.in_ok-statement.ensures.hits)

pub returns-clause-sound : goal.returns-clause-sound
returns-clause-sound c =
    subst (λ (l : List Func). spec.IsSoundUpdate c.args.corners.now (flagged (flags_of c.args.plan.now.schedule.standings)) l c.args.of.now.computed.place
    c.args.corner.now c.args.of.now.update.now c.in_ok-statement.statement) (c.funcs.ensures.value ∙ ap (λ (p : Pipeline). p.funcs) c.pipeline.ensures.value)
    (subst (λ (f : List Bool). spec.IsSoundUpdate c.args.corners.now (flagged f) c.funcs.result.now c.args.of.now.computed.place c.args.corner.now
    c.args.of.now.update.now c.in_ok-statement.statement)
    (c.as_slice-2.ensures.value ∙ (c.in_ok-flags.ensures ∙ ap flags_of (c.as_slice.ensures ∙ ap (λ (s : Schedule). s.standings) c.schedule.ensures.value)))
    c.in_ok-statement.ensures.sound)

pub returns-clause-stores : goal.returns-clause-stores
returns-clause-stores c =
    subst (λ (l : List Func). spec.StoresUpdate c.args.corners.now (flagged (flags_of c.args.plan.now.schedule.standings)) l c.args.of.now.computed.place
    c.args.corner.now c.args.of.now.update.now c.in_ok-statement.statement) (c.funcs.ensures.value ∙ ap (λ (p : Pipeline). p.funcs) c.pipeline.ensures.value)
    (subst (λ (f : List Bool). spec.StoresUpdate c.args.corners.now (flagged f) c.funcs.result.now c.args.of.now.computed.place c.args.corner.now
    c.args.of.now.update.now c.in_ok-statement.statement)
    (c.as_slice-2.ensures.value ∙ (c.in_ok-flags.ensures ∙ ap flags_of (c.as_slice.ensures ∙ ap (λ (s : Schedule). s.standings) c.schedule.ensures.value)))
    c.in_ok-statement.ensures.stores)

pub returns-clause-sizes : goal.returns-clause-sizes
returns-clause-sizes c = λ short few.
    subst (λ (l : List Func). whole_size c.in_ok-statement.statement + 8 ≤ 64 * update_counted (flags_of c.args.plan.now.schedule.standings) l
    c.args.of.now.computed.place c.args.of.now.update.now) (c.funcs.ensures.value ∙ ap (λ (p : Pipeline). p.funcs) c.pipeline.ensures.value)
    (subst (λ (f : List Bool). whole_size c.in_ok-statement.statement + 8 ≤ 64 * update_counted f c.funcs.result.now c.args.of.now.computed.place
    c.args.of.now.update.now)
    (c.as_slice-2.ensures.value ∙ (c.in_ok-flags.ensures ∙ ap flags_of (c.as_slice.ensures ∙ ap (λ (s : Schedule). s.standings) c.schedule.ensures.value)))
    (c.in_ok-statement.ensures.sizes short few))
