use Rattle.std.proofs.Common.{◌+◌, ◌*◌, ◌≤◌, Bool, List, ap, ◌∙◌, subst, sym}
use Rattle.halide_pipeline.specs.Pipelines.{Pipeline}
use Rattle.bounds.specs.declared.verdict.Boxes.{Boxes}
use Rattle.schedule.specs.declared.schedules.Schedule.{Schedule}
use Rattle.halide_pipeline.specs.declared.definitions.Func.{Func}
use Rattle.schedule.specs.declared.plans.FuncPlan.{FuncPlan}
use Rattle.bounds_inlining.specs.Inlining.{flagged}
use Rattle.bounds_weights.specs.Weight.{flags_of}
use Rattle.lowering_expressions.specs.declared.calls.Corner.{Corner}
use Rattle.lowering.specs.Corners.{IsCorner}
use Rattle.lowering.specs.PurePhases.{StoresPure, IsSoundPure}
use Rattle.lowering.proofs.UpdateFilling.{same_corners}
use Rattle.loop_ir.specs.Sizes.{whole_size}
use Rattle.lowering_expressions.specs.Sizing.{AreShort}
use Rattle.lowering.specs.Sizes.{counted}
use Rattle.lowering.proofs.nests.store_of.Goals as goal

pub returns-clause-stores : goal.returns-clause-stores
returns-clause-stores c =
    let flags_are = c.as_slice-2.ensures.value ∙ (c.in_ok-flags.ensures ∙ ap flags_of (c.as_slice-standings.ensures
    ∙ ap (λ (s : Schedule). s.standings) c.schedule-schedule.ensures.value)) in
    record {
      corners = c.in_ok-corners.corners.items;
      are_corners = same_corners c.args.plan.now.schedule.funcs c.as_slice-plans.result.now c.args.plan.now.boxes.funcs c.as_slice.result.now
          c.args.plan.now.schedule.standings c.as_slice-standings.result.now c.in_ok-corners.corners.items
          (c.as_slice-plans.ensures ∙ ap (λ (s : Schedule). s.funcs) c.schedule-schedule.ensures.value) (c.as_slice.ensures.value
          ∙ ap (λ (b : Boxes). b.funcs) c.boxes.ensures.value) (c.as_slice-standings.ensures
          ∙ ap (λ (s : Schedule). s.standings) c.schedule-schedule.ensures.value) c.in_ok-corners.ensures.are;
      corner = c.in_ok-corner.corner;
      is_corner = subst (λ (l : List FuncPlan). IsCorner l c.args.placed c.args.computed.now.own.now c.in_ok-corner.corner) (c.as_slice-plans.ensures
          ∙ ap (λ (s : Schedule). s.funcs) c.schedule-schedule.ensures.value) c.in_ok-corner.ensures.is;
      stores = subst (λ (l : List Corner). StoresPure l (flagged (flags_of c.args.plan.now.schedule.standings)) c.args.plan.now.pipeline.funcs
          c.args.computed.now.place c.in_ok-corner.corner c.args.computed.now.func.now.pure c.in_ok-statement.statement) c.as_slice-3.ensures.value
          (subst (λ (l : List Func). StoresPure c.as_slice-3.result.now (flagged (flags_of c.args.plan.now.schedule.standings)) l c.args.computed.now.place
          c.in_ok-corner.corner c.args.computed.now.func.now.pure c.in_ok-statement.statement)
          (c.funcs-funcs.ensures.value
          ∙ ap (λ (p : Pipeline). p.funcs) c.pipeline.ensures.value)
          (subst (λ (f : List Bool). StoresPure c.as_slice-3.result.now (flagged f) c.funcs-funcs.result.now c.args.computed.now.place c.in_ok-corner.corner
          c.args.computed.now.func.now.pure c.in_ok-statement.statement) flags_are c.in_ok-statement.ensures.stores));
      hits = c.in_ok-statement.ensures.hits;
      misses = c.in_ok-statement.ensures.misses;
      sound = subst (λ (l : List Corner). IsSoundPure l (flagged (flags_of c.args.plan.now.schedule.standings)) c.args.plan.now.pipeline.funcs
          c.args.computed.now.place c.in_ok-corner.corner c.args.computed.now.func.now.pure c.in_ok-statement.statement) c.as_slice-3.ensures.value
          (subst (λ (l : List Func). IsSoundPure c.as_slice-3.result.now (flagged (flags_of c.args.plan.now.schedule.standings)) l c.args.computed.now.place
          c.in_ok-corner.corner c.args.computed.now.func.now.pure c.in_ok-statement.statement)
          (c.funcs-funcs.ensures.value
          ∙ ap (λ (p : Pipeline). p.funcs) c.pipeline.ensures.value)
          (subst (λ (f : List Bool). IsSoundPure c.as_slice-3.result.now (flagged f) c.funcs-funcs.result.now c.args.computed.now.place c.in_ok-corner.corner
          c.args.computed.now.func.now.pure c.in_ok-statement.statement) flags_are c.in_ok-statement.ensures.sound));
    }

pub returns-clause-sizes : goal.returns-clause-sizes
returns-clause-sizes c =
    let flags_are = c.as_slice-2.ensures.value ∙ (c.in_ok-flags.ensures ∙ ap flags_of (c.as_slice-standings.ensures
    ∙ ap (λ (s : Schedule). s.standings) c.schedule-schedule.ensures.value)) in
    let short = subst AreShort (sym c.as_slice-3.ensures.value) c.in_ok-corners.ensures.short in
    subst (λ (l : List Func). whole_size c.in_ok-statement.statement + 8 ≤ 64 * counted (flags_of c.args.plan.now.schedule.standings) l c.args.computed.now.place
    c.args.computed.now.func.now.pure) (c.funcs-funcs.ensures.value ∙ ap (λ (p : Pipeline). p.funcs) c.pipeline.ensures.value)
    (subst (λ (f : List Bool). whole_size c.in_ok-statement.statement + 8 ≤ 64 * counted f c.funcs-funcs.result.now c.args.computed.now.place
    c.args.computed.now.func.now.pure) flags_are
    (c.in_ok-statement.ensures.sizes short c.in_ok-corner.ensures.short))
