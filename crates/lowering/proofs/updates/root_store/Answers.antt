use Rattle.std.proofs.Common.{List, subst, sym, ap, ◌∙◌}
use Rattle.bounds.specs.declared.verdict.Boxes.{Boxes}
use Rattle.schedule.specs.declared.schedules.Schedule.{Schedule}
use Rattle.schedule.specs.declared.plans.FuncPlan.{FuncPlan}
use Rattle.schedule.specs.declared.placements.ComputeLevel.TheVariants as places
use Rattle.bounds_inlining.specs.Inlining.{flagged}
use Rattle.bounds_weights.specs.Weight.{flags_of}
use Rattle.lowering_expressions.specs.declared.calls.Corner.{Corner}
use Rattle.lowering.specs.Corners.{IsCorner}
use Rattle.lowering.specs.Updates as spec
use Rattle.lowering.proofs.UpdateFilling.{same_corners}
use Rattle.lowering_expressions.specs.Sizing.{AreShort}
use Rattle.lowering.proofs.updates.root_store.Goals as goal

pub returns-clause-stores : goal.returns-clause-stores
returns-clause-stores c = record {
  corners = c.in_ok-corners.corners.items;
  are_corners = same_corners c.args.plan.now.schedule.funcs c.as_slice-plans.result.now c.args.plan.now.boxes.funcs c.as_slice.result.now
      c.args.plan.now.schedule.standings c.as_slice-standings.result.now c.in_ok-corners.corners.items
      (c.as_slice-plans.ensures ∙ ap (λ (s : Schedule). s.funcs) c.schedule-schedule.ensures.value) (c.as_slice.ensures.value
      ∙ ap (λ (b : Boxes). b.funcs) c.boxes.ensures.value) (c.as_slice-standings.ensures
      ∙ ap (λ (s : Schedule). s.standings) c.schedule-schedule.ensures.value) c.in_ok-corners.ensures.are;
  corner = c.in_ok-corner.corner;
  is_corner = subst (λ (l : List FuncPlan). IsCorner l places.Root c.args.of.now.computed.own.now c.in_ok-corner.corner) (c.as_slice-plans.ensures
      ∙ ap (λ (s : Schedule). s.funcs) c.schedule-schedule.ensures.value)
      c.in_ok-corner.ensures.is;
  stores = subst (λ (l : List Corner). spec.StoresUpdate l (flagged (flags_of c.args.plan.now.schedule.standings)) c.args.plan.now.pipeline.funcs
      c.args.of.now.computed.place c.in_ok-corner.corner c.args.of.now.update.now c.in_ok-statement.statement)
      c.as_slice-2.ensures.value c.in_ok-statement.ensures.stores;
  hits = subst (λ (l : List Corner). spec.HitsUpdate l (flagged (flags_of c.args.plan.now.schedule.standings)) c.args.plan.now.pipeline.funcs
      c.args.of.now.computed.place c.in_ok-corner.corner c.args.of.now.update.now c.in_ok-statement.statement)
      c.as_slice-2.ensures.value c.in_ok-statement.ensures.hits;
  sound = subst (λ (l : List Corner). spec.IsSoundUpdate l (flagged (flags_of c.args.plan.now.schedule.standings)) c.args.plan.now.pipeline.funcs
      c.args.of.now.computed.place c.in_ok-corner.corner c.args.of.now.update.now c.in_ok-statement.statement)
      c.as_slice-2.ensures.value c.in_ok-statement.ensures.sound;
}

pub returns-clause-sizes : goal.returns-clause-sizes
returns-clause-sizes c = c.in_ok-statement.ensures.sizes (subst AreShort (sym c.as_slice-2.ensures.value) c.in_ok-corners.ensures.short) c.in_ok-corner.ensures.short
