use Rattle.std.proofs.Common.{◌≡◌, Option, Some, List, sym, ap, subst, ◌∙◌, arith}
use Rattle.bounds.specs.declared.verdict.Boxes.{Boxes}
use Rattle.schedule.specs.declared.schedules.Schedule.{Schedule}
use Rattle.std.specs.Prelude.{slice_get}
use Rattle.lowering_expressions.specs.declared.calls.Corner.{Corner}
use Rattle.lowering.specs.Updates.{DoesUpdate, AreSoundLoops}
use Rattle.lowering.proofs.Alone.{both_alone}
use Rattle.lowering.proofs.UpdateFilling.{computed_in, corner_there, one_more_stage, one_more_sound, same_corners, nothing_there}
use Rattle.std.proofs.lemmas.Bool.{and_from}
use Rattle.loop_ir.specs.LoopLanes.{may_be_at_once}
use Rattle.loop_ir.specs.Runs.{is_about}
use Rattle.halide_pipeline.specs.declared.definitions.Update.{Update}
use Rattle.schedule_lines.specs.declared.stages.Stage.{Stage}
use Rattle.bounds_weights.specs.Weight.{flags_of, update_nodes, stage_weight}
use Rattle.lowering_expressions.specs.Sizing.{AreShort}
use Rattle.lowering.specs.Sizes.{update_share}
use Rattle.lowering.proofs.consuming.with_update.Goals as goal

pub returns-in_default : goal.returns-in_default
returns-in_default c =
    absurd (nothing_there (slice_get c.in_ok-corners.corners.items c.args.of.now.computed.place)
    (corner_there c.args.plan.now.pipeline c.args.plan.now.schedule c.args.plan.now.boxes c.schedule-schedule.ensures.plan.accepted
    c.schedule-schedule.ensures.plan.boxes c.args.at c.args.of.now.computed.place c.args.of.now.computed.func.now c.args.of.now.computed.plan.now
    c.args.of.now.computed.own.now c.requires.parts c.in_ok-corners.corners.items
    (same_corners c.args.plan.now.schedule.funcs c.as_slice-plans.result.now c.args.plan.now.boxes.funcs c.as_slice.result.now
    c.args.plan.now.schedule.standings c.as_slice-standings.result.now c.in_ok-corners.corners.items (c.as_slice-plans.ensures
    ∙ ap (λ (s : Schedule). s.funcs) c.schedule-schedule.ensures.value) (c.as_slice.ensures.value ∙ ap (λ (b : Boxes). b.funcs) c.boxes.ensures.value)
    (c.as_slice-standings.ensures ∙ ap (λ (s : Schedule). s.standings) c.schedule-schedule.ensures.value) c.in_ok-corners.ensures.are))
    (c.in_default.ensures ∙ ap (λ (l : List Corner). slice_get l c.args.of.now.computed.place) c.deref.ensures.value))

pub update_nest-requires-clause-computed : goal.update_nest-requires-clause-computed
update_nest-requires-clause-computed c =
    computed_in c.args.plan.now.pipeline c.args.plan.now.schedule c.args.plan.now.boxes c.schedule-schedule.ensures.plan.accepted
    c.schedule-schedule.ensures.plan.boxes c.args.at c.args.of.now.computed.place c.args.of.now.computed.func.now c.args.of.now.computed.plan.now
    c.args.of.now.computed.own.now c.requires.parts

pub update_nest-requires-clause-corner : goal.update_nest-requires-clause-corner
update_nest-requires-clause-corner c = ap (λ (l : List Corner). slice_get l c.args.of.now.computed.place) (c.deref-2.ensures.value ∙ sym c.deref.ensures.value)
    ∙ sym c.in-Some.ensures

pub returns-clause-does : goal.returns-clause-does
returns-clause-does c =
    one_more_stage c.args.plan.now.pipeline c.args.plan.now.schedule c.args.plan.now.boxes c.schedule-schedule.ensures.plan.accepted
    c.schedule-schedule.ensures.plan.boxes c.args.at c.args.of.now.computed.place c.args.of.now.computed.func.now c.args.of.now.computed.plan.now
    c.args.of.now.computed.own.now c.requires.parts c.in_ok-corners.corners.items
    (same_corners c.args.plan.now.schedule.funcs c.as_slice-plans.result.now c.args.plan.now.boxes.funcs c.as_slice.result.now
    c.args.plan.now.schedule.standings c.as_slice-standings.result.now c.in_ok-corners.corners.items (c.as_slice-plans.ensures
    ∙ ap (λ (s : Schedule). s.funcs) c.schedule-schedule.ensures.value) (c.as_slice.ensures.value ∙ ap (λ (b : Boxes). b.funcs) c.boxes.ensures.value)
    (c.as_slice-standings.ensures ∙ ap (λ (s : Schedule). s.standings) c.schedule-schedule.ensures.value) c.in_ok-corners.ensures.are)
    c.in-Some.corner.now (ap (λ (l : List Corner). slice_get l c.args.of.now.computed.place) (sym c.deref.ensures.value) ∙ sym c.in-Some.ensures)
    c.args.of.now.at c.args.of.now.update.now c.requires.update.update_is c.args.before c.in_ok-next.next c.in_ok-statement.statement c.in_ok-statement.ensures
    c.requires.before
    (subst (λ (l : List Corner). DoesUpdate c.args.plan.now.pipeline c.args.plan.now.schedule c.args.plan.now.boxes l c.args.of.now.computed.place
    c.args.of.now.computed.func.now c.in-Some.corner.now c.args.of.now.computed.own.now c.args.of.now.at c.args.of.now.update.now c.in_ok-next.next)
    c.deref-2.ensures.value c.in_ok-next.ensures.does)

pub returns-clause-alone : goal.returns-clause-alone
returns-clause-alone c = both_alone c.args.of.now.computed.place c.args.before c.in_ok-next.next c.in_ok-statement.statement c.in_ok-statement.ensures c.requires.alone
    c.in_ok-next.ensures.alone

pub returns-clause-sound : goal.returns-clause-sound
returns-clause-sound c =
    one_more_sound c.args.plan.now.pipeline c.args.plan.now.schedule c.args.plan.now.boxes c.schedule-schedule.ensures.plan.accepted
    c.schedule-schedule.ensures.plan.boxes c.args.at c.args.of.now.computed.place c.args.of.now.computed.func.now c.args.of.now.computed.plan.now
    c.args.of.now.computed.own.now c.requires.parts c.in_ok-corners.corners.items
    (same_corners c.args.plan.now.schedule.funcs c.as_slice-plans.result.now c.args.plan.now.boxes.funcs c.as_slice.result.now
    c.args.plan.now.schedule.standings c.as_slice-standings.result.now c.in_ok-corners.corners.items (c.as_slice-plans.ensures
    ∙ ap (λ (s : Schedule). s.funcs) c.schedule-schedule.ensures.value) (c.as_slice.ensures.value ∙ ap (λ (b : Boxes). b.funcs) c.boxes.ensures.value)
    (c.as_slice-standings.ensures ∙ ap (λ (s : Schedule). s.standings) c.schedule-schedule.ensures.value) c.in_ok-corners.ensures.are)
    c.in-Some.corner.now (ap (λ (l : List Corner). slice_get l c.args.of.now.computed.place) (sym c.deref.ensures.value) ∙ sym c.in-Some.ensures)
    c.args.of.now.at c.args.of.now.update.now c.requires.update.update_is c.args.before c.in_ok-next.next c.in_ok-statement.statement c.in_ok-statement.ensures
    c.requires.sound
    (subst (λ (l : List Corner). AreSoundLoops c.args.plan.now.pipeline c.args.plan.now.schedule c.args.plan.now.boxes l c.args.of.now.computed.place
    c.in-Some.corner.now c.args.of.now.computed.own.now c.args.of.now.update.now c.in_ok-next.next) c.deref-2.ensures.value c.in_ok-next.ensures.sound)

pub returns-clause-at_once : goal.returns-clause-at_once
returns-clause-at_once c = λ reads values small.
    c.in_ok-statement.ensures.at_once reads values
    ∙ and_from (may_be_at_once reads c.args.before values) (may_be_at_once reads c.in_ok-next.next values) (c.requires.at_once reads values small)
    (c.in_ok-next.ensures.at_once reads values small)

pub returns-clause-about : goal.returns-clause-about
returns-clause-about c =
    c.in_ok-statement.ensures.about c.args.of.now.computed.place
    ∙ and_from (is_about c.args.of.now.computed.place c.args.before) (is_about c.args.of.now.computed.place c.in_ok-next.next) c.requires.about
    c.in_ok-next.ensures.about

pub returns-clause-sizes : goal.returns-clause-sizes
returns-clause-sizes c =
    let flags = flags_of c.args.plan.now.schedule.standings in
    let own : update_share flags c.args.plan.now.pipeline.funcs (slice_get c.args.of.now.computed.func.now.updates c.args.of.now.at)
    (slice_get c.args.of.now.computed.plan.now.updates c.args.of.now.at)
    ≡ stage_weight (update_nodes flags c.args.plan.now.pipeline.funcs c.args.of.now.update.now) c.args.of.now.stage.now
    = ap (λ (u : Option Update). update_share flags c.args.plan.now.pipeline.funcs u (slice_get c.args.of.now.computed.plan.now.updates c.args.of.now.at))
    c.requires.update.update_is
    ∙ ap (λ (s : Option Stage). update_share flags c.args.plan.now.pipeline.funcs (Some c.args.of.now.update.now) s) c.requires.update.stage_is in
    let next = c.in_ok-next.ensures.sizes (subst AreShort (sym c.deref-2.ensures.value) c.in_ok-corners.ensures.short) in
    let both = c.in_ok-statement.ensures.size_is in
    let before = c.requires.sizes in
    omega (arith, own, next, both, before)
